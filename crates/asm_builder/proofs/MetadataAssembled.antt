-- All parts of a built file, joined: what it is read as, for any list that has each method's body, and that it passes every check.
use Rattle.std.proofs.Common.{◌≡◌, ◌≤◌, ◌<◌, ◌+◌, ◌/◌, ◌^◌, ◌++◌, ◌∙◌, ℕ, List, length, get_or, Option, Some}
use Rattle.std.proofs.Common.{None, false, ap, arith, inl, inr}
use Rattle.std.specs.Prelude.{slice_get}
use Rattle.std.proofs.lemmas.Bool.{eqb-true}
use Rattle.rtr_bytes.specs.declared.fault.Span.{Span}
use Rattle.rtr_bytes.specs.Checks.{first_fault}
use Rattle.rtr_bytes.proofs.Joined.{first_fault-append}
use Rattle.pe_image.specs.Checks.{pe_checks}
use Rattle.pe_image.specs.Headers.{is_wide, native_of}
use Rattle.metadata.specs.Checks.{metadata_checks}
use Rattle.metadata.specs.declared.schema.Table.TheVariants as tables
use Rattle.cli_assembly.specs.Assemblies.{assembly_of}
use Rattle.cli_assembly.specs.Bodies.{MethodBody}
use Rattle.cli_assembly.specs.Checks.{assembly_checks, body_checks, metadata_of}
use Rattle.asm_builder.specs.declared.asked.Method.{Method}
use Rattle.asm_builder.specs.declared.content.Content.{Content}
use Rattle.asm_builder.specs.Asked.{Asked}
use Rattle.asm_builder.specs.Content.{content_of}
use Rattle.asm_builder.specs.File.{file_of}
use Rattle.asm_builder.proofs.Sizes.{file_length, metadata_length}
use Rattle.asm_builder.specs.Sound.{IsEntry, IsSound}
use Rattle.asm_builder.proofs.BodiesBack.{locals_before}
use Rattle.asm_builder.proofs.ColumnsValid.{columns_pass}
use Rattle.asm_builder.proofs.Lengths.{length-metadata}
use Rattle.asm_builder.proofs.MetadataBack.{span_in}
use Rattle.asm_builder.proofs.MetadataJoined.{assembly_is, metadata_passes}
use Rattle.asm_builder.proofs.PeBack.{IsShort, entry_is, flags_are, metadata_span, metadata_stands, narrow_is, native_is, pe_passes}
use Rattle.asm_builder.proofs.PeSizes.{aligned-512}
use Rattle.asm_builder.proofs.Rows.{is_spelled}
use Rattle.asm_builder.proofs.TablesBack.{IsSpelled}
use Rattle.asm_builder.proofs.TablesMethods.{bodies_back, bodies_pass, body_of_method, length-cells}

-- a file that is not too long has a section that is not
pub short_is : (content : Content) → IsSpelled content → file_length content ≤ 16_777_216 → IsShort content
unfolding file_length
short_is content spelled fits =
    let size = length-metadata content spelled in
    let near = aligned-512 (72 + (length content.bodies + metadata_length content)) in
    omega (arith, size, near.low, fits)

pub entry_small : (asked : Asked) (entry : ℕ) → IsEntry asked entry → entry < 2 ^ 32
entry_small asked entry (inl none) = let e = eqb-true entry 0 none in omega (arith, e)
entry_small asked entry (inr (table, row)) = let e = eqb-true (entry / 2 ^ 24) 6 table in omega (arith, e)

module _ (asked : Asked) (entry : ℕ) (sound : IsSound asked) (is_entry : IsEntry asked entry)
    (fits : file_length (content_of asked) ≤ 16_777_216) where
  abbrev bytes : List ℕ
  bytes = file_of (content_of asked) entry

  short : IsShort (content_of asked)
  short = short_is (content_of asked) (is_spelled asked sound) fits

  small : entry < 2 ^ 32
  small = entry_small asked entry is_entry

  -- what it is read as
  pub assembled_with : (bodies : List (Option MethodBody)) → length bodies ≡ length asked.methods
      → ((i : ℕ) (m : Method) → slice_get asked.methods i ≡ Some m
      → get_or bodies i None ≡ body_of_method (locals_before 0 asked.methods i) m)
      → assembly_of bytes
      ≡ record {
        tables = (content_of asked).tables;
        strings = (content_of asked).strings;
        user_strings =
            (content_of asked).user_strings;
        guids = (content_of asked).guids;
        blobs = (content_of asked).blobs;
        bodies = bodies;
        flags =
            1;
        entry_token = entry;
      }
  assembled_with bodies same each =
      let content = content_of asked in
      let there = metadata_stands content entry short small in
      assembly_is bytes content (is_spelled asked sound) short there.0 there.1 bodies 1 entry (metadata_span content entry short small)
      (bodies_back asked entry sound short small bodies same each) (flags_are content entry short small)
      (entry_is content entry short small)

  -- it is PE32, without a native header
  pub is_pe32 : is_wide bytes ≡ false
  is_pe32 = narrow_is (content_of asked) entry short small

  pub is_plain : native_of bytes ≡ None
  is_plain = native_is (content_of asked) entry short small

  -- and every check passes
  pub passes_all : first_fault (assembly_checks bytes) bytes ≡ None
  unfolding assembly_checks
  passes_all =
      let content = content_of asked in
      let spelled = is_spelled asked sound in
      let there = metadata_stands content entry short small in
      let columns = columns_pass bytes asked sound short there.0 there.1 in
      let metadata =
      metadata_passes bytes content spelled short there.0 there.1 (length-cells asked tables.Module) (length-cells asked tables.Assembly)
      columns in
      first_fault-append pe_checks (metadata_checks (metadata_of bytes) ++ body_checks (metadata_of bytes)) bytes
      (pe_passes content entry short small)
      ∙ ap (λ (span : Span). first_fault (metadata_checks span ++ body_checks span) bytes) (metadata_span content entry short small)
      ∙ first_fault-append (metadata_checks (span_in content)) (body_checks (span_in content)) bytes metadata
      ∙ bodies_pass asked entry sound short small
