use Rattle.std.proofs.Common.{◌≡◌, ◌≤◌, ◌<◌, ◌+◌, ◌^◌, ◌∙◌, ℕ, true, false, List, None, length, sym, subst, ap, arith, inl, inr}
use Rattle.std.specs.Prelude.{All}
use Rattle.std.proofs.lemmas.Bool.{cases_lt}
use Rattle.rtr_bytes.specs.Checks.{first_fault}
use Rattle.cli_assembly.specs.Assemblies.{Assembly, assembly_of}
use Rattle.cli_assembly.specs.Checks.{assembly_checks}
use Rattle.pe_image.specs.Headers.{is_wide, native_of}
use Rattle.pe_image.specs.Places.{aligned}
use Rattle.asm_builder.specs.declared.content.Content.{Content}
use Rattle.asm_builder.specs.Asked.{Asked}
use Rattle.asm_builder.specs.Built.{IsBuilt}
use Rattle.asm_builder.specs.Content.{content_of}
use Rattle.asm_builder.specs.File.{AreSmall, file_of, metadata_bytes}
use Rattle.asm_builder.proofs.Sizes.{file_length}
use Rattle.asm_builder.specs.Sound.{IsSound}
use Rattle.asm_builder.proofs.Assembled.{assembled, passes}
use Rattle.asm_builder.proofs.MetadataAssembled.{is_pe32, is_plain}
use Rattle.asm_builder.proofs.Lengths.{length-file}
use Rattle.asm_builder.proofs.Built.{is_built}
use Rattle.asm_builder.proofs.LengthsSmall.{are_small, length_by_parts, parts_within}
use Rattle.asm_builder.proofs.Rows.{is_spelled}
use Rattle.asm_builder.proofs.SignaturesBack.{SignaturesAreBack}
use Rattle.asm_builder.proofs.builder.Builder.finish.Goals as goal

-- a file within the limit has parts within it
within_limit : (asked : Asked) (entry : ℕ) (bytes : List ℕ) → IsSound asked → bytes ≡ file_of (content_of asked) entry
    → length bytes ≤ 16_777_216 → file_length (content_of asked) ≤ 16_777_216
within_limit asked entry bytes sound e h =
    let size = ap (λ (t : List ℕ). length t) e ∙ length-file (content_of asked) entry (is_spelled asked sound) in
    omega (arith, size, h)

pub of-requires-2 : goal.of-requires-2
of-requires-2 c =
    let sound : IsSound c.args.self = subst IsSound c.self.view_is c.self.invariant.1 in
    let spelled = is_spelled c.args.self sound in
    let made = sym c.in_ok-content.ensures in
    record {
      few = subst (λ (t : Content). All (λ (rows : List (List ℕ)). length rows < 2 ^ 24) t.tables) made spelled.few;
      count = subst (λ (t : Content). length t.tables ≡ 64) made spelled.count;
      heaps = subst AreSmall made (are_small c.args.self sound);
    }

pub file-requires-clause-bodies : goal.file-requires-clause-bodies
file-requires-clause-bodies c =
    (parts_within (length c.in_ok-section.section.bodies) (length c.in_ok-section.section.metadata.items)
    (c.fits.ensures.0 c.if-not-fits.false)).0

pub file-requires-clause-metadata : goal.file-requires-clause-metadata
file-requires-clause-metadata c =
    (parts_within (length c.in_ok-section.section.bodies) (length c.in_ok-section.section.metadata.items)
    (c.fits.ensures.0 c.if-not-fits.false)).1

pub returns-clause-bytes : goal.returns-clause-bytes
returns-clause-bytes c =
    c.in_ok-file.ensures (content_of c.args.self) (c.in_ok-section.ensures.bodies ∙ ap (λ (t : Content). t.bodies) c.in_ok-content.ensures)
    (c.in_ok-section.ensures.metadata ∙ ap metadata_bytes c.in_ok-content.ensures)

pub returns-clause-length : goal.returns-clause-length
returns-clause-length c =
    let sound : IsSound c.args.self = subst IsSound c.self.view_is c.self.invariant.1 in
    let bodies = c.in_ok-section.ensures.bodies ∙ ap (λ (t : Content). t.bodies) c.in_ok-content.ensures in
    let metadata = c.in_ok-section.ensures.metadata ∙ ap metadata_bytes c.in_ok-content.ensures in
    let size =
    length_by_parts (content_of c.args.self) (is_spelled c.args.self sound) (length c.in_ok-section.section.bodies)
    (length c.in_ok-section.section.metadata.items)
    (ap (λ (t : List ℕ). length t) bodies) (ap (λ (t : List ℕ). length t) metadata) in
    let fits : 512 + aligned 512 (72 + length c.in_ok-section.section.bodies + length c.in_ok-section.section.metadata.items)
    ≤ 16_777_216 = c.fits.ensures.0 c.if-not-fits.false in
    let whole =
    ap (λ (t : List ℕ). length t) (returns-clause-bytes c)
    ∙ length-file (content_of c.args.self) c.args.entry (is_spelled c.args.self sound) in
    omega (arith, size, fits, whole)

pub returns-clause-well_formed : goal.returns-clause-well_formed
returns-clause-well_formed c =
    let sound : IsSound c.args.self = subst IsSound c.self.view_is c.self.invariant.1 in
    let e : c.in_ok-file.field-0.items ≡ file_of (content_of c.args.self) c.args.entry = returns-clause-bytes c in
    subst (λ (b : List ℕ). first_fault (assembly_checks b) b ≡ None) (sym e)
    (passes c.args.self c.args.entry sound c.requires.entry
    (within_limit c.args.self c.args.entry c.in_ok-file.field-0.items sound e (returns-clause-length c)))

pub returns-clause-pe32 : goal.returns-clause-pe32
returns-clause-pe32 c =
    let sound : IsSound c.args.self = subst IsSound c.self.view_is c.self.invariant.1 in
    let e : c.in_ok-file.field-0.items ≡ file_of (content_of c.args.self) c.args.entry = returns-clause-bytes c in
    subst (λ (b : List ℕ). is_wide b ≡ false) (sym e)
    (is_pe32 c.args.self c.args.entry sound c.requires.entry
    (within_limit c.args.self c.args.entry c.in_ok-file.field-0.items sound e (returns-clause-length c)))

pub returns-clause-plain : goal.returns-clause-plain
returns-clause-plain c =
    let sound : IsSound c.args.self = subst IsSound c.self.view_is c.self.invariant.1 in
    let e : c.in_ok-file.field-0.items ≡ file_of (content_of c.args.self) c.args.entry = returns-clause-bytes c in
    subst (λ (b : List ℕ). native_of b ≡ None) (sym e)
    (is_plain c.args.self c.args.entry sound c.requires.entry
    (within_limit c.args.self c.args.entry c.in_ok-file.field-0.items sound e (returns-clause-length c)))

pub returns-clause-built : goal.returns-clause-built
returns-clause-built c =
    let sound : IsSound c.args.self = subst IsSound c.self.view_is c.self.invariant.1 in
    let e : c.in_ok-file.field-0.items ≡ file_of (content_of c.args.self) c.args.entry = returns-clause-bytes c in
    let law : SignaturesAreBack = record {
      methods = c.signatures_are_read_back.ensures.methods;
      fields = c.signatures_are_read_back.ensures.fields;
      locals = c.signatures_are_read_back.ensures.locals;
    } in
    subst (λ (b : List ℕ). IsBuilt c.args.self c.args.entry (assembly_of b)) (sym e)
    (subst (λ (a : Assembly). IsBuilt c.args.self c.args.entry a)
    (sym (assembled c.args.self c.args.entry sound c.requires.entry
    (within_limit c.args.self c.args.entry c.in_ok-file.field-0.items sound e (returns-clause-length c))))
    (is_built c.args.self c.args.entry sound law))

pub returns-then-not-fits : goal.returns-then-not-fits
returns-then-not-fits c =
    let sound : IsSound c.args.self = subst IsSound c.self.view_is c.self.invariant.1 in
    let bodies = c.in_ok-section.ensures.bodies ∙ ap (λ (t : Content). t.bodies) c.in_ok-content.ensures in
    let metadata = c.in_ok-section.ensures.metadata ∙ ap metadata_bytes c.in_ok-content.ensures in
    let size =
    length_by_parts (content_of c.args.self) (is_spelled c.args.self sound) (length c.in_ok-section.section.bodies)
    (length c.in_ok-section.section.metadata.items)
    (ap (λ (t : List ℕ). length t) bodies) (ap (λ (t : List ℕ). length t) metadata) in
    let long : 16_777_216 < file_length (content_of c.args.self) = elim (cases_lt 16_777_216 (file_length (content_of c.args.self))) [
      | inl above ↦ above
      | inr within ↦
          let yes : c.fits.result ≡ true = c.fits.ensures.1 (omega (arith, size, within)) in
          let no : c.fits.result ≡ false = c.if-not-fits.true in
          absurd (let x : ⊥ = cc in x)
    ] in
    let whole = length-file (content_of c.args.self) c.args.entry (is_spelled c.args.self sound) in
    let longer : 16_777_216 < length (file_of (content_of c.args.self) c.args.entry) = omega (arith, whole, long) in
    record { bytes = tt; well_formed = tt; built = tt; pe32 = tt; plain = tt; length = tt; too_long = λ e. longer }
