-- The stages of a reader of the headers: each keeps the bytes of the one before.
use Rattle.std.proofs.Common.{◌≡◌, ℕ, ◌+◌, List, ◌++◌, Bool, Option, Some, None, sym, ap, ◌∙◌, arith}
use Rattle.std.specs.Prelude.{unwrap_or}
use Rattle.rtr_bytes.specs.declared.fault.Span.{Span}
use Rattle.rtr_bytes.specs.Field.{u32_of}
use Rattle.rtr_bytes.specs.Checks.{first_fault}
use Rattle.rtr_bytes.proofs.Joined.{first_fault-append}
use Rattle.pe_image.specs.declared.section.PeSection.{PeSection}
use Rattle.pe_image.specs.Headers.{Headers, headers_of, machine_of, is_wide, sections_of, cli_at, metadata_place}
use Rattle.pe_image.specs.Headers.{metadata_size, native_span, native_of}
use Rattle.pe_image.specs.Sections.{slice_of_rva}
use Rattle.pe_image.specs.Cli.{IsCliOf}
use Rattle.pe_image.specs.Checks.{coff_checks, optional_checks, section_checks, cli_checks, pe_checks}

-- where the checks before them hold, the first fault is that of the CLI header's checks
pub cli_left : (bytes file read : List ℕ) → file ≡ bytes → read ≡ file
    → first_fault (coff_checks ++ optional_checks) file ≡ None → first_fault section_checks read ≡ None
    → first_fault pe_checks bytes ≡ first_fault cli_checks read
cli_left bytes file read same kept front sections =
    ap (λ (t : List ℕ). first_fault pe_checks t) (sym (kept ∙ same))
    ∙ first_fault-append (coff_checks ++ optional_checks) (section_checks ++ cli_checks) read
    (ap (λ (t : List ℕ). first_fault (coff_checks ++ optional_checks) t) kept ∙ front)
    ∙ first_fault-append section_checks cli_checks read sections

pub headers-are : (bytes read : List ℕ) (machine : ℕ) (wide : Bool) (sections : List PeSection) (cli metadata : Span)
    (flags token : ℕ) (native : Option Span)
    → read ≡ bytes → machine ≡ machine_of read → wide ≡ is_wide read → sections ≡ sections_of read
    → cli ≡ record { start = cli_at read; len = 72 }
    → metadata ≡ record { start = unwrap_or (metadata_place read) 0; len = metadata_size read }
    → flags ≡ u32_of read (cli_at read + 16) → token ≡ u32_of read (cli_at read + 20) → native ≡ native_of read
    → (let h : Headers = record {
      machine = machine;
      wide = wide;
      sections = sections;
      cli = cli;
      metadata = metadata;
      cli_flags = flags;
      entry_token = token;
      native = native;
    } in h) ≡ headers_of bytes
headers-are bytes read machine wide sections cli metadata flags token native same a b c d e f g h =
    rw (a, b, c, d, e, f, g, h) (ap headers_of same)

-- the CLI header at its place, in the bytes that were read
pub cli-is : (bytes read : List ℕ) (sections : List PeSection) (at start rva len flags token native_rva native_len : ℕ)
    (place : Option ℕ) (native : Option Span)
    → read ≡ bytes → sections ≡ sections_of bytes → at ≡ cli_at bytes
    → rva ≡ u32_of read (at + 8) → len ≡ u32_of read (at + 8 + 4) → place ≡ slice_of_rva sections rva len → place ≡ Some start
    → flags ≡ u32_of read (at + 16) → token ≡ u32_of read (at + 20)
    → native_rva ≡ u32_of read (at + 64) → native_len ≡ u32_of read (at + 64 + 4) → native ≡ native_span native_rva native_len
    → IsCliOf bytes (record {
      header = record { start = at; len = 72 };
      metadata = record { start = start; len = len };
      flags = flags;
      entry_token = token;
      native = native;
    })
cli-is bytes read sections at start rva len flags token native_rva native_len place native same table here a b found is c d e f g =
    let twelve : at + 8 + 4 ≡ cli_at bytes + 12 = omega (arith, here) in
    let sixty_eight : at + 64 + 4 ≡ cli_at bytes + 68 = omega (arith, here) in
    let at_place = λ (t : ℕ). ap (λ (b : List ℕ). u32_of b t) same in
    let rva-is : rva ≡ u32_of bytes (cli_at bytes + 8) = a ∙ at_place (at + 8) ∙ ap (λ (t : ℕ). u32_of bytes (t + 8)) here in
    let len-is : len ≡ metadata_size bytes = b ∙ at_place (at + 8 + 4) ∙ ap (λ (t : ℕ). u32_of bytes t) twelve in
    let place-is : metadata_place bytes ≡ Some start =
    ap (λ (t : ℕ). slice_of_rva (sections_of bytes) t (metadata_size bytes)) (sym rva-is)
    ∙ ap (λ (t : ℕ). slice_of_rva (sections_of bytes) rva t) (sym len-is)
    ∙ ap (λ (t : List PeSection). slice_of_rva t rva len) (sym table) ∙ sym found ∙ is in
    let native-is : native ≡ native_of bytes =
    g ∙ ap (λ (t : ℕ). native_span t native_len) (e ∙ at_place (at + 64) ∙ ap (λ (t : ℕ). u32_of bytes (t + 64)) here)
    ∙ ap (λ (t : ℕ). native_span (u32_of bytes (cli_at bytes + 64)) t)
    (f ∙ at_place (at + 64 + 4) ∙ ap (λ (t : ℕ). u32_of bytes t) sixty_eight) in
    record {
      header = ap (λ (t : ℕ). (let s : Span = record { start = t; len = 72 } in s)) here;
      metadata = ap (λ (t : ℕ). (let s : Span = record { start = start; len = t } in s)) len-is
          ∙ ap (λ (t : Option ℕ). (let s : Span = record { start = unwrap_or t 0; len = metadata_size bytes } in s)) (sym place-is);
      flags = c ∙ at_place (at + 16) ∙ ap (λ (t : ℕ). u32_of bytes (t + 16)) here;
      entry_token = d ∙ at_place (at + 20) ∙ ap (λ (t : ℕ). u32_of bytes (t + 20)) here;
      native = native-is;
    }
