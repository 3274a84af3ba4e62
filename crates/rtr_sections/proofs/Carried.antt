-- A file that was written after an input carries the part.
use Rattle.std.proofs.Common.{◌≡◌, ℕ, ◌+◌, ◌-◌, ◌≤◌, Bool, List, Option, Some, None, All, length, take, drop, ap, subst, ◌∙◌, arith}
use Rattle.std.specs.Prelude.{◌==◌, IsSome, if◌then◌else◌, unwrap_or}
use Rattle.std.proofs.lemmas.Bool.{and_right, ne_eqb}
use Rattle.rtr_bytes.specs.declared.fault.Span.{Span}
use Rattle.rtr_bytes.specs.Field.{field_at, u16_of, u32_of}
use Rattle.pe_image.specs.declared.section.PeSection.{PeSection}
use Rattle.pe_image.specs.Headers.{cli_at, native_of, native_span, place_of}
use Rattle.pe_image.specs.Places.{dat_rva}
use Rattle.pe_image.specs.Written.{HeaderField}
use Rattle.rtr_sections.proofs.ByPlace.{same_field}
use Rattle.rtr_sections.specs.declared.image.Image.{Image}
use Rattle.rtr_sections.specs.Parts.{header_span, highest_row, part_bytes, thunks_of}
use Rattle.rtr_sections.specs.Written.{Carries, IsPlaced, IsWrittenAfter}
use Rattle.rtr_sections.proofs.Stands.{Stands, stands_front}

-- ManagedNativeHeader of a CLI header that was copied from a part
native_copied : (file dat : List ℕ) (cli : ℕ) (span : Span) → cli + 72 ≤ length dat
    → take 72 (drop (cli_at file) file) ≡ take 72 (drop cli dat)
    → u32_of dat (cli + 64) ≡ span.start → u32_of dat (cli + 68) ≡ span.len → (span.len ≡ 0 → ⊥) → native_of file ≡ Some span
native_copied file dat cli span inside same start len some =
    let rva : u32_of file (cli_at file + 64) ≡ span.start = same_field file dat (cli_at file) cli 64 inside (omega arith) same ∙ start in
    let size : u32_of file (cli_at file + 68) ≡ span.len = same_field file dat (cli_at file) cli 68 inside (omega arith) same ∙ len in
    ap (λ (t : ℕ). native_span t (u32_of file (cli_at file + 68))) rva ∙ ap (λ (t : ℕ). native_span span.start t) size
    ∙ ap (λ (b : Bool). if b then None else Some span) (and_right (span.start == 0) (span.len == 0) (ne_eqb span.len 0 some))

-- what the writer of PE files promises makes a file carry the part
pub carried : (sections : List PeSection) (bytes dat cod : List ℕ) (cli : ℕ) (plan : Image) (file : List ℕ) (rows : ℕ)
    → IsWrittenAfter sections bytes dat cod cli plan file
    → All (λ f. IsSome (place_of file f.begin f.length)) plan.functions → IsPlaced file (thunks_of plan.header.sections)
    → highest_row plan.entries ≤ rows
    → Carries file plan (dat_rva sections) rows
carried sections bytes dat cod cli plan file rows b code thunks enough =
    let at = dat_rva sections in
    let start = cli - at in
    let none : HeaderField = record { place = 0; width = 0; number = 0 } in
    let signature : field_at 4 file 60 ≡ Some 64 = b.headers 1 none (omega arith) in
    let machine : field_at 2 file 68 ≡ Some 0xAA64 = b.headers 3 none (omega arith) in
    let low = b.cli_inside.0 in
    let high = b.cli_inside.1 in
    record {
      stands = stands_front file at (part_bytes plan at) b.more (subst (λ (t : List ℕ). Stands file at t) b.begins b.found);
      machine = ap (λ (t : Option ℕ). u16_of file (unwrap_or t 0 + 4)) signature ∙ ap (λ (t : Option ℕ). unwrap_or t 0) machine;
      native = native_copied file dat start (header_span plan at) (omega arith) b.cli_header.1 b.native_rva b.native_size
          (λ none. absurd (let x : ⊥ = omega arith in x));
      code = code;
      thunks = thunks;
      enough_rows = enough;
    }
