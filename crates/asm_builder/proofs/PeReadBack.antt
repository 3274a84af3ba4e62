-- The headers of a file of PE32 with one section, read back: its section table, where the CLI header is, and the checks.
use Rattle.std.proofs.Common.{◌≡◌, ℕ, ◌+◌, ◌-◌, ◌*◌, ◌≤◌, Bool, true, false, ◌&&◌, ◌||◌, List, [], ◌∷◌, ◌++◌, length}
use Rattle.std.proofs.Common.{Option, Some, None, ap, ◌∙◌, arith}
use Rattle.std.specs.Prelude.{nat_le, if◌then◌else◌, ◌==◌, unwrap_or, is_some}
use Rattle.std.specs.Option.{option_map}
use Rattle.std.proofs.lemmas.Bool.{le-leb, and_from}
use Rattle.rtr_bytes.specs.Field.{u16_of, u32_of}
use Rattle.rtr_bytes.specs.Checks.{holds_or, first_fault, records}
use Rattle.pe_image.specs.Sections.{section_at}
use Rattle.pe_image.specs.Headers.{pe_at, section_count, optional_size, optional_at, magic_of}
use Rattle.pe_image.specs.Headers.{directories_offset, directory_count_at, cli_directory_at, section_table_at}
use Rattle.pe_image.specs.Headers.{is_wide, sections_of, place_of, cli_at, metadata_place}
use Rattle.pe_image.specs.Checks.{coff_checks, optional_checks, section_checks, directory_checks, cli_header_checks, cli_checks, pe_checks}
use Rattle.pe_image.specs.Places.{AreLaid}
use Rattle.pe_image.proofs.ReadBack.{AllPass, pass-by, raw_ranges}

-- the headers, as the checks read them
pub record HasPe (out : List ℕ) : Type 0 where
  pub long : 352 ≤ length out
  pub dos : u16_of out 0 ≡ 0x5A4D
  pub pe : u32_of out 60 ≡ 64
  pub signature : u32_of out 64 ≡ 0x4550
  pub sections : u16_of out 70 ≡ 1
  pub optional_size : u16_of out 84 ≡ 224
  pub magic : u16_of out 88 ≡ 0x10B
  pub directories : u32_of out 180 ≡ 16
  pub cli_rva : u32_of out 296 ≡ 0x2000
  pub cli_size : u32_of out 300 ≡ 72

record Where (out : List ℕ) : Type 0 where
  optional : optional_at out ≡ 88
  size : optional_size out ≡ 224
  magic : magic_of out ≡ 0x10B
  directories : directories_offset out ≡ 96
  table : section_table_at out ≡ 312
  count : section_count out ≡ 1
  count_at : directory_count_at out ≡ 180
  cli : cli_directory_at out ≡ 296

places : (out : List ℕ) → HasPe out → Where out
places out h =
    let o : optional_at out ≡ 88 = ap (λ (t : ℕ). t + 24) h.pe in
    let s : optional_size out ≡ 224 = ap (λ (t : ℕ). u16_of out (t + 20)) h.pe ∙ h.optional_size in
    let m : magic_of out ≡ 0x10B = ap (λ (t : ℕ). u16_of out t) o ∙ h.magic in
    let d : directories_offset out ≡ 96 = ap (λ (t : ℕ). if t == 0x20B then 112 else 96) m in
    record {
      optional = o;
      size = s;
      magic = m;
      directories = d;
      table = omega (arith, o, s);
      count = ap (λ (t : ℕ). u16_of out (t + 6)) h.pe ∙ h.sections;
      count_at = ap (λ (t : ℕ). t + directories_offset out - 4) o ∙ ap (λ (t : ℕ). 88 + t - 4) d;
      cli = ap (λ (t : ℕ). t + directories_offset out + 112) o ∙ ap (λ (t : ℕ). 88 + t + 112) d;
    }

pub sections_at : (out : List ℕ) → HasPe out → sections_of out ≡ section_at out 312 ∷ []
sections_at out h =
    let w = places out h in
    ap (λ (t : ℕ). records (section_at out) t 40 (section_count out)) w.table ∙ ap (λ (t : ℕ). records (section_at out) 312 40 t) w.count

pub not_wide : (out : List ℕ) → HasPe out → is_wide out ≡ false
not_wide out h = ap (λ (t : ℕ). t == 0x20B) (places out h).magic

-- ---- the checks

holds : (b : Bool) (place : ℕ) → b ≡ true → holds_or b place ≡ None
holds b place h = ap (λ (t : Bool). holds_or t place) h

coff_pass : (out : List ℕ) → HasPe out → AllPass coff_checks out
coff_pass out h =
    let w = places out h in
    let c1 : nat_le 64 (length out) ≡ true = le-leb 64 (length out) (omega (arith, h.long)) in
    let c2 : (u16_of out 0 == 0x5A4D) ≡ true = ap (λ (t : ℕ). t == 0x5A4D) h.dos in
    let c3 : nat_le (pe_at out + 24) (length out) ≡ true = le-leb (pe_at out + 24) (length out) (omega (arith, h.pe, h.long)) in
    let c4 : (u32_of out (pe_at out) == 0x4550) ≡ true = ap (λ (t : ℕ). u32_of out t == 0x4550) h.pe
    ∙ ap (λ (t : ℕ). t == 0x4550) h.signature in
    let c6 : nat_le (section_table_at out) (length out) ≡ true =
    le-leb (section_table_at out) (length out) (omega (arith, w.table, h.long)) in (
      holds (nat_le 64 (length out)) (length out) c1,
      (
        holds (u16_of out 0 == 0x5A4D) 0 c2,
        (
          holds (nat_le (pe_at out + 24) (length out)) 60 c3,
          (
            holds (u32_of out (pe_at out) == 0x4550) (pe_at out) c4,
            (holds (nat_le (section_table_at out) (length out)) (pe_at out + 20) c6, tt),
          ),
        ),
      ),
    )

optional_pass : (out : List ℕ) → HasPe out → AllPass optional_checks out
optional_pass out h =
    let w = places out h in
    let c7 : (nat_le 2 (optional_size out) && (magic_of out == 0x10B || magic_of out == 0x20B)) ≡ true =
    and_from (nat_le 2 (optional_size out)) (magic_of out == 0x10B || magic_of out == 0x20B)
    (le-leb 2 (optional_size out) (omega (arith, w.size))) (ap (λ (t : ℕ). t == 0x10B || t == 0x20B) w.magic) in
    let c8 : nat_le (directories_offset out + 120) (optional_size out) ≡ true =
    le-leb (directories_offset out + 120) (optional_size out) (omega (arith, w.size, w.directories)) in
    let sixteen : u32_of out (directory_count_at out) ≡ 16 = ap (λ (t : ℕ). u32_of out t) w.count_at ∙ h.directories in
    let c9 : nat_le 15 (u32_of out (directory_count_at out)) ≡ true =
    le-leb 15 (u32_of out (directory_count_at out)) (omega (arith, sixteen)) in
    let c10 : nat_le (section_table_at out + 40 * section_count out) (length out) ≡ true =
    le-leb (section_table_at out + 40 * section_count out) (length out) (omega (arith, w.table, w.count, h.long)) in (
      holds (nat_le 2 (optional_size out) && (magic_of out == 0x10B || magic_of out == 0x20B)) (optional_at out) c7,
      (
        holds (nat_le (directories_offset out + 120) (optional_size out)) (pe_at out + 20) c8,
        (
          holds (nat_le 15 (u32_of out (directory_count_at out))) (directory_count_at out) c9,
          (holds (nat_le (section_table_at out + 40 * section_count out) (length out)) (pe_at out + 6) c10, tt),
        ),
      ),
    )

section_pass : (out : List ℕ) (from : ℕ) → AreLaid from (sections_of out) (length out) → AllPass section_checks out
section_pass out from laid =
    (ap (λ (t : Option ℕ). option_map (λ at. at + 20) t) (raw_ranges (section_count out) out (section_table_at out) from laid), tt)

-- the CLI header's place is the one that directory 14 names
cli_place : (out : List ℕ) (place : ℕ) → HasPe out → place_of out 0x2000 72 ≡ Some place
    → place_of out (u32_of out (cli_directory_at out)) 72 ≡ Some place
cli_place out place h e =
    let w = places out h in
    ap (λ (t : ℕ). place_of out (u32_of out t) 72) w.cli ∙ ap (λ (t : ℕ). place_of out t 72) h.cli_rva ∙ e

pub cli_at-is : (out : List ℕ) (place : ℕ) → HasPe out → place_of out 0x2000 72 ≡ Some place → cli_at out ≡ place
cli_at-is out place h e = ap (λ (t : Option ℕ). unwrap_or t 0) (cli_place out place h e)

directory_pass : (out : List ℕ) (place : ℕ) → HasPe out → place_of out 0x2000 72 ≡ Some place → AllPass directory_checks out
directory_pass out place h e =
    let w = places out h in
    let size : u32_of out (cli_directory_at out + 4) ≡ 72 = ap (λ (t : ℕ). u32_of out (t + 4)) w.cli ∙ h.cli_size in
    let found : is_some (place_of out (u32_of out (cli_directory_at out)) 72) ≡ true =
    ap (λ (t : Option ℕ). is_some t) (cli_place out place h e) in
    let c12 : (nat_le 72 (u32_of out (cli_directory_at out + 4)) && is_some (place_of out (u32_of out (cli_directory_at out)) 72)) ≡ true =
    and_from (nat_le 72 (u32_of out (cli_directory_at out + 4))) (is_some (place_of out (u32_of out (cli_directory_at out)) 72))
    (le-leb 72 (u32_of out (cli_directory_at out + 4)) (omega (arith, size))) found in (
      holds (nat_le 72 (u32_of out (cli_directory_at out + 4)) && is_some (place_of out (u32_of out (cli_directory_at out)) 72))
          (cli_directory_at out) c12,
      tt,
    )

cli_header_pass : (out : List ℕ) (place : ℕ) → cli_at out ≡ place → u32_of out place ≡ 72 → is_some (metadata_place out) ≡ true
    → AllPass cli_header_checks out
cli_header_pass out place here cb found =
    let own : u32_of out (cli_at out) ≡ 72 = ap (λ (t : ℕ). u32_of out t) here ∙ cb in (
      holds (nat_le 72 (u32_of out (cli_at out))) (cli_at out) (le-leb 72 (u32_of out (cli_at out)) (omega (arith, own))),
      (holds (is_some (metadata_place out)) (cli_at out + 8) found, tt),
    )

-- a file passes them where its section is in the file, and its CLI header, at a place, names metadata in a section
pub all_pass : (out : List ℕ) (place from : ℕ) → HasPe out → AreLaid from (sections_of out) (length out)
    → place_of out 0x2000 72 ≡ Some place → u32_of out place ≡ 72 → is_some (metadata_place out) ≡ true
    → first_fault pe_checks out ≡ None
all_pass out place from h laid e cb found =
    pass-by coff_checks (optional_checks ++ section_checks ++ cli_checks) out (coff_pass out h)
    ∙ pass-by optional_checks (section_checks ++ cli_checks) out (optional_pass out h)
    ∙ pass-by section_checks cli_checks out (section_pass out from laid)
    ∙ pass-by directory_checks cli_header_checks out (directory_pass out place h e)
    ∙ pass-by cli_header_checks [] out (cli_header_pass out place (cli_at-is out place h e) cb found)
