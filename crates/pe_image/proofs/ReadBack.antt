-- The written file, read back: its headers pass the checks up to the CLI header's.
use Rattle.std.proofs.Common.{◌≡◌, ℕ, zero, suc, ◌+◌, ◌-◌, ◌*◌, ◌≤◌, Bool, true, ◌&&◌, ◌||◌, List, [], ◌∷◌, ◌++◌}
use Rattle.std.proofs.Common.{length, take, drop, Option, Some, None, refl, sym, ap, ◌∙◌, arith, length-drop}
use Rattle.std.proofs.Common.{length-take}
use Rattle.std.specs.Prelude.{nat_le, if◌then◌else◌, ◌==◌, unwrap_or, is_some}
use Rattle.std.specs.Option.{option_map}
use Rattle.std.proofs.lemmas.Bool.{le-leb, and_from, or_right}
use Rattle.std.proofs.lemmas.List.{drop-drop, take-append-drop, drop-append-le, length-take-le}
use Rattle.byteorder.specs.Endian.{little_number}
use Rattle.byteorder.specs.Numbers.{little_from-append}
use Rattle.rtr_bytes.specs.declared.fault.Fault.{Fault}
use Rattle.rtr_bytes.specs.Field.{u16_of, u32_of}
use Rattle.rtr_bytes.specs.Checks.{Check, check, holds_or, fault_or, first_fault, first_record, records}
use Rattle.pe_image.specs.declared.section.PeSection.{PeSection}
use Rattle.pe_image.specs.Sections.{section_at}
use Rattle.pe_image.specs.Headers.{pe_at, section_count, optional_size, optional_at, magic_of, is_wide}
use Rattle.pe_image.specs.Headers.{directories_offset, directory_count_at, cli_directory_at, section_table_at}
use Rattle.pe_image.specs.Headers.{sections_of, place_of, cli_at, metadata_place}
use Rattle.pe_image.specs.Checks.{coff_checks, optional_checks, section_checks, directory_checks, cli_header_checks}
use Rattle.pe_image.specs.Checks.{cli_checks, pe_checks, raw_range_fits}
use Rattle.pe_image.specs.Places.{headers_end, AreLaid}
use Rattle.pe_image.proofs.NumbersInARow.{field_at-is}

-- the headers, as the checks read them
pub record HasHeaders (out : List ℕ) (count cli : ℕ) : Type 0 where
  pub long : headers_end count ≤ length out
  pub dos : u16_of out 0 ≡ 0x5A4D
  pub pe : u32_of out 60 ≡ 64
  pub signature : u32_of out 64 ≡ 0x4550
  pub sections : u16_of out 70 ≡ count
  pub optional_size : u16_of out 84 ≡ 240
  pub magic : u16_of out 88 ≡ 0x20B
  pub directories : u32_of out 196 ≡ 16
  pub cli_rva : u32_of out 312 ≡ cli
  pub cli_size : u32_of out 316 ≡ 72

abbrev pub Where : List ℕ → ℕ → Type 0
Where out count = (optional_at out ≡ 88) × (optional_size out ≡ 240) × (directories_offset out ≡ 112) × (section_table_at out ≡ 328) ×
    (section_count out ≡ count)

wide_is : (out : List ℕ) (count cli : ℕ) → HasHeaders out count cli → is_wide out ≡ true
wide_is out count cli h = ap (λ (t : ℕ). u16_of out (t + 24) == 0x20B) h.pe ∙ ap (λ (t : ℕ). t == 0x20B) h.magic

pub places : (out : List ℕ) (count cli : ℕ) → HasHeaders out count cli → Where out count
places out count cli h =
    let o : optional_at out ≡ 88 = ap (λ (t : ℕ). t + 24) h.pe in
    let s : optional_size out ≡ 240 = ap (λ (t : ℕ). u16_of out (t + 20)) h.pe ∙ h.optional_size in
    let d : directories_offset out ≡ 112 = ap (λ (b : Bool). if b then 112 else 96) (wide_is out count cli h) in
    let t : section_table_at out ≡ 328 = omega (arith, o, s) in
    let c : section_count out ≡ count = ap (λ (t : ℕ). u16_of out (t + 6)) h.pe ∙ h.sections in
    (o, s, d, t, c)

pub sections-are : (out : List ℕ) (count cli : ℕ) → HasHeaders out count cli → sections_of out ≡ records (section_at out) 328 40 count
sections-are out count cli h =
    let w = places out count cli h in
    ap (λ (t : ℕ). records (section_at out) t 40 (section_count out)) w.3 ∙ ap (λ (t : ℕ). records (section_at out) 328 40 t) w.4

pub laid_le : (ss : List PeSection) (from file_end : ℕ) → AreLaid from ss file_end → from ≤ file_end
laid_le [] from file_end h = h
laid_le (s ∷ ss) from file_end (low, m, more) = omega (arith, laid_le ss (s.raw_at + s.raw_size) file_end more)

pub raw_ranges : (n : ℕ) (out : List ℕ) (place from : ℕ) → AreLaid from (records (section_at out) place 40 n) (length out)
    → first_record (raw_range_fits out) place 40 n ≡ None
raw_ranges zero out place from h = refl
raw_ranges (suc n) out place from (low, m, more) =
    let s = section_at out place in
    let e : u32_of out (place + 20) + u32_of out (place + 16) ≤ length out =
    laid_le (records (section_at out) (place + 40) 40 n) (u32_of out (place + 20) + u32_of out (place + 16)) (length out) more in
    let fits : raw_range_fits out place ≡ true =
    or_right (u32_of out (place + 16) == 0) (nat_le (u32_of out (place + 20) + u32_of out (place + 16)) (length out))
    (le-leb (u32_of out (place + 20) + u32_of out (place + 16)) (length out) e) in
    ap (λ (b : Bool). if b then first_record (raw_range_fits out) (place + 40) 40 n else Some place) fits
    ∙ raw_ranges n out (place + 40) (u32_of out (place + 20) + u32_of out (place + 16)) more

-- checks that pass come before the first fault
abbrev pub AllPass : List Check → List ℕ → Type 0
AllPass [] bytes = Unit {0}
AllPass (c ∷ cs) bytes = (c.failing_place bytes ≡ None) × AllPass cs bytes

pub pass-by : (cs ds : List Check) (bytes : List ℕ) → AllPass cs bytes → first_fault (cs ++ ds) bytes ≡ first_fault ds bytes
pass-by [] ds bytes h = refl
pass-by (c ∷ cs) ds bytes (h, hs) = ap (λ (t : Option ℕ). fault_or c.number t (first_fault (cs ++ ds) bytes)) h ∙ pass-by cs ds bytes hs

pass_one : (o : Option ℕ) (n : ℕ) (others : Option Fault) (P : Type 0) → (others ≡ None → P) → fault_or n o others ≡ None → (o ≡ None) × P
pass_one None n others P f h = (refl, f h)
pass_one (Some p) n others P f h = absurd (let x : ⊥ = cc in x)

-- and where there is no fault each check passes
pub pass : (cs : List Check) (bytes : List ℕ) → first_fault cs bytes ≡ None → AllPass cs bytes
pass [] bytes h = tt
pass (c ∷ cs) bytes h = pass_one (c.failing_place bytes) (c.number) (first_fault cs bytes) (AllPass cs bytes) (pass cs bytes) h

holds : (b : Bool) (place : ℕ) → b ≡ true → holds_or b place ≡ None
holds b place h = ap (λ (t : Bool). holds_or t place) h

coff_pass : (out : List ℕ) (count cli : ℕ) → HasHeaders out count cli → AllPass coff_checks out
coff_pass out count cli h =
    let w = places out count cli h in
    let c1 : nat_le 64 (length out) ≡ true = le-leb 64 (length out) (omega arith) in
    let c2 : (u16_of out 0 == 0x5A4D) ≡ true = ap (λ (t : ℕ). t == 0x5A4D) h.dos in
    let c3 : nat_le (pe_at out + 24) (length out) ≡ true = le-leb (pe_at out + 24) (length out) (omega (arith, h.pe)) in
    let c4 : (u32_of out (pe_at out) == 0x4550) ≡ true = ap (λ (t : ℕ). u32_of out t == 0x4550) h.pe
    ∙ ap (λ (t : ℕ). t == 0x4550) h.signature in
    let c6 : nat_le (section_table_at out) (length out) ≡ true = le-leb (section_table_at out) (length out) (omega (arith, w.3)) in (
      holds (nat_le 64 (length out)) (length out) c1,
      (
        holds (u16_of out 0 == 0x5A4D) 0 c2,
        (
          holds (nat_le (pe_at out + 24) (length out)) 60 c3,
          (
            holds (u32_of out (pe_at out) == 0x4550) (pe_at out) c4,
            (holds (nat_le (section_table_at out) (length out)) (pe_at out + 20) c6, tt),
          ),
        ),
      ),
    )

optional_pass : (out : List ℕ) (count cli : ℕ) → HasHeaders out count cli → AllPass optional_checks out
optional_pass out count cli h =
    let w = places out count cli h in
    let m : magic_of out ≡ 0x20B = ap (λ (t : ℕ). u16_of out t) w.0 ∙ h.magic in
    let wide : (magic_of out == 0x20B) ≡ true = ap (λ (t : ℕ). t == 0x20B) m in
    let c7 : (nat_le 2 (optional_size out) && (magic_of out == 0x10B || magic_of out == 0x20B)) ≡ true =
    and_from (nat_le 2 (optional_size out)) (magic_of out == 0x10B || magic_of out == 0x20B)
    (le-leb 2 (optional_size out) (omega (arith, w.1))) (or_right (magic_of out == 0x10B) (magic_of out == 0x20B) wide) in
    let c8 : nat_le (directories_offset out + 120) (optional_size out) ≡ true =
    le-leb (directories_offset out + 120) (optional_size out) (omega (arith, w.1, w.2)) in
    let dirs : directory_count_at out ≡ 196 = ap (λ (t : ℕ). t + directories_offset out - 4) w.0 ∙ ap (λ (t : ℕ). 88 + t - 4) w.2 in
    let sixteen : u32_of out (directory_count_at out) ≡ 16 = ap (λ (t : ℕ). u32_of out t) dirs ∙ h.directories in
    let c9 : nat_le 15 (u32_of out (directory_count_at out)) ≡ true =
    le-leb 15 (u32_of out (directory_count_at out)) (omega (arith, sixteen)) in
    let c10 : nat_le (section_table_at out + 40 * section_count out) (length out) ≡ true =
    le-leb (section_table_at out + 40 * section_count out) (length out) (omega (arith, w.3, w.4)) in (
      holds (nat_le 2 (optional_size out) && (magic_of out == 0x10B || magic_of out == 0x20B)) (optional_at out) c7,
      (
        holds (nat_le (directories_offset out + 120) (optional_size out)) (pe_at out + 20) c8,
        (
          holds (nat_le 15 (u32_of out (directory_count_at out))) (directory_count_at out) c9,
          (holds (nat_le (section_table_at out + 40 * section_count out) (length out)) (pe_at out + 6) c10, tt),
        ),
      ),
    )

section_pass : (out : List ℕ) (count cli from : ℕ) → HasHeaders out count cli → AreLaid from (sections_of out) (length out)
    → AllPass section_checks out
section_pass out count cli from h laid =
    (ap (λ (t : Option ℕ). option_map (λ at. at + 20) t) (raw_ranges (section_count out) out (section_table_at out) from laid), tt)

cli_directory-is : (out : List ℕ) (count cli : ℕ) → HasHeaders out count cli → cli_directory_at out ≡ 312
cli_directory-is out count cli h =
    let w = places out count cli h in
    ap (λ (t : ℕ). t + directories_offset out + 112) w.0 ∙ ap (λ (t : ℕ). 88 + t + 112) w.2

-- the CLI header's place is the one that directory 14 names
cli_place : (out : List ℕ) (count cli place : ℕ) → HasHeaders out count cli → place_of out cli 72 ≡ Some place
    → place_of out (u32_of out (cli_directory_at out)) 72 ≡ Some place
cli_place out count cli place h e =
    ap (λ (t : ℕ). place_of out (u32_of out t) 72) (cli_directory-is out count cli h) ∙ ap (λ (t : ℕ). place_of out t 72) h.cli_rva ∙ e

pub cli_at-is : (out : List ℕ) (count cli place : ℕ) → HasHeaders out count cli → place_of out cli 72 ≡ Some place → cli_at out ≡ place
cli_at-is out count cli place h e = ap (λ (t : Option ℕ). unwrap_or t 0) (cli_place out count cli place h e)

directory_pass : (out : List ℕ) (count cli place : ℕ) → HasHeaders out count cli → place_of out cli 72 ≡ Some place
    → AllPass directory_checks out
directory_pass out count cli place h e =
    let size : u32_of out (cli_directory_at out + 4) ≡ 72 = ap (λ (t : ℕ). u32_of out (t + 4)) (cli_directory-is out count cli h)
    ∙ h.cli_size in
    let found : is_some (place_of out (u32_of out (cli_directory_at out)) 72) ≡ true =
    ap (λ (t : Option ℕ). is_some t) (cli_place out count cli place h e) in
    let c12 : (nat_le 72 (u32_of out (cli_directory_at out + 4)) && is_some (place_of out (u32_of out (cli_directory_at out)) 72)) ≡ true =
    and_from (nat_le 72 (u32_of out (cli_directory_at out + 4))) (is_some (place_of out (u32_of out (cli_directory_at out)) 72))
    (le-leb 72 (u32_of out (cli_directory_at out + 4)) (omega (arith, size))) found in (
      holds (nat_le 72 (u32_of out (cli_directory_at out + 4)) && is_some (place_of out (u32_of out (cli_directory_at out)) 72))
          (cli_directory_at out) c12,
      tt,
    )

pub early_pass : (out : List ℕ) (count cli place from : ℕ) → HasHeaders out count cli → AreLaid from (sections_of out) (length out)
    → place_of out cli 72 ≡ Some place → first_fault pe_checks out ≡ first_fault cli_header_checks out
early_pass out count cli place from h laid e =
    pass-by coff_checks (optional_checks ++ section_checks ++ cli_checks) out (coff_pass out count cli h)
    ∙ pass-by optional_checks (section_checks ++ cli_checks) out (optional_pass out count cli h)
    ∙ pass-by section_checks cli_checks out (section_pass out count cli from h laid)
    ∙ pass-by directory_checks cli_header_checks out (directory_pass out count cli place h e)

late_one : (a b : Option ℕ) (f : Fault) → fault_or 13 a (fault_or 14 b None) ≡ Some f → 13 ≤ f.check
late_one (Some p) b f e = let same : record { check = 13; place = p } ≡ f = cc in omega (arith, ap (λ (t : Fault). t.check) same)
late_one None (Some p) f e = let same : record { check = 14; place = p } ≡ f = cc in omega (arith, ap (λ (t : Fault). t.check) same)
late_one None None f e = absurd (let x : ⊥ = cc in x)

-- so a fault is one of the CLI header's own
pub late : (out : List ℕ) (f : Fault) → first_fault cli_header_checks out ≡ Some f → 13 ≤ f.check
late out f e = late_one (holds_or (nat_le 72 (u32_of out (cli_at out))) (cli_at out))
    (holds_or (is_some (metadata_place out)) (cli_at out + 8)) f e

pub none_late : (out : List ℕ) → 72 ≤ u32_of out (cli_at out) → is_some (metadata_place out) ≡ true
    → first_fault cli_header_checks out ≡ None
none_late out cb found =
    pass-by cli_header_checks [] out (
      holds (nat_le 72 (u32_of out (cli_at out))) (cli_at out) (le-leb 72 (u32_of out (cli_at out)) cb),
      (holds (is_some (metadata_place out)) (cli_at out + 8) found, tt),
    )

-- a field of the CLI header, in the file and in the part that it was copied from
pub same_field : (out part : List ℕ) (place i j : ℕ) → i + 72 ≤ length part → j + 4 ≤ 72
    → take 72 (drop place out) ≡ take 72 (drop i part) → u32_of out (place + j) ≡ u32_of part (i + j)
same_field out part place i j inside fits same =
    let front = take 72 (drop i part) in
    let front_len : length front ≡ 72 = length-take-le 72 (drop i part) (omega (arith, length-drop i part)) in
    let out_len : length (take 72 (drop place out)) ≡ 72 = ap (λ (t : List ℕ). length t) same ∙ front_len in
    let long : place + j + 4 ≤ length out = omega (arith, out_len, length-take 72 (drop place out), length-drop place out) in
    let part_long : i + j + 4 ≤ length part = omega arith in
    let of_out : drop (place + j) out ≡ drop j front ++ drop 72 (drop place out) =
    sym (drop-drop j place out)
    ∙ ap (λ (t : List ℕ). drop j t) (sym (take-append-drop 72 (drop place out)) ∙ ap (λ (t : List ℕ). t ++ drop 72 (drop place out)) same)
    ∙ drop-append-le j front (drop 72 (drop place out)) (omega (arith, front_len)) in
    let of_part : drop (i + j) part ≡ drop j front ++ drop 72 (drop i part) =
    sym (drop-drop j i part) ∙ ap (λ (t : List ℕ). drop j t) (sym (take-append-drop 72 (drop i part)))
    ∙ drop-append-le j front (drop 72 (drop i part)) (omega (arith, front_len)) in
    let four : 4 ≤ length (drop j front) = omega (arith, front_len, length-drop j front) in
    let number : little_number 4 (drop (place + j) out) ≡ little_number 4 (drop (i + j) part) =
    ap (λ (t : List ℕ). little_number 4 t) of_out ∙ little_from-append 4 (drop j front) (drop 72 (drop place out)) four
    ∙ sym (ap (λ (t : List ℕ). little_number 4 t) of_part ∙ little_from-append 4 (drop j front) (drop 72 (drop i part)) four) in
    ap (λ (t : Option ℕ). unwrap_or t 0) (field_at-is 4 out (place + j) long ∙ ap (λ (t : ℕ). Some t) number
    ∙ sym (field_at-is 4 part (i + j) part_long))
