-- The metadata of a file that passes the checks of its headers is in the file, where it isn't empty.
use Rattle.std.proofs.Common.{◌≡◌, ℕ, zero, suc, ◌+◌, ◌-◌, ◌^◌, ◌<◌, ◌≤◌, ◌==◌, Bool, true, false, cond, List, [], ◌∷◌}
use Rattle.std.proofs.Common.{◌++◌, length, find, Option, Some, None, inl, inr, refl, arith}
use Rattle.std.specs.Prelude.{if◌then◌else◌, is_some, nat_le, unwrap_or}
use Rattle.std.specs.Option.{option_map}
use Rattle.std.proofs.lemmas.Bool.{and_parts, eqb-true, leb-true, or_cases}
use Rattle.rtr_bytes.specs.Field.{u32_of}
use Rattle.rtr_bytes.specs.Checks.{first_fault, first_record, records}
use Rattle.pe_image.specs.declared.section.PeSection.{PeSection}
use Rattle.pe_image.specs.Sections.{has_range, section_at, slice_of_rva}
use Rattle.pe_image.specs.Headers.{cli_at, headers_of, metadata_place, metadata_size, section_count, section_table_at, sections_of}
use Rattle.pe_image.specs.Checks.{cli_checks, cli_header_checks, coff_checks, directory_checks, optional_checks}
use Rattle.pe_image.specs.Checks.{pe_checks, raw_range_fits, section_checks}
use Rattle.pe_image.specs.Raw.{IsInFile}
use Rattle.metadata.specs.Steps.{IsInside}
use Rattle.cli_assembly.proofs.Passed.{both_pass, fault_none, holds}

-- ---- the sections' raw ranges

in_file : (bytes : List ℕ) (at : ℕ) → raw_range_fits bytes at ≡ true → IsInFile bytes (section_at bytes at)
in_file bytes at fits above =
    let size = u32_of bytes (at + 16) in
    let start = u32_of bytes (at + 20) in
    elim (or_cases (size == 0) (nat_le (start + size) (length bytes)) fits) [
      | inl none ↦ absurd (let e : size ≡ 0 = eqb-true size 0 none in omega (arith, e, above))
      | inr ends ↦ leb-true (start + size) (length bytes) ends
    ]

abbrev pub AllInFile : List ℕ → List PeSection → Type 0
AllInFile bytes [] = Unit {0}
AllInFile bytes (s ∷ ss) = IsInFile bytes s × AllInFile bytes ss

record_fits : (b : Bool) (rest : Option ℕ) (at : ℕ) → (if b then rest else Some at) ≡ None → (b ≡ true) × (rest ≡ None)
record_fits true rest at e = (refl, e)
record_fits false rest at e = absurd (let x : ⊥ = cc in x)

all_in_file : (bytes : List ℕ) (at n : ℕ) → first_record (raw_range_fits bytes) at 40 n ≡ None
    → AllInFile bytes (records (section_at bytes) at 40 n)
all_in_file bytes at zero e = tt
all_in_file bytes at (suc n) e =
    let r = record_fits (raw_range_fits bytes at) (first_record (raw_range_fits bytes) (at + 40) 40 n) at e in
    (in_file bytes at r.0, all_in_file bytes (at + 40) n r.1)

-- ---- a range that a section holds

abbrev place_in : ℕ → Option PeSection → Option ℕ
place_in rva section = option_map (λ s. s.raw_at + (rva - s.rva)) section

abbrev EndsInside : List ℕ → ℕ → ℕ → Option PeSection → Type 0
EndsInside bytes rva len section = is_some (place_in rva section) ≡ true → unwrap_or (place_in rva section) 0 + len ≤ length bytes

here : (bytes : List ℕ) (rva len : ℕ) (s : PeSection) → 0 < len → IsInFile bytes s → has_range rva len s ≡ true
    → s.raw_at + (rva - s.rva) + len ≤ length bytes
here bytes rva len s some fits holds =
    let p = and_parts (nat_le s.rva rva) (nat_le (rva + len) (s.rva + s.raw_size)) holds in
    let first = leb-true s.rva rva p.0 in
    let last = leb-true (rva + len) (s.rva + s.raw_size) p.1 in
    let ends = fits (omega (arith, some, first, last)) in
    omega (arith, first, last, ends)

step : (bytes : List ℕ) (rva len : ℕ) (s : PeSection) (rest : Option PeSection) (b : Bool) → 0 < len → IsInFile bytes s
    → has_range rva len s ≡ b
    → EndsInside bytes rva len rest → EndsInside bytes rva len (cond b (Some s) rest)
step bytes rva len s rest true some fits holds others found = here bytes rva len s some fits holds
step bytes rva len s rest false some fits holds others found = others found

ends_inside : (bytes : List ℕ) (rva len : ℕ) (sections : List PeSection) → 0 < len → AllInFile bytes sections
    → EndsInside bytes rva len (find (has_range rva len) sections)
ends_inside bytes rva len [] some all found = absurd (let x : ⊥ = cc in x)
ends_inside bytes rva len (s ∷ ss) some (fits, others) found =
    step bytes rva len s (find (has_range rva len) ss) (has_range rva len s) some fits refl (ends_inside bytes rva len ss some others) found

within : (b : Bool) (place : Option ℕ) (len end : ℕ) → (is_some place ≡ true → unwrap_or place 0 + len ≤ end)
    → is_some (if b then place else None) ≡ true → unwrap_or (if b then place else None) 0 + len ≤ end
within true place len end ends found = ends found
within false place len end ends found = absurd (let x : ⊥ = cc in x)

pub slice_inside : (bytes : List ℕ) (sections : List PeSection) (rva len : ℕ) → 0 < len → AllInFile bytes sections
    → is_some (slice_of_rva sections rva len) ≡ true → unwrap_or (slice_of_rva sections rva len) 0 + len ≤ length bytes
slice_inside bytes sections rva len some all found =
    within (nat_le (rva + len) (2 ^ 32)) (place_in rva (find (has_range rva len) sections)) len (length bytes)
    (ends_inside bytes rva len sections some all) found

-- ---- the checks of the headers

none_mapped : (o : Option ℕ) → option_map (λ at. at + 20) o ≡ None → o ≡ None
none_mapped None e = refl
none_mapped (Some p) e = absurd (let x : ⊥ = cc in x)

-- where each section's raw range ends in the file
pub sections_inside : (bytes : List ℕ) → first_fault pe_checks bytes ≡ None → AllInFile bytes (sections_of bytes)
sections_inside bytes e =
    let a = both_pass coff_checks (optional_checks ++ (section_checks ++ cli_checks)) bytes e in
    let b = both_pass optional_checks (section_checks ++ cli_checks) bytes a.1 in
    let d = both_pass section_checks cli_checks bytes b.1 in
    all_in_file bytes (section_table_at bytes) (section_count bytes) (none_mapped _ (fault_none _ _ _ d.0).0)

pub metadata_inside : (bytes : List ℕ) → first_fault pe_checks bytes ≡ None → IsInside (headers_of bytes).metadata (length bytes)
metadata_inside bytes e some =
    let a = both_pass coff_checks (optional_checks ++ (section_checks ++ cli_checks)) bytes e in
    let b = both_pass optional_checks (section_checks ++ cli_checks) bytes a.1 in
    let d = both_pass section_checks cli_checks bytes b.1 in
    let last = fault_none _ _ _ (both_pass directory_checks cli_header_checks bytes d.1).1 in
    let found : is_some (metadata_place bytes) ≡ true =
    holds (is_some (metadata_place bytes)) (cli_at bytes + 8) (fault_none _ _ _ last.1).0 in
    slice_inside bytes (sections_of bytes) (u32_of bytes (cli_at bytes + 8)) (metadata_size bytes) some (sections_inside bytes e) found
