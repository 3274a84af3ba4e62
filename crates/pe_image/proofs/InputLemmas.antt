-- What is known of a well-formed input.
use Rattle.std.proofs.Common.{◌≡◌, ℕ, zero, suc, ◌+◌, ◌*◌, ◌^◌, ◌<◌, ◌≤◌, Bool, true, false, List, [], ◌∷◌, length}
use Rattle.std.proofs.Common.{drop, get_or, Option, Some, None, refl, arith, inl, inr, lit<, length-take, length-drop}
use Rattle.std.specs.Prelude.{nat_le, if◌then◌else◌, ◌==◌, unwrap_or}
use Rattle.std.specs.Option.{option_map}
use Rattle.std.proofs.lemmas.Bool.{cases_lt, leb-true, eqb-true, or_cases}
use Rattle.std.proofs.lemmas.List.{get_or-drop, length-take-le}
use Rattle.byteorder.specs.Endian.{little_number}
use Rattle.byteorder.specs.Numbers.{little_from-lt}
use Rattle.rtr_bytes.specs.Field.{u32_of}
use Rattle.rtr_bytes.specs.Checks.{holds_or, first_fault, first_record, records}
use Rattle.pe_image.specs.declared.section.PeSection.{PeSection}
use Rattle.pe_image.specs.Sections.{section_at}
use Rattle.pe_image.specs.Headers.{pe_at, section_count, section_table_at, sections_of}
use Rattle.pe_image.specs.Checks.{pe_checks, raw_range_fits}
use Rattle.pe_image.specs.Raw.{IsInFile, raw_of}
use Rattle.pe_image.proofs.TableLemmas.{HeaderFits, HeadersFit}
use Rattle.pe_image.proofs.RawLemmas.{IsWhole, AllWhole}
use Rattle.pe_image.proofs.ReadBack.{pass}

abbrev pub AreBytes : List ℕ → Type 0
AreBytes bytes = (i : ℕ) → get_or bytes i 0 < 256

below : (b : Bool) (x : ℕ) → x < 2 ^ 32 → unwrap_or (if b then Some x else None) 0 < 2 ^ 32
below true x h = h
below false x h = lit< tt

pub u32_below : (bytes : List ℕ) (place : ℕ) → AreBytes bytes → u32_of bytes place < 2 ^ 32
u32_below bytes place h =
    let fits : little_number 4 (drop place bytes) < 256 ^ 4 = little_from-lt 0 4 (drop place bytes) (λ i. rw get_or-drop (h (place + i))) in
    below (nat_le (place + 4) (length bytes)) (little_number 4 (drop place bytes)) fits

holds_true : (b : Bool) (place : ℕ) → holds_or b place ≡ None → b ≡ true
holds_true true place h = refl
holds_true false place h = absurd (let x : ⊥ = cc in x)

none_mapped : (o : Option ℕ) → option_map (λ at. at + 20) o ≡ None → o ≡ None
none_mapped None h = refl
none_mapped (Some p) h = absurd (let x : ⊥ = cc in x)

record_fits : (b : Bool) (o : Option ℕ) (place : ℕ) → (if b then o else Some place) ≡ None → (b ≡ true) × (o ≡ None)
record_fits true o place h = (refl, h)
record_fits false o place h = absurd (let x : ⊥ = cc in x)

-- one section's raw range
in_file : (bytes : List ℕ) (place : ℕ) → raw_range_fits bytes place ≡ true → IsInFile bytes (section_at bytes place)
in_file bytes place h above =
    let size = u32_of bytes (place + 16) in
    let start = u32_of bytes (place + 20) in
    elim (or_cases (size == 0) (nat_le (start + size) (length bytes)) h) [
      | inl none ↦ absurd (let e : size ≡ 0 = eqb-true size 0 none in omega (arith, e, above))
      | inr fits ↦ leb-true (start + size) (length bytes) fits
    ]

abbrev pub AllInFile : List ℕ → List PeSection → Type 0
AllInFile bytes [] = Unit {0}
AllInFile bytes (s ∷ ss) = IsInFile bytes s × AllInFile bytes ss

all_in_file : (n : ℕ) (bytes : List ℕ) (place : ℕ) → first_record (raw_range_fits bytes) place 40 n ≡ None
    → AllInFile bytes (records (section_at bytes) place 40 n)
all_in_file zero bytes place h = tt
all_in_file (suc n) bytes place h =
    let r = record_fits (raw_range_fits bytes place) (first_record (raw_range_fits bytes) (place + 40) 40 n) place h in
    (in_file bytes place r.0, all_in_file n bytes (place + 40) r.1)

header_fits : (bytes : List ℕ) (place : ℕ) → AreBytes bytes → place + 40 ≤ length bytes → HeaderFits (section_at bytes place)
header_fits bytes place h long = record {
  name = length-take-le 8 (drop place bytes) (omega (arith, length-drop place bytes));
  virtual_size = u32_below bytes (place + 8) h;
  rva = u32_below bytes (place + 12) h;
  raw_size = u32_below bytes (place + 16) h;
  raw_at = u32_below bytes (place + 20) h;
  flags = u32_below bytes (place + 36) h;
}

headers_fit : (n : ℕ) (bytes : List ℕ) (place : ℕ) → AreBytes bytes → place + 40 * n ≤ length bytes
    → HeadersFit (records (section_at bytes) place 40 n)
headers_fit zero bytes place h long = tt
headers_fit (suc n) bytes place h long = (header_fits bytes place h (omega arith), headers_fit n bytes (place + 40) h (omega arith))

pub record IsInput (bytes : List ℕ) (sections : List PeSection) : Type 0 where
  pub signature : pe_at bytes + 24 ≤ length bytes
  pub headers : HeadersFit sections
  pub raw : AllInFile bytes sections

pub is_input : (bytes : List ℕ) → AreBytes bytes → first_fault pe_checks bytes ≡ None → IsInput bytes (sections_of bytes)
is_input bytes h none =
    let p = pass pe_checks bytes none in
    let table = leb-true (section_table_at bytes + 40 * section_count bytes) (length bytes)
    (holds_true (nat_le (section_table_at bytes + 40 * section_count bytes) (length bytes)) (pe_at bytes + 6) p.1.1.1.1.1.1.1.1.0) in
    record {
      signature = leb-true (pe_at bytes + 24) (length bytes) (holds_true (nat_le (pe_at bytes + 24) (length bytes)) 60 p.1.1.0);
      headers = headers_fit (section_count bytes) bytes (section_table_at bytes) h table;
      raw = all_in_file (section_count bytes) bytes (section_table_at bytes)
          (none_mapped (first_record (raw_range_fits bytes) (section_table_at bytes) 40 (section_count bytes)) p.1.1.1.1.1.1.1.1.1.0);
    }

-- the raw bytes of a section in the file are as many as its header says
whole : (bytes : List ℕ) (s : PeSection) → IsInFile bytes s → IsWhole bytes s
unfolding raw_of
whole bytes s h =
    elim (cases_lt 0 s.raw_size) [
      | inl lt ↦ omega (arith, length-take s.raw_size (drop s.raw_at bytes), length-drop s.raw_at bytes, h lt)
      | inr le ↦ omega (arith, length-take s.raw_size (drop s.raw_at bytes))
    ]

pub all_whole : (bytes : List ℕ) (ss : List PeSection) → AllInFile bytes ss → AllWhole bytes ss
all_whole bytes [] h = tt
all_whole bytes (s ∷ ss) (h, hs) = (whole bytes s h, all_whole bytes ss hs)
