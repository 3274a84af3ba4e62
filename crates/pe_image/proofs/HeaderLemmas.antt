-- The headers up to the section table: each number is at its place.
use Rattle.std.proofs.Common.{◌≡◌, ℕ, ◌+◌, ◌^◌, ◌<◌, ◌≤◌, Bool, true, ◌&&◌, List, [], ◌∷◌, ◌++◌, length, drop, Option}
use Rattle.std.proofs.Common.{refl, ap, lit<, arith, length-append}
use Rattle.std.specs.Prelude.{All, unwrap_or, ◌==◌}
use Rattle.std.proofs.lemmas.Bool.{and_parts, eqb-true}
use Rattle.rtr_bytes.specs.declared.fault.Span.{Span}
use Rattle.rtr_bytes.specs.Field.{u16_of}
use Rattle.pe_image.specs.declared.values.HeaderValues.{HeaderValues}
use Rattle.pe_image.specs.declared.values.Sizes.{Sizes}
use Rattle.pe_image.specs.Places.{written_table_at}
use Rattle.pe_image.specs.Pieces.{header_bytes}
use Rattle.pe_image.specs.Written.{HeaderField, at, coff_header, optional_header, dos_fields, coff_fields}
use Rattle.pe_image.specs.Written.{optional_fields, directory_fields, header_fields, StandsIn, Covers}
use Rattle.pe_image.proofs.NumbersInARow.{AllFit, AllFit-append, field_stands, fields_stand, length-fields_bytes}

-- the headers of so many sections, with these sizes and directories
abbrev pub values : ℕ → Sizes → Span → Span → HeaderValues
values count sizes resources cli =
    record { coff = coff_header count; optional = optional_header sizes; resource_table = resources; cli_header = cli }

pub record AreInRange (count : ℕ) (z : Sizes) (resources cli : Span) : Type 0 where
  pub section_count : count < 2 ^ 16
  pub size_of_code : z.size_of_code < 2 ^ 32
  pub size_of_initialized_data : z.size_of_initialized_data < 2 ^ 32
  pub base_of_code : z.base_of_code < 2 ^ 32
  pub section_alignment : z.section_alignment < 2 ^ 32
  pub size_of_image : z.size_of_image < 2 ^ 32
  pub size_of_headers : z.size_of_headers < 2 ^ 32
  pub resources_start : resources.start < 2 ^ 32
  pub resources_len : resources.len < 2 ^ 32
  pub cli_start : cli.start < 2 ^ 32
  pub cli_len : cli.len < 2 ^ 32

coff_fit : (count : ℕ) → count < 2 ^ 16 → AllFit (coff_fields (coff_header count))
coff_fit count h = (lit< tt, (h, (lit< tt, (lit< tt, (lit< tt, (lit< tt, (lit< tt, tt)))))))

optional_fit : (count : ℕ) (z : Sizes) (resources cli : Span) → AreInRange count z resources cli
    → AllFit (optional_fields (optional_header z))
optional_fit count z resources cli h =
    let fields = optional_fields (optional_header z) in
    let e : AllFit (drop 22 fields) = (lit< tt, (lit< tt, (lit< tt, (lit< tt, (lit< tt, (lit< tt, (lit< tt, tt))))))) in
    let d : AllFit (drop 18 fields) = (h.size_of_image, (h.size_of_headers, (lit< tt, (lit< tt, e)))) in
    let c : AllFit (drop 10 fields) = (lit< tt, (lit< tt, (lit< tt, (lit< tt, (lit< tt, (lit< tt, (lit< tt, (lit< tt, d)))))))) in
    let b : AllFit (drop 5 fields) = (lit< tt, (lit< tt, (h.base_of_code, (lit< tt, (h.section_alignment, c))))) in
    (lit< tt, (lit< tt, (lit< tt, (h.size_of_code, (h.size_of_initialized_data, b)))))

directory_fit : (count : ℕ) (z : Sizes) (resources cli : Span) → AreInRange count z resources cli → AllFit (directory_fields resources cli)
directory_fit count z resources cli h =
    let fields = directory_fields resources cli in
    let b : AllFit (drop 10 fields) = (lit< tt, (lit< tt, (lit< tt, (lit< tt, (lit< tt, (h.cli_start, (h.cli_len, (lit< tt, tt)))))))) in
    let a : AllFit (drop 4 fields) = (lit< tt, (lit< tt, (lit< tt, (lit< tt, (lit< tt, (lit< tt, b)))))) in
    (lit< tt, (lit< tt, (h.resources_start, (h.resources_len, a))))

header_fit : (count : ℕ) (z : Sizes) (resources cli : Span) → AreInRange count z resources cli
    → AllFit (header_fields (values count z resources cli))
header_fit count z resources cli h =
    AllFit-append dos_fields (coff_fields (coff_header count) ++ optional_fields (optional_header z) ++ directory_fields resources cli)
    (lit< tt, (lit< tt, (lit< tt, tt)))
    (AllFit-append (coff_fields (coff_header count)) (optional_fields (optional_header z) ++ directory_fields resources cli)
    (coff_fit count h.section_count)
    (AllFit-append (optional_fields (optional_header z)) (directory_fields resources cli) (optional_fit count z resources cli h)
    (directory_fit count z resources cli h)))

-- whether fields cover a range
abbrev are_covered : ℕ → List HeaderField → ℕ → Bool
are_covered from [] to = from == to
are_covered from (f ∷ fs) to = f.place == from && are_covered (from + f.width) fs to

covers-computed : (fs : List HeaderField) (from to : ℕ) → are_covered from fs to ≡ true → Covers from fs to
covers-computed [] from to h = eqb-true from to h
covers-computed (f ∷ fs) from to h =
    let p = and_parts (f.place == from) (are_covered (from + f.width) fs to) h in
    (eqb-true f.place from p.0, covers-computed fs (from + f.width) to p.1)

-- the headers' fields cover the bytes up to the section table
pub header_covers : (v : HeaderValues) → Covers 0 (header_fields v) written_table_at
header_covers v = covers-computed (header_fields v) 0 written_table_at refl

pub length-header_bytes : (v : HeaderValues) → length (header_bytes v) ≡ 328
unfolding header_bytes
length-header_bytes v = omega (arith, length-fields_bytes (header_fields v) 0 328 (header_covers v))

pub header_stands : (count : ℕ) (z : Sizes) (resources cli : Span) (rest : List ℕ) → AreInRange count z resources cli
    → All (StandsIn (header_bytes (values count z resources cli) ++ rest)) (header_fields (values count z resources cli))
unfolding header_bytes
header_stands count z resources cli rest h =
    let v = values count z resources cli in
    fields_stand (header_fields v) (header_bytes v ++ rest) rest 0 328 (header_covers v) (header_fit count z resources cli h)
    (omega arith) refl

-- its first two bytes, read as one number
pub dos_read : (v : HeaderValues) (rest : List ℕ) → u16_of (header_bytes v ++ rest) 0 ≡ 0x5A4D
unfolding header_bytes
dos_read v rest =
    ap (λ (o : Option ℕ). unwrap_or o 0)
    (field_stands (at 0 2 0x5A4D) (header_bytes v ++ rest) (drop 2 (header_bytes v ++ rest)) (lit< tt)
    (omega (arith, length-append (header_bytes v) rest, length-header_bytes v)) refl)
