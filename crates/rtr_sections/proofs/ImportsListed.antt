-- The checks of import records by the list of them.
use Rattle.std.proofs.Common.{◌≡◌, ℕ, ◌+◌, ◌*◌, ◌^◌, ◌<◌, ◌≤◌, List, length, refl, subst, arith}
use Rattle.rtr_bytes.specs.declared.fault.Span.{Span}
use Rattle.rtr_bytes.specs.Checks.{records}
use Rattle.rtr_sections.specs.declared.imports.ImportSection.{ImportSection}
use Rattle.rtr_sections.specs.Listed.{first_failing, first_overlap}
use Rattle.rtr_sections.specs.Imports.{follows, foreign_import, import_at, import_count, imports_in, is_own_import, out_of_order}
use Rattle.rtr_sections.proofs.Listed.{failing_is, overlap_is, records-length}

pub forms_are : (bytes : List ℕ) (part : Span)
    → foreign_import bytes part ≡ first_failing (is_own_import bytes) part.start 20 (imports_in bytes part)
unfolding foreign_import imports_in
forms_are bytes part = failing_is (is_own_import bytes) (import_at bytes) part.start 20 (import_count part)

pub cells_are : (bytes : List ℕ) (part : Span)
    → out_of_order bytes part ≡ first_overlap (λ i. i.rva) (λ i. i.rva + i.size) 0 part.start 20 (imports_in bytes part)
unfolding out_of_order imports_in
cells_are bytes part =
    overlap_is (follows bytes) (import_at bytes) (λ (i : ImportSection). i.rva) (λ (i : ImportSection). i.rva + i.size) 20
    (record { same = λ at. refl }) part.start (import_count part)

-- they end in the part
pub imports_within : (bytes : List ℕ) (part : Span) → part.start + 20 * length (imports_in bytes part) ≤ part.start + part.len
unfolding imports_in
imports_within bytes part = omega (arith, records-length (import_at bytes) part.start 20 (import_count part))

-- the part and the records that were read
pub forms_of : (bytes : List ℕ) (imports : List ImportSection) (part whole : Span) → part ≡ whole → imports ≡ imports_in bytes whole
    → foreign_import bytes whole ≡ first_failing (is_own_import bytes) part.start 20 imports
forms_of bytes imports part whole same are = rw (same, are) (forms_are bytes whole)

pub cells_of : (bytes : List ℕ) (imports : List ImportSection) (part whole : Span) → part ≡ whole → imports ≡ imports_in bytes whole
    → out_of_order bytes whole ≡ first_overlap (λ i. i.rva) (λ i. i.rva + i.size) 0 part.start 20 imports
cells_of bytes imports part whole same are = rw (same, are) (cells_are bytes whole)

pub reach_of : (bytes : List ℕ) (imports : List ImportSection) (part whole : Span) → part ≡ whole → imports ≡ imports_in bytes whole
    → part.start + part.len < 2 ^ 32 → part.start + 20 * length imports < 2 ^ 32
reach_of bytes imports part whole same are reach =
    let within = subst (λ s. part.start + 20 * length (imports_in bytes s) ≤ part.start + part.len) same (imports_within bytes part) in
    rw are (omega (arith, reach, within))
