-- What checks that pass give: each of them, and each column.
use Rattle.std.proofs.Common.{◌≡◌, ℕ, zero, suc, ◌+◌, ◌<◌, ◌≤◌, ◌==◌, ◌&&◌, Bool, true, false, List, [], ◌∷◌, ◌++◌}
use Rattle.std.proofs.Common.{length, Option, Some, None, ⊎_elim, refl, ap, ◌∙◌, arith}
use Rattle.std.proofs.lemmas.Bool.{cases_lt, eqb-true}
use Rattle.rtr_bytes.specs.declared.fault.Fault.{Fault}
use Rattle.rtr_bytes.specs.declared.fault.Span.{Span}
use Rattle.rtr_bytes.specs.Checks.{Check, fault_or, first_fault, holds_or}
use Rattle.pe_image.specs.Checks.{pe_checks}
use Rattle.metadata.specs.declared.schema.Table.TheVariants as tables
use Rattle.metadata.specs.Schema.{columns_of, table_number}
use Rattle.metadata.specs.Checks.{bad_column, fallen_column, first_column, first_in_row, first_in_table, first_of, has_one_assembly}
use Rattle.metadata.specs.Checks.{header_checks, kind_of, layout_checks, metadata_checks, or_else, root_checks}
use Rattle.metadata.specs.Checks.{stream_checks, tables_of}
use Rattle.metadata.specs.Heaps.{is_valid}
use Rattle.metadata.specs.Tables.{Layout, column_at, layout_of, number_of, rows_of}
use Rattle.cli_assembly.specs.Checks.{assembly_checks, body_checks, metadata_of}
use Rattle.cli_assembly.specs.Named.{IsWellFormed}

pub fault_none : (n : ℕ) (o : Option ℕ) (rest : Option Fault) → fault_or n o rest ≡ None → (o ≡ None) × (rest ≡ None)
fault_none n None rest e = (refl, e)
fault_none n (Some p) rest e = absurd (let x : ⊥ = cc in x)

none_from : (n : ℕ) (o : Option ℕ) (rest : Option Fault) → o ≡ None → rest ≡ None → fault_or n o rest ≡ None
none_from n o rest a b = rw a b

-- two lists of checks pass where the list of both does
pub both_pass : (cs ds : List Check) (bytes : List ℕ) → first_fault (cs ++ ds) bytes ≡ None
    → (first_fault cs bytes ≡ None) × (first_fault ds bytes ≡ None)
both_pass [] ds bytes e = (refl, e)
both_pass (c ∷ cs) ds bytes e =
    let p = fault_none c.number (c.failing_place bytes) (first_fault (cs ++ ds) bytes) e in
    let q = both_pass cs ds bytes p.1 in
    (none_from c.number (c.failing_place bytes) (first_fault cs bytes) p.0 q.0, q.1)

pub holds : (b : Bool) (at : ℕ) → holds_or b at ≡ None → b ≡ true
holds true at e = refl
holds false at e = absurd (let x : ⊥ = cc in x)

-- ---- the first answer to numbers in a row is none

or_none : (a b : Option ℕ) → or_else a b ≡ None → (a ≡ None) × (b ≡ None)
or_none None b e = (refl, e)
or_none (Some p) b e = absurd (let x : ⊥ = cc in x)

pub all_none : (answer : ℕ → Option ℕ) (from n i : ℕ) → first_of answer from n ≡ None → from ≤ i → i < from + n → answer i ≡ None
unfolding first_of
all_none answer from zero i e le lt = absurd (omega (arith, le, lt))
all_none answer from (suc n) i e le lt =
    let p = or_none (answer from) (first_of answer (from + 1) n) e in
    ⊎_elim
    (λ after. all_none answer (from + 1) n i p.1 (omega (arith, after)) (omega (arith, lt)))
    (λ before. let same : i ≡ from = omega (arith, le, before) in ap answer same ∙ p.0)
    (cases_lt from i)

pub each_column : (layout : Layout) (answer : ℕ → ℕ → ℕ → Option ℕ) (table row column : ℕ) → first_column layout answer ≡ None
    → table < 64 → 1 ≤ row → row ≤ rows_of layout table → column < length (columns_of table) → answer table row column ≡ None
unfolding first_column
each_column layout answer table row column none few first last below =
    let in_table = all_none (first_in_table layout answer) 0 64 table none (omega arith) (omega (arith, few)) in
    let in_row = all_none (first_in_row answer table) 1 (rows_of layout table) row in_table first (omega (arith, last)) in
    all_none (answer table row) 0 (length (columns_of table)) column in_row (omega arith) (omega (arith, below))

-- ---- the checks of metadata

both_parts : (span : Span) (bytes : List ℕ) → first_fault (metadata_checks span) bytes ≡ None
    → (first_fault (header_checks span) bytes ≡ None) × (first_fault (layout_checks span) bytes ≡ None)
unfolding metadata_checks
both_parts span bytes e =
    let a = both_pass (root_checks span) (stream_checks span ++ (header_checks span ++ layout_checks span)) bytes e in
    let b = both_pass (stream_checks span) (header_checks span ++ layout_checks span) bytes a.1 in
    both_pass (header_checks span) (layout_checks span) bytes b.1

pub headers_pass : (span : Span) (bytes : List ℕ) → first_fault (metadata_checks span) bytes ≡ None
    → first_fault (header_checks span) bytes ≡ None
headers_pass span bytes e = (both_parts span bytes e).0

-- what the four checks of rows and columns give, by the layout
pub record Passes (bytes : List ℕ) (layout : Layout) : Type 0 where
  pub one : has_one_assembly layout ≡ true
  pub valid : first_column layout (bad_column bytes layout) ≡ None
  pub ascends : first_column layout (fallen_column bytes layout) ≡ None

pub passes : (span : Span) (bytes : List ℕ) → first_fault (metadata_checks span) bytes ≡ None → Passes bytes (layout_of bytes span)
passes span bytes e =
    let layout = layout_of bytes span in
    let a = fault_none _ _ _ (both_parts span bytes e).1 in
    let b = fault_none _ _ _ a.1 in
    let d = fault_none _ _ _ b.1 in
    record {
      one = holds (has_one_assembly layout) ((tables_of bytes span).start + 8) b.0;
      valid = d.0;
      ascends = (fault_none _ _ _ d.1).0;
    }

-- the checks of a file's headers, and of its metadata
pub pe_pass : (bytes : List ℕ) → IsWellFormed bytes → first_fault pe_checks bytes ≡ None
unfolding assembly_checks
pe_pass bytes e = (both_pass pe_checks (metadata_checks (metadata_of bytes) ++ body_checks (metadata_of bytes)) bytes e).0

pub metadata_pass : (bytes : List ℕ) → IsWellFormed bytes → first_fault (metadata_checks (metadata_of bytes)) bytes ≡ None
unfolding assembly_checks
metadata_pass bytes e =
    let span = metadata_of bytes in
    let a = both_pass pe_checks (metadata_checks span ++ body_checks span) bytes e in
    (both_pass (metadata_checks span) (body_checks span) bytes a.1).0

-- each column of each row is valid
pub column_valid : (bytes : List ℕ) (layout : Layout) (table row column : ℕ) → Passes bytes layout → table < 64 → 1 ≤ row
    → row ≤ rows_of layout table → column < length (columns_of table)
    → is_valid bytes layout (kind_of table column) (number_of bytes layout table row column) ≡ true
column_valid bytes layout table row column p few first last below =
    holds _ (column_at layout table row column) (each_column layout (bad_column bytes layout) table row column p.valid few first last below)

-- Module and Assembly have one row
and_parts : (a b : Bool) → (a && b) ≡ true → (a ≡ true) × (b ≡ true)
and_parts true true e = (refl, refl)
and_parts true false e = absurd (let x : ⊥ = cc in x)
and_parts false b e = absurd (let x : ⊥ = cc in x)

pub one_module : (bytes : List ℕ) (layout : Layout) → Passes bytes layout → rows_of layout (table_number tables.Module) ≡ 1
one_module bytes layout p = eqb-true (rows_of layout 0) 1 (and_parts (rows_of layout 0 == 1) (rows_of layout 0x20 == 1) p.one).0

pub one_manifest : (bytes : List ℕ) (layout : Layout) → Passes bytes layout → rows_of layout (table_number tables.Assembly) ≡ 1
one_manifest bytes layout p = eqb-true (rows_of layout 0x20) 1 (and_parts (rows_of layout 0 == 1) (rows_of layout 0x20 == 1) p.one).1
