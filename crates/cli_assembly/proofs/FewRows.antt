-- Each table has fewer than 2^24 rows.
use Rattle.std.proofs.Common.{◌≡◌, ℕ, zero, suc, ◌+◌, ◌^◌, ◌<◌, ◌≤◌, ⊎_elim, Bool, true, false, cond, List}
use Rattle.std.proofs.Common.{Option, Some, None, refl, ap, ◌∙◌, arith}
use Rattle.std.specs.Prelude.{find, nat_lt, not}
use Rattle.std.specs.Option.{option_map}
use Rattle.std.specs.List.{range_with_len}
use Rattle.std.proofs.lemmas.Bool.{cases_lt, ltb-true}
use Rattle.std.proofs.lemmas.List.FromFn.{get_or-map-range_with_len}
use Rattle.rtr_bytes.specs.declared.fault.Span.{Span}
use Rattle.rtr_bytes.specs.declared.fault.Fault.{Fault}
use Rattle.rtr_bytes.specs.Checks.{fault_or, first_fault}
use Rattle.metadata.specs.declared.schema.Table.{Table}
use Rattle.metadata.specs.Checks.{cut_header, first_large, header_checks, is_large, tables_of, unknown_heap, unknown_table}
use Rattle.metadata.specs.Schema.{table_number}
use Rattle.metadata.specs.Tables.{count_at, layout_of, row_count as count_of, row_counts, rows_of}
use Rattle.cli_assembly.specs.Assemblies.{assembly_of, row_count}
use Rattle.cli_assembly.specs.Checks.{metadata_of}
use Rattle.cli_assembly.specs.Named.{IsWellFormed}
use Rattle.cli_assembly.proofs.ByRow.{rows_of_file}
use Rattle.cli_assembly.proofs.Coded.{few}
use Rattle.cli_assembly.proofs.Passed.{fault_none, headers_pass, metadata_pass}

passed_by : (b : Bool) (from : ℕ) (rest : Option ℕ) → ◌≡◌ {A = Option ℕ} (cond b (Some from) rest) None → (b ≡ false) × (rest ≡ None)
passed_by true from rest e = absurd (let x : ⊥ = cc in x)
passed_by false from rest e = (refl, e)

none_found : (test : ℕ → Bool) (from n i : ℕ) → find test (range_with_len from n) ≡ None → from ≤ i → i < from + n → test i ≡ false
none_found test from zero i e le lt = absurd (omega (arith, le, lt))
none_found test from (suc n) i e le lt =
    let p = passed_by (test from) from (find test (range_with_len (from + 1) n)) e in
    ⊎_elim
    (λ after. none_found test (from + 1) n i p.1 (omega (arith, after)) (omega (arith, lt)))
    (λ before. let same : i ≡ from = omega (arith, le, before) in ap test same ∙ p.0)
    (cases_lt from i)

none_mapped : (f : ℕ → ℕ) (o : Option ℕ) → option_map f o ≡ None → o ≡ None
none_mapped f None e = refl
none_mapped f (Some p) e = absurd (let x : ⊥ = cc in x)

is_not : (b : Bool) → not b ≡ false → b ≡ true
is_not true e = refl
is_not false e = absurd (let x : ⊥ = cc in x)

few_counted : (bytes : List ℕ) (at table : ℕ) → first_large bytes at ≡ None → table < 64 → count_of bytes at table < 2 ^ 24
unfolding first_large
few_counted bytes at table e below =
    let none = none_mapped (count_at bytes at) (find (is_large bytes at) (range_with_len 0 64)) e in
    ltb-true (count_of bytes at table) (2 ^ 24)
    (is_not (nat_lt (count_of bytes at table) (2 ^ 24))
    (none_found (is_large bytes at) 0 64 table none (omega arith) (omega (arith, below))))

counted : (bytes : List ℕ) (span : Span) (table : ℕ) → table < 64
    → rows_of (layout_of bytes span) table ≡ count_of bytes (tables_of bytes span).start table
unfolding layout_of row_counts
counted bytes span table below =
    get_or-map-range_with_len (count_of bytes (tables_of bytes span).start) 0 64 table table 0 below (omega arith)

small_counts : (bytes : List ℕ) (span : Span) → first_fault (header_checks span) bytes ≡ None
    → first_large bytes (tables_of bytes span).start ≡ None
small_counts bytes span e =
    let stream = tables_of bytes span in
    let large : Option Fault = fault_or 39 (first_large bytes stream.start) None in
    let unknown : Option Fault = fault_or 38 (unknown_table bytes stream.start) large in
    let heap : Option Fault = fault_or 37 (unknown_heap bytes stream.start) unknown in
    let a = fault_none 36 (cut_header bytes stream) heap e in
    let b = fault_none 37 (unknown_heap bytes stream.start) unknown a.1 in
    let d = fault_none 38 (unknown_table bytes stream.start) large b.1 in
    (fault_none 39 (first_large bytes stream.start) None d.1).0

few_in : (bytes : List ℕ) (span : Span) (table : ℕ) → first_fault (header_checks span) bytes ≡ None → table < 64
    → rows_of (layout_of bytes span) table < 2 ^ 24
few_in bytes span table e below =
    let at = (tables_of bytes span).start in
    let few : count_of bytes at table < 2 ^ 24 = few_counted bytes at table (small_counts bytes span e) below in
    omega (arith, few, counted bytes span table below)

pub few_rows : (bytes : List ℕ) (table : Table) → IsWellFormed bytes → row_count (assembly_of bytes) table < 2 ^ 24
few_rows bytes table e =
    let span = metadata_of bytes in
    let below = few_in bytes span (table_number table) (headers_pass span bytes (metadata_pass bytes e)) (few table) in
    omega (arith, below, rows_of_file bytes table (few table))
