use Rattle.std.proofs.Common.{rules, ◌≡◌, ◌≤◌, ◌<◌, ◌^◌, ℕ, Bool, cond, Some, get_or, sym, ap, ◌∙◌, arith}
use Rattle.std.proofs.lemmas.Bool.Decides.{nat_tests}
use Rattle.metadata.specs.Tables.{count_at, row_count}
use Rattle.metadata.specs.Checks.{first_large, is_large}
use Rattle.metadata.proofs.Counts.{count_by_table, counts_length, few_more, found_here, found_later, found_none}
use Rattle.metadata.proofs.Counts.{large_first, large_here, large_not, place_first, place_more, place_small, step_small}
use Rattle.metadata.proofs.header.check_counts.Goals as goal

pub loop-table-init : goal.loop-table-init
loop-table-init c = record {
  place_is = sym (place_first c.args.bytes.now c.args.at);
  first = large_first c.args.bytes.now c.args.at;
  few = λ k h. omega arith;
}

pub nth_count-requires : goal.nth_count-requires
nth_count-requires c =
    let whole = counts_length c.args.bytes.now c.args.at c.args.header.now.rows.items c.requires.header.rows in
    omega (arith, whole)

pub returns-in_err-ensure-clause-fault : goal.returns-in_err-ensure-clause-fault
returns-in_err-ensure-clause-fault c =
    let bytes = c.args.bytes.now in
    let at = c.args.at in
    let table = c.loop-table.table in
    let f = count_at bytes at in
    let count : row_count bytes at table ≡ c.nth_count.result =
    sym (c.nth_count.ensures ∙ count_by_table bytes at table c.args.header.now.rows.items c.requires.header.rows (omega arith) 0) in
    let large : 2 ^ 24 ≤ c.nth_count.result = let test = c.in_err-ensure.ensures.fault.0 in grind (arith, nat_tests, test) in
    let first : first_large bytes at ≡ Some c.loop-table.place =
    sym c.loop-table.invariant.first
    ∙ found_here f (is_large bytes at) table 64 (omega arith) (large_here bytes at table c.nth_count.result count large)
    ∙ ap (λ (n : ℕ). Some n) (sym c.loop-table.invariant.place_is) in
    let fault = c.in_err-ensure.ensures.fault.1 in
    search (rules, first, fault)

pub overflow_add-place-in-loop-table : goal.overflow_add-place-in-loop-table
overflow_add-place-in-loop-table c =
    let small = place_small c.args.bytes.now c.args.at c.loop-table.table c.loop-table.place c.loop-table.invariant.place_is in
    let step = step_small c.has_table.result c.count_size-place.result c.count_size-place.ensures in
    let within = c.requires.within in
    omega (arith, small, step, within)

pub loop-table-preserved : goal.loop-table-preserved
loop-table-preserved c =
    let bytes = c.args.bytes.now in
    let at = c.args.at in
    let table = c.loop-table.table in
    let count : row_count bytes at table ≡ c.nth_count.result =
    sym (c.nth_count.ensures ∙ count_by_table bytes at table c.args.header.now.rows.items c.requires.header.rows (omega arith) 0) in
    let few : c.nth_count.result < 2 ^ 24 = let test = c.in_ok-ensure.ensures.holds in grind (arith, nat_tests, test) in
    record {
      place_is =
          place_more bytes at table c.args.valid c.loop-table.place c.count_size-place.result c.requires.valid
          c.loop-table.invariant.place_is
          (c.count_size-place.ensures ∙ ap (λ (b : Bool). cond b 4 0) c.has_table.ensures);
      first =
          sym (found_later (count_at bytes at) (is_large bytes at) table 64 (omega arith)
          (large_not bytes at table c.nth_count.result count few))
          ∙ c.loop-table.invariant.first;
      few = few_more bytes at table c.nth_count.result count few c.loop-table.invariant.few;
    }

pub returns-clause-ok : goal.returns-clause-ok
returns-clause-ok c =
    sym c.loop-table.invariant.first
    ∙ found_none (count_at c.args.bytes.now c.args.at) (is_large c.args.bytes.now c.args.at) c.loop-table.table 64 (omega arith)

pub returns-clause-few : goal.returns-clause-few
returns-clause-few c = λ k d h.
    let bytes = c.args.bytes.now in
    let at = c.args.at in
    let whole = counts_length bytes at c.args.header.now.rows.items c.requires.header.rows in
    let k_in : k < 64 = omega (arith, whole, h) in
    let value : get_or c.args.header.now.rows.items k d ≡ row_count bytes at k =
    count_by_table bytes at k c.args.header.now.rows.items c.requires.header.rows k_in d in
    let few : row_count bytes at k < 2 ^ 24 = c.loop-table.invariant.few k (omega (arith, k_in)) in
    omega (arith, value, few)
