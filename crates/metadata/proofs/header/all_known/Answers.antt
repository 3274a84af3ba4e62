use Rattle.std.proofs.Common.{◌≡◌, ◌+◌, ◌-◌, true, false, sym, ◌∙◌, arith}
use Rattle.std.specs.List.{list_all, range_with_len}
use Rattle.metadata.specs.Checks.{table_is_known}
use Rattle.metadata.proofs.Counts.{all_end, all_left, and_false, and_true, known_first}
use Rattle.metadata.proofs.header.all_known.Goals as goal

pub loop-table-init : goal.loop-table-init
loop-table-init c = known_first c.args.valid

pub returns-then-not-table_is_known : goal.returns-then-not-table_is_known
returns-then-not-table_is_known c =
    let valid = c.args.valid in
    let table = c.loop-table.table in
    let unknown : table_is_known valid table ≡ false = sym c.table_is_known.ensures ∙ c.if-not-table_is_known.true in
    sym (sym c.loop-table.invariant ∙ all_left (table_is_known valid) table 64 (omega arith)
    ∙ and_false (table_is_known valid table) (list_all (table_is_known valid) (range_with_len (table + 1) (64 - (table + 1)))) unknown)

pub loop-table-preserved : goal.loop-table-preserved
loop-table-preserved c =
    let valid = c.args.valid in
    let table = c.loop-table.table in
    let known : table_is_known valid table ≡ true = sym c.table_is_known.ensures ∙ c.if-not-table_is_known.false in
    sym (all_left (table_is_known valid) table 64 (omega arith)
    ∙ and_true (table_is_known valid table) (list_all (table_is_known valid) (range_with_len (table + 1) (64 - (table + 1)))) known)
    ∙ c.loop-table.invariant

pub returns : goal.returns
returns c = sym (all_end (table_is_known c.args.valid) c.loop-table.table 64 (omega arith)) ∙ c.loop-table.invariant
