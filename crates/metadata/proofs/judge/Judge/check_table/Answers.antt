use Rattle.std.proofs.Common.{rules, ◌+◌, arith}
use Rattle.metadata.specs.Checks.{bad_column, fallen_column, first_in_row}
use Rattle.metadata.specs.Tables.{rows_of}
use Rattle.metadata.proofs.FirstOf.{judging_all, judging_bad, judging_more}
use Rattle.metadata.proofs.judge.Judge.check_table.Goals as goal

pub returns-in_err-fallen : goal.returns-in_err-fallen
returns-in_err-fallen c =
    let count = c.requires.table.rows in
    let bad =
    judging_bad (first_in_row (bad_column c.args.self.now.bytes.now c.args.self.now.places.now)
    c.args.table.now.number)
    (first_in_row (fallen_column c.args.self.now.bytes.now c.args.self.now.places.now) c.args.table.now.number) 1
    (rows_of c.args.self.now.places.now c.args.table.now.number) c.loop-index.index (c.loop-index.index + 1)
    c.args.fallen c.loop-index.fallen c.in_err-fallen.field-0.0 (omega (arith, count)) (omega arith)
    c.loop-index.invariant c.in_err-fallen.ensures in
    search (rules, bad)

pub loop-index-preserved : goal.loop-index-preserved
loop-index-preserved c =
    let count = c.requires.table.rows in
    judging_more (first_in_row (bad_column c.args.self.now.bytes.now c.args.self.now.places.now)
    c.args.table.now.number)
    (first_in_row (fallen_column c.args.self.now.bytes.now c.args.self.now.places.now) c.args.table.now.number) 1
    (rows_of c.args.self.now.places.now c.args.table.now.number) c.loop-index.index (c.loop-index.index + 1)
    c.args.fallen c.loop-index.fallen c.in_ok-fallen.fallen (omega (arith, count)) (omega arith)
    c.loop-index.invariant c.in_ok-fallen.ensures

pub returns : goal.returns
returns c =
    let count = c.requires.table.rows in
    judging_all (first_in_row (bad_column c.args.self.now.bytes.now c.args.self.now.places.now) c.args.table.now.number)
    (first_in_row (fallen_column c.args.self.now.bytes.now c.args.self.now.places.now) c.args.table.now.number) 1
    (rows_of c.args.self.now.places.now c.args.table.now.number) c.loop-index.index c.args.fallen
    c.loop-index.fallen (omega (arith, count)) c.loop-index.invariant
