use Rattle.std.proofs.Common.{rules, length, arith}
use Rattle.metadata.specs.Checks.{bad_column, fallen_column}
use Rattle.metadata.specs.Schema.{columns_of}
use Rattle.metadata.proofs.FirstOf.{judging_all, judging_bad, judging_more}
use Rattle.metadata.proofs.Placed.{columns_length}
use Rattle.metadata.proofs.judge.Judge.check_row.Goals as goal

pub returns-in_err-fallen : goal.returns-in_err-fallen
returns-in_err-fallen c =
    let count = columns_length c.args.self.now.places.now c.args.table.now.number c.args.table.now c.requires.table in
    let bad =
    judging_bad (bad_column c.args.self.now.bytes.now c.args.self.now.places.now c.args.table.now.number c.args.row)
    (fallen_column c.args.self.now.bytes.now c.args.self.now.places.now c.args.table.now.number c.args.row) 0
    (length (columns_of c.args.table.now.number)) c.loop-index.index c.loop-index.index c.args.fallen
    c.loop-index.fallen c.in_err-fallen.field-0.0 (omega (arith, count)) (omega arith) c.loop-index.invariant c.in_err-fallen.ensures in
    search (rules, bad)

pub loop-index-preserved : goal.loop-index-preserved
loop-index-preserved c =
    let count = columns_length c.args.self.now.places.now c.args.table.now.number c.args.table.now c.requires.table in
    judging_more (bad_column c.args.self.now.bytes.now c.args.self.now.places.now c.args.table.now.number c.args.row)
    (fallen_column c.args.self.now.bytes.now c.args.self.now.places.now c.args.table.now.number c.args.row) 0
    (length (columns_of c.args.table.now.number)) c.loop-index.index c.loop-index.index c.args.fallen
    c.loop-index.fallen c.in_ok-fallen.fallen (omega (arith, count)) (omega arith) c.loop-index.invariant c.in_ok-fallen.ensures

pub returns : goal.returns
returns c =
    let count = columns_length c.args.self.now.places.now c.args.table.now.number c.args.table.now c.requires.table in
    judging_all (bad_column c.args.self.now.bytes.now c.args.self.now.places.now c.args.table.now.number c.args.row)
    (fallen_column c.args.self.now.bytes.now c.args.self.now.places.now c.args.table.now.number c.args.row) 0
    (length (columns_of c.args.table.now.number)) c.loop-index.index c.args.fallen c.loop-index.fallen
    (omega (arith, count)) c.loop-index.invariant
