use Rattle.std.proofs.Common.{arith}
use Rattle.asm_builder.specs.Cells.{type_def_cells}
use Rattle.asm_builder.proofs.Spelled.{short_item, spelling_more}
use Rattle.asm_builder.proofs.content.Heaps.type_defs.Goals as goal

pub type_def-requires-clause-short : goal.type_def-requires-clause-short
type_def-requires-clause-short c =
    short_item type_def_cells c.args.self.now c.args.types.now c.loop-t.t-index c.t-item.result c.loop-t.rows.items
    c.loop-t.self (omega arith)
    c.t-item.is c.loop-t.invariant c.requires.short

pub loop-t-preserved : goal.loop-t-preserved
loop-t-preserved c =
    spelling_more type_def_cells c.args.self.now c.args.types.now c.loop-t.t-index c.t-item.result c.loop-t.rows.items c.push.new.self.items
    c.loop-t.self c.type_def.new.self c.in_ok-type_def.field-0 (omega arith) c.t-item.is c.loop-t.invariant c.in_ok-type_def.ensures.row
    c.in_ok-type_def.ensures.heaps c.in_ok-push.ensures.items
