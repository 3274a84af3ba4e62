use Rattle.std.proofs.Common.{arith}
use Rattle.asm_builder.specs.Cells.{field_cells}
use Rattle.asm_builder.proofs.Spelled.{short_item, spelling_more}
use Rattle.asm_builder.proofs.content.Heaps.fields.Goals as goal

pub field-requires-clause-short : goal.field-requires-clause-short
field-requires-clause-short c =
    short_item field_cells c.args.self.now c.args.fields.now c.loop-f.f-index c.f-item.result c.loop-f.rows.items
    c.loop-f.self (omega arith)
    c.f-item.is c.loop-f.invariant c.requires.short

pub loop-f-preserved : goal.loop-f-preserved
loop-f-preserved c =
    spelling_more field_cells c.args.self.now c.args.fields.now c.loop-f.f-index c.f-item.result c.loop-f.rows.items c.push.new.self.items
    c.loop-f.self c.field.new.self c.in_ok-field.field-0 (omega arith) c.f-item.is c.loop-f.invariant c.in_ok-field.ensures.row
    c.in_ok-field.ensures.heaps c.in_ok-push.ensures.items
