use Rattle.std.proofs.Common.{arith}
use Rattle.asm_builder.specs.Cells.{attribute_cells}
use Rattle.asm_builder.proofs.Spelled.{short_item, spelling_more}
use Rattle.asm_builder.proofs.content.Heaps.attributes.Goals as goal

pub attribute-requires : goal.attribute-requires
attribute-requires c =
    record {
      short =
          short_item attribute_cells c.args.self.now c.args.attributes.now c.loop-a.a-index c.a-item.result
          c.loop-a.rows.items c.loop-a.self (omega arith)
          c.a-item.is c.loop-a.invariant c.requires.short;
    }

pub loop-a-preserved : goal.loop-a-preserved
loop-a-preserved c =
    spelling_more attribute_cells c.args.self.now c.args.attributes.now c.loop-a.a-index c.a-item.result
    c.loop-a.rows.items c.push.new.self.items
    c.loop-a.self c.attribute.new.self c.in_ok-attribute.field-0 (omega arith) c.a-item.is c.loop-a.invariant c.in_ok-attribute.ensures.row
    c.in_ok-attribute.ensures.heaps c.in_ok-push.ensures.items
