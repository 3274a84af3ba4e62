use Rattle.std.proofs.Common.{arith}
use Rattle.asm_builder.specs.Cells.{type_ref_cells}
use Rattle.asm_builder.proofs.Spelled.{short_item, spelling_more}
use Rattle.asm_builder.proofs.content.Heaps.type_refs.Goals as goal

pub type_ref-requires : goal.type_ref-requires
type_ref-requires c =
    record {
      short =
          short_item type_ref_cells c.args.self.now c.args.types.now c.loop-t.t-index c.t-item.result
          c.loop-t.rows.items c.loop-t.self (omega arith)
          c.t-item.is c.loop-t.invariant c.requires.short;
    }

pub loop-t-preserved : goal.loop-t-preserved
loop-t-preserved c =
    spelling_more type_ref_cells c.args.self.now c.args.types.now c.loop-t.t-index c.t-item.result c.loop-t.rows.items c.push.new.self.items
    c.loop-t.self c.type_ref.new.self c.in_ok-type_ref.field-0 (omega arith) c.t-item.is c.loop-t.invariant c.in_ok-type_ref.ensures.row
    c.in_ok-type_ref.ensures.heaps c.in_ok-push.ensures.items
