use Rattle.std.proofs.Common.{arith}
use Rattle.asm_builder.specs.Cells.{member_ref_cells}
use Rattle.asm_builder.proofs.Spelled.{short_item, spelling_more}
use Rattle.asm_builder.proofs.content.Heaps.member_refs.Goals as goal

pub member_ref-requires : goal.member_ref-requires
member_ref-requires c =
    record {
      short =
          short_item member_ref_cells c.args.self.now c.args.members.now c.loop-m.m-index c.m-item.result
          c.loop-m.rows.items c.loop-m.self (omega arith)
          c.m-item.is c.loop-m.invariant c.requires.short;
    }

pub loop-m-preserved : goal.loop-m-preserved
loop-m-preserved c =
    spelling_more member_ref_cells c.args.self.now c.args.members.now c.loop-m.m-index c.m-item.result
    c.loop-m.rows.items c.push.new.self.items
    c.loop-m.self c.member_ref.new.self c.in_ok-member_ref.field-0 (omega arith) c.m-item.is c.loop-m.invariant
    c.in_ok-member_ref.ensures.row
    c.in_ok-member_ref.ensures.heaps c.in_ok-push.ensures.items
