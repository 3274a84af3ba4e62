use Rattle.std.proofs.Common.{ℕ, List, arith, ap, ◌∙◌, subst, sym}
use Rattle.asm_builder.specs.Cells.{assembly_ref_cells}
use Rattle.asm_builder.specs.Content.{row_after, row_numbers}
use Rattle.asm_builder.specs.Room.{AreShort}
use Rattle.asm_builder.proofs.Spelled.{short_item, spelling_more}
use Rattle.asm_builder.proofs.content.Heaps.assembly_refs.Goals as goal

pub assembly_ref-requires : goal.assembly_ref-requires
assembly_ref-requires c =
    record {
      short = subst (λ (n : List ℕ). AreShort (row_after c.loop-name.self (assembly_ref_cells n))) (sym c.as_slice.ensures)
          (short_item assembly_ref_cells c.args.self.now c.args.names.now c.loop-name.name-index c.name-item.result
          c.loop-name.rows.items c.loop-name.self
          (omega arith) c.name-item.is c.loop-name.invariant c.requires.short);
    }

pub loop-name-preserved : goal.loop-name-preserved
loop-name-preserved c =
    spelling_more assembly_ref_cells c.args.self.now c.args.names.now c.loop-name.name-index c.name-item.result c.loop-name.rows.items
    c.push.new.self.items c.loop-name.self c.assembly_ref.new.self c.in_ok-assembly_ref.field-0 (omega arith)
    c.name-item.is c.loop-name.invariant
    (c.in_ok-assembly_ref.ensures.row ∙ ap (λ (n : List ℕ). row_numbers c.loop-name.self (assembly_ref_cells n)) c.as_slice.ensures)
    (c.in_ok-assembly_ref.ensures.heaps ∙ ap (λ (n : List ℕ). row_after c.loop-name.self (assembly_ref_cells n)) c.as_slice.ensures)
    c.in_ok-push.ensures.items
