use Rattle.std.proofs.Common.{◌<◌, ◌^◌, ◌++◌, arith}
use Rattle.std.proofs.lemmas.List.{take_all}
use Rattle.std.proofs.lemmas.List.Elements.{All-more}
use Rattle.byteorder.specs.Endian.{little_bytes}
use Rattle.fixup_sigs.specs.declared.fixup.Fixup.TheVariants.{MethodEntryDefToken}
use Rattle.rtr_sections.specs.declared.slots.Slot.{Slot}
use Rattle.rtr_sections.specs.Parts.{cell_bytes}
use Rattle.rtr_sections.proofs.PutLemmas.{put_made, put_more}
use Rattle.rtr_sections.proofs.pieces.put_cells.Goals as goal

pub loop-slot-preserved : goal.loop-slot-preserved
loop-slot-preserved c =
    let slots = c.args.slots.now in
    let i = c.loop-slot.slot-index in
    let d : Slot = record { fixup = MethodEntryDefToken 0; word = 0 } in
    record {
      put = put_more (λ (s : Slot). little_bytes 8 s.word) slots i d c.loop-slot.out.items _ (c.args.out.now.items ++ cell_bytes slots)
          c.loop-slot-test.true (put_made c.loop-slot.out.items _ _ _ c.in_ok-extend_from_slice.ensures.items c.to_le_bytes.ensures)
          c.loop-slot.invariant.put;
      words = All-more (λ (s : Slot). s.word < 2 ^ 64) slots i d c.loop-slot-test.true c.loop-slot.invariant.words (omega arith);
    }

pub returns-clause-words : goal.returns-clause-words
returns-clause-words c =
    let all = take_all c.loop-slot.slot-index c.args.slots.now (omega arith) in
    rw all at c.loop-slot.invariant.words
