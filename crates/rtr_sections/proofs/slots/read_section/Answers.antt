use Rattle.std.proofs.Common.{◌≡◌, ◌<◌, ◌++◌, ◌∙◌, arith}
use Rattle.rtr_sections.specs.Numbered.{present}
use Rattle.rtr_sections.specs.Imports.{slot_count, slot_of, slots_in}
use Rattle.rtr_sections.proofs.Numbered.{present-more, present-none, present-end}
use Rattle.rtr_sections.proofs.SlotsRead.{slot_read}
use Rattle.rtr_sections.proofs.slots.read_section.Goals as goal
use Rattle.rtr_sections.proofs.slots.read_section.Goals.{in-Some+in_ok-push, in_default}

pub loop-i-preserved : goal.loop-i-preserved
loop-i-preserved c =
    let bytes = c.args.file.now in
    let import = c.args.import.now in
    let i = c.loop-i.i in
    let n = slot_count import in
    let all = c.args.slots.now.items ++ present (slot_of bytes import) 0 n in
    let below : i < n = omega (arith, c.slot_count-i-end.ensures.count) in
    let read =
    slot_read bytes import c.signatures_at-signatures.result c.cells_at-cells.result i c.slot_at.result
    c.signatures_at-signatures.ensures.place c.cells_at-cells.ensures.place c.slot_at.ensures in
    elim c.match-slot_at.branch [
      | in-Some+in_ok-push w ↦
          rw (w.slots-is, w.in_ok-push.ensures.items)
          (present-more (slot_of bytes import) n i c.loop-i.slots.items all w.in-Some.slot below (read ∙ w.in-Some.is) c.loop-i.invariant)
      | in_default w ↦
          rw w.slots-is (present-none (slot_of bytes import) n i c.loop-i.slots.items all below (read ∙ w.in_default.is) c.loop-i.invariant)
    ]

pub returns : goal.returns
unfolding slots_in
returns c =
    let bytes = c.args.file.now in
    let import = c.args.import.now in
    let n = slot_count import in
    present-end (slot_of bytes import) n c.loop-i.i c.loop-i.slots.items (c.args.slots.now.items ++ present (slot_of bytes import) 0 n)
    (omega (arith, c.slot_count-i-end.ensures.count)) c.loop-i.invariant
