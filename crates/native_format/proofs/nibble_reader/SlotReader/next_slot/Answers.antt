use Rattle.std.proofs.Common.{Some, subst}
use Rattle.native_format.specs.NibbleSteps.{GivesNext, Unread}
use Rattle.native_format.proofs.SlotLaws.{at_nibble, gives_next}
use Rattle.native_format.proofs.nibble_reader.SlotReader.next_slot.Goals as goal

pub returns-in-Some-Slot : goal.returns-in-Some-Slot
returns-in-Some-Slot c =
    let r = c.self.inside in
    let slot = c.in-Some-Slot.slot in
    let after = c.in-Some-Slot.after in
    let read = rw c.in-Some-Slot.field-0-is at c.in-Some-Slot.ensures in
    subst (λ (old : Unread). GivesNext slot old (at_nibble r.bytes.now (Some slot) after after)) c.self.view_is
    (gives_next r.bytes.now r.last r.place r.reached after slot read)
