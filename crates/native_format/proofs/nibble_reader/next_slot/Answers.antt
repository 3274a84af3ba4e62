use Rattle.std.proofs.Common.{◌≡◌, ap, refl, ◌∙◌, ◌∷◌, Some, arith}
use Rattle.native_format.specs.Nibbles.{slots_behind, at_slot}
use Rattle.native_format.specs.NibbleSteps.{numbers_from}
use Rattle.native_format.proofs.SlotLaws.{no_distance, slot_sum_wide, no_section_distance, section_sum_wide, no_first_slot, ends_here}
use Rattle.native_format.proofs.NibbleLaws.{after_both}
use Rattle.native_format.proofs.SlotLaws.{behind_slot, behind_section, one_number, reads, same_two, three_numbers}
use Rattle.native_format.proofs.nibble_reader.next_slot.Goals as goal

pub returns-in_err-distance : goal.returns-in_err-distance
returns-in_err-distance c =
    rw c.from_residual.ensures (no_distance c.args.last (numbers_from c.args.bytes.now c.args.start) c.in_err-distance.ensures)

pub returns-in_err-slot : goal.returns-in_err-slot
returns-in_err-slot c =
    let one = c.in_ok-distance.ensures in
    rw c.from_residual-in_err-slot.ensures
    (ap (slots_behind c.args.last) one.numbers_are
    ∙ slot_sum_wide c.args.last c.in_ok-distance.distance (numbers_from c.args.bytes.now c.in_ok-distance.at) (omega arith)
    (omega (arith, c.in_err-slot.ensures)))

pub returns-then-distance-gt0 : goal.returns-then-distance-gt0
returns-then-distance-gt0 c =
    let one = c.in_ok-distance.ensures in
    let sum = c.in_ok-slot.ensures in
    let d = c.in_ok-distance.distance in
    let behind = numbers_from c.args.bytes.now c.in_ok-distance.at in
    let list = slots_behind c.args.last (numbers_from c.args.bytes.now c.args.start) in
    let read = ap (slots_behind c.args.last) one.numbers_are ∙ behind_slot c.args.last d behind (omega arith) in
    reads c.args.bytes.now list (Some c.args.last) c.args.start c.in_ok-distance.at 1 (at_slot c.args.last.section c.in_ok-slot.slot)
    one.further one.within (omega arith, omega arith) (rw (← sum.1) at read) (one_number c.args.last c.in_ok-slot.slot) one.after_is

-- the numbers from the place on: 0, where no slot of the same section follows
pub returns-in_err-distance-2 : goal.returns-in_err-distance-2
returns-in_err-distance-2 c =
    let one = c.in_ok-distance.ensures in
    let behind = numbers_from c.args.bytes.now c.in_ok-distance.at in
    let zero_is : c.in_ok-distance.distance ≡ 0 = omega arith in
    rw c.from_residual-in_err-distance-2.ensures
    (ap (slots_behind c.args.last) (one.numbers_are ∙ ap (λ d. d ∷ behind) zero_is)
    ∙ no_section_distance c.args.last behind c.in_err-distance-2.ensures)

pub returns-then-distance-eq0 : goal.returns-then-distance-eq0
returns-then-distance-eq0 c =
    let one = c.in_ok-distance.ensures in
    let two = c.in_ok-distance-2.ensures in
    let zero_is : c.in_ok-distance.distance ≡ 0 = omega arith in
    let end_is : c.in_ok-distance-2.distance ≡ 0 = omega arith in
    let behind = numbers_from c.args.bytes.now c.in_ok-distance-2.at in (
      ap (slots_behind c.args.last) (same_two _ _ behind 0 0 zero_is end_is one.numbers_are two.numbers_are) ∙ ends_here c.args.last behind,
      after_both c.args.bytes.now c.args.start c.in_ok-distance.at c.in_ok-distance-2.at 1 1 one.after_is two.after_is,
      two.within,
    )

pub returns-in_err-section : goal.returns-in_err-section
returns-in_err-section c =
    let one = c.in_ok-distance.ensures in
    let two = c.in_ok-distance-2.ensures in
    let zero_is : c.in_ok-distance.distance ≡ 0 = omega arith in
    let behind = numbers_from c.args.bytes.now c.in_ok-distance-2.at in
    rw c.from_residual-in_err-section.ensures
    (ap (slots_behind c.args.last) (same_two _ _ behind 0 c.in_ok-distance-2.distance zero_is refl one.numbers_are two.numbers_are)
    ∙ section_sum_wide c.args.last c.in_ok-distance-2.distance behind (omega arith) (omega (arith, c.in_err-section.ensures)))

pub returns-in_err-slot-2 : goal.returns-in_err-slot-2
returns-in_err-slot-2 c =
    let one = c.in_ok-distance.ensures in
    let two = c.in_ok-distance-2.ensures in
    let zero_is : c.in_ok-distance.distance ≡ 0 = omega arith in
    let behind = numbers_from c.args.bytes.now c.in_ok-distance-2.at in
    rw c.from_residual-in_err-slot-2.ensures
    (ap (slots_behind c.args.last) (same_two _ _ behind 0 c.in_ok-distance-2.distance zero_is refl one.numbers_are two.numbers_are)
    ∙ no_first_slot c.args.last c.in_ok-distance-2.distance behind (omega arith) c.in_err-slot-2.ensures)

pub returns : goal.returns
returns c =
    let one = c.in_ok-distance.ensures in
    let two = c.in_ok-distance-2.ensures in
    let three = c.in_ok-slot-2.ensures in
    let sum = c.in_ok-section.ensures in
    let d = c.in_ok-distance-2.distance in
    let slot = c.in_ok-slot-2.slot in
    let zero_is : c.in_ok-distance.distance ≡ 0 = omega arith in
    let behind = numbers_from c.args.bytes.now c.in_ok-slot-2.at in
    let list = slots_behind c.args.last (numbers_from c.args.bytes.now c.args.start) in
    let all = same_two _ _ _ 0 d zero_is refl one.numbers_are two.numbers_are ∙ ap (λ ns. 0 ∷ d ∷ ns) three.numbers_are in
    let read = ap (slots_behind c.args.last) all ∙ behind_section c.args.last d slot behind (omega arith) in
    let after_two = after_both c.args.bytes.now c.args.start c.in_ok-distance.at c.in_ok-distance-2.at 1 1 one.after_is two.after_is in
    let after = after_both c.args.bytes.now c.args.start c.in_ok-distance-2.at c.in_ok-slot-2.at 2 1 after_two three.after_is in
    let count = rw (← sum.1) at (three_numbers c.args.last d slot (omega arith)) in
    reads c.args.bytes.now list (Some c.args.last) c.args.start c.in_ok-slot-2.at 3 (at_slot c.in_ok-section.section slot)
    (omega (arith, one.further, two.further, three.further)) three.within (omega arith, three.fits) (rw (← sum.1) at read) count after
