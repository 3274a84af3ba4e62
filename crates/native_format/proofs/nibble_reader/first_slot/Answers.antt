use Rattle.std.proofs.Common.{ap, ◌∙◌, ◌∷◌, None, refl, arith}
use Rattle.native_format.specs.Nibbles.{slots_of, at_slot}
use Rattle.native_format.specs.NibbleSteps.{numbers_from}
use Rattle.native_format.proofs.NibbleLaws.{after_both}
use Rattle.native_format.proofs.SlotLaws.{no_section, no_slot, reads, slots_of_two}
use Rattle.native_format.proofs.nibble_reader.first_slot.Goals as goal

pub returns-in_err-section : goal.returns-in_err-section
returns-in_err-section c = rw c.from_residual.ensures (no_section (numbers_from c.args.bytes.now c.args.start) c.in_err-section.ensures)

pub returns-in_err-slot : goal.returns-in_err-slot
returns-in_err-slot c =
    let first = c.in_ok-section.ensures in
    rw c.from_residual-in_err-slot.ensures
    (ap slots_of first.numbers_are
    ∙ no_slot c.in_ok-section.section (numbers_from c.args.bytes.now c.in_ok-section.at) c.in_err-slot.ensures)

pub returns : goal.returns
returns c =
    let one = c.in_ok-section.ensures in
    let two = c.in_ok-slot.ensures in
    let behind = numbers_from c.args.bytes.now c.in_ok-slot.at in
    let both = one.numbers_are ∙ ap (λ ns. c.in_ok-section.section ∷ ns) two.numbers_are in
    reads c.args.bytes.now (slots_of (numbers_from c.args.bytes.now c.args.start)) None c.args.start c.in_ok-slot.at 2
    (at_slot c.in_ok-section.section c.in_ok-slot.slot) (omega (arith, one.further, two.further)) two.within (one.fits, two.fits)
    (ap slots_of both ∙ slots_of_two c.in_ok-section.section c.in_ok-slot.slot behind) refl
    (after_both c.args.bytes.now c.args.start c.in_ok-section.at c.in_ok-slot.at 1 1 one.after_is two.after_is)
