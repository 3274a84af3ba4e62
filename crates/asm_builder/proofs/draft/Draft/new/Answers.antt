use Rattle.std.proofs.Common.{sym, subst, arith}
use Rattle.asm_builder.specs.Asked.{Asked}
use Rattle.asm_builder.specs.Tested.{IsCounted}
use Rattle.asm_builder.proofs.SoundMethods.{name_counted}
use Rattle.asm_builder.proofs.draft.Draft.new.Goals as goal

pub invariant_of-result : goal.invariant_of-result
invariant_of-result c =
    let first = c.text_room.ensures in
    let second = c.text_room-2.ensures in
    subst (λ (a : Asked). IsCounted a c.grown-strings.result 1 0) (sym c.in_ok-builder.ensures)
    (name_counted c.args.name.now c.grown-strings.result (c.can_new.ensures.0 c.if-not-can_new.false) (λ small.
    let sum = c.grown-strings.ensures (omega (arith, first, second, small)) in omega (arith, first, second, sum)))
