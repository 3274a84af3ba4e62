use Rattle.std.proofs.Common.{◌≡◌, ◌<◌, ◌+◌, ◌^◌, ℕ, sym, subst}
use Rattle.asm_builder.specs.Asked.{Asked, with_attribute}
use Rattle.asm_builder.specs.Sound.{IsSound}
use Rattle.asm_builder.specs.Tested.{IsCounted}
use Rattle.asm_builder.proofs.SoundCalls.{attribute_counted}
use Rattle.asm_builder.proofs.draft.Draft.attribute.Goals as goal

pub invariant_of-self-2 : goal.invariant_of-self-2
invariant_of-self-2 c =
    let sound : IsSound (with_attribute c.self.inside.builder c.args.parent c.args.constructor c.args.value.now) =
    subst (λ (a : Asked). IsSound (with_attribute a c.args.parent c.args.constructor c.args.value.now)) (sym c.self.view_is)
    (c.can_attribute.ensures.0 c.if-not-can_attribute.false) in
    let more =
    subst (λ (n : ℕ). c.self.inside.blobs + n < 2 ^ 24 → c.grown-self-inside.result ≡ c.self.inside.blobs + n)
    c.bytes_room.ensures c.grown-self-inside.ensures in
    subst (λ (a : Asked). IsCounted a c.self.inside.strings c.grown-self-inside.result c.self.inside.code) (sym c.in_ok-token.ensures.added)
    (attribute_counted c.self.inside.builder c.args.parent c.args.constructor c.args.value.now c.self.inside.strings
    c.self.inside.blobs c.self.inside.code c.grown-self-inside.result
    c.self.invariant sound more)
