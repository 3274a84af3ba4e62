use Rattle.std.proofs.Common.{◌≡◌, ◌<◌, ◌+◌, ◌^◌, ℕ, sym, subst, arith}
use Rattle.asm_builder.specs.Asked.{Asked, with_field}
use Rattle.asm_builder.specs.Sound.{IsSound}
use Rattle.asm_builder.specs.Tested.{IsCounted}
use Rattle.asm_builder.proofs.SoundCalls.{field_counted}
use Rattle.asm_builder.proofs.draft.Draft.field.Goals as goal

pub invariant_of-self-2 : goal.invariant_of-self-2
invariant_of-self-2 c =
    let sound : IsSound (with_field c.self.inside.builder c.args.flags c.args.name.now c.args.sig) =
    subst (λ (a : Asked). IsSound (with_field a c.args.flags c.args.name.now c.args.sig)) (sym c.self.view_is)
    (c.can_field.ensures.0 c.if-not-can_field.false) in
    let plus =
    subst (λ (n : ℕ). c.self.inside.strings + n < 2 ^ 24 → c.grown-self-inside.result ≡ c.self.inside.strings + n)
    c.text_room.ensures c.grown-self-inside.ensures in
    let more =
    subst (λ (n : ℕ). c.self.inside.blobs + n < 2 ^ 24 → c.grown-self-inside-2.result ≡ c.self.inside.blobs + n)
    c.field_room.ensures c.grown-self-inside-2.ensures in
    subst (λ (a : Asked). IsCounted a c.grown-self-inside.result c.grown-self-inside-2.result c.self.inside.code)
    (sym c.in_ok-token.ensures.added)
    (field_counted c.self.inside.builder c.args.flags c.args.name.now c.args.sig (omega arith) c.self.inside.strings
    c.self.inside.blobs c.self.inside.code c.grown-self-inside.result c.grown-self-inside-2.result
    c.self.invariant sound plus more)
