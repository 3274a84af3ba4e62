use Rattle.std.proofs.Common.{◌≡◌, ◌<◌, ◌+◌, ◌^◌, ◌∙◌, ℕ, sym, ap, subst, arith}
use Rattle.asm_builder.specs.Asked.{Asked, with_type_def}
use Rattle.asm_builder.specs.Sound.{IsSound}
use Rattle.asm_builder.specs.Tested.{IsCounted, text_room}
use Rattle.asm_builder.proofs.SoundCalls.{type_def_counted}
use Rattle.asm_builder.proofs.draft.Draft.type_def.Goals as goal

pub invariant_of-self-2 : goal.invariant_of-self-2
invariant_of-self-2 c =
    let sound : IsSound (with_type_def c.self.inside.builder c.args.flags c.args.space.now c.args.name.now c.args.base) =
    subst (λ (a : Asked). IsSound (with_type_def a c.args.flags c.args.space.now c.args.name.now c.args.base)) (sym c.self.view_is)
    (c.can_type_def.ensures.0 c.if-not-can_type_def.false) in
    let room : c.text_room.result + c.text_room-2.result ≡ text_room c.args.name.now + text_room c.args.space.now =
    ap (λ (n : ℕ). n + c.text_room-2.result) c.text_room.ensures ∙ ap (λ (n : ℕ). text_room c.args.name.now + n) c.text_room-2.ensures in
    let plus =
    subst (λ (n : ℕ). c.self.inside.strings + n < 2 ^ 24 → c.grown-self-inside.result ≡ c.self.inside.strings + n) room
    c.grown-self-inside.ensures in
    subst (λ (a : Asked). IsCounted a c.grown-self-inside.result c.self.inside.blobs c.self.inside.code) (sym c.in_ok-token.ensures.added)
    (type_def_counted c.self.inside.builder c.args.flags c.args.space.now c.args.name.now c.args.base (omega arith)
    c.self.inside.strings c.self.inside.blobs c.self.inside.code c.grown-self-inside.result
    c.self.invariant sound plus)
