use Rattle.std.proofs.Common.{◌≡◌, ◌<◌, ◌+◌, ◌^◌, ℕ, sym, subst}
use Rattle.asm_builder.specs.Asked.{Asked, with_assembly_ref}
use Rattle.asm_builder.specs.Sound.{IsSound}
use Rattle.asm_builder.specs.Tested.{IsCounted}
use Rattle.asm_builder.proofs.SoundCalls.{assembly_ref_counted}
use Rattle.asm_builder.proofs.draft.Draft.assembly_ref.Goals as goal

pub invariant_of-self-2 : goal.invariant_of-self-2
invariant_of-self-2 c =
    let sound : IsSound (with_assembly_ref c.self.inside.builder c.args.name.now) =
    subst (λ (a : Asked). IsSound (with_assembly_ref a c.args.name.now)) (sym c.self.view_is)
    (c.can_assembly_ref.ensures.0 c.if-not-can_assembly_ref.false) in
    let plus =
    subst (λ (n : ℕ). c.self.inside.strings + n < 2 ^ 24 → c.grown-self-inside.result ≡ c.self.inside.strings + n)
    c.text_room.ensures c.grown-self-inside.ensures in
    subst (λ (a : Asked). IsCounted a c.grown-self-inside.result c.self.inside.blobs c.self.inside.code) (sym c.in_ok-token.ensures.added)
    (assembly_ref_counted c.self.inside.builder c.args.name.now c.self.inside.strings c.self.inside.blobs
    c.self.inside.code c.grown-self-inside.result
    c.self.invariant sound plus)
