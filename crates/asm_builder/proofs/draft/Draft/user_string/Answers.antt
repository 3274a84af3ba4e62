use Rattle.std.proofs.Common.{sym, subst}
use Rattle.asm_builder.specs.Asked.{Asked, with_user_string}
use Rattle.asm_builder.specs.Sound.{IsSound}
use Rattle.asm_builder.specs.Tested.{IsCounted}
use Rattle.asm_builder.proofs.SoundCalls.{user_string_counted}
use Rattle.asm_builder.proofs.draft.Draft.user_string.Goals as goal

pub invariant_of-self-2 : goal.invariant_of-self-2
invariant_of-self-2 c =
    let sound : IsSound (with_user_string c.self.inside.builder c.args.units.now) =
    subst (λ (a : Asked). IsSound (with_user_string a c.args.units.now)) (sym c.self.view_is)
    (c.can_user_string.ensures.0 c.if-not-can_user_string.false) in
    subst (λ (a : Asked). IsCounted a c.self.inside.strings c.self.inside.blobs c.self.inside.code) (sym c.in_ok-token.ensures.added)
    (user_string_counted c.self.inside.builder c.args.units.now c.self.inside.strings c.self.inside.blobs c.self.inside.code
    c.self.invariant sound)
