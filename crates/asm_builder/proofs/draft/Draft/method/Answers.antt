use Rattle.std.proofs.Common.{◌≡◌, ◌<◌, ◌+◌, ◌^◌, ℕ, sym, subst}
use Rattle.asm_builder.specs.Asked.{Asked, method, with_method}
use Rattle.asm_builder.specs.Sound.{IsSound}
use Rattle.asm_builder.specs.Tested.{IsCounted}
use Rattle.asm_builder.proofs.SoundMethods.{method_counted}
use Rattle.asm_builder.proofs.draft.Draft.method.Goals as goal

pub method-requires : goal.method-requires
method-requires c = record {
  sound =
      subst (λ (a : Asked). IsSound
      (with_method a (method c.args.flags c.args.name.now c.args.sig.now c.args.max_stack c.args.locals.now c.args.code.now)))
      (sym c.self.view_is) (c.can_method.ensures.sound.0 c.if-not-can_method.false);
}

pub invariant_of-self-2 : goal.invariant_of-self-2
invariant_of-self-2 c =
    let sound : IsSound (with_method c.self.inside.builder
    (method c.args.flags c.args.name.now c.args.sig.now c.args.max_stack c.args.locals.now c.args.code.now)) =
    subst (λ (a : Asked). IsSound
    (with_method a (method c.args.flags c.args.name.now c.args.sig.now c.args.max_stack c.args.locals.now
    c.args.code.now))) (sym c.self.view_is)
    (c.can_method.ensures.sound.0 c.if-not-can_method.false) in
    let plus =
    subst (λ (n : ℕ). c.self.inside.strings + n < 2 ^ 24 → c.grown-self-inside.result ≡ c.self.inside.strings + n)
    c.text_room.ensures c.grown-self-inside.ensures in
    let more =
    subst (λ (n : ℕ). c.self.inside.blobs + n < 2 ^ 24 → c.grown-self-inside-2.result ≡ c.self.inside.blobs + n)
    c.method_blobs-blobs.ensures c.grown-self-inside-2.ensures in
    let longer =
    subst (λ (n : ℕ). c.self.inside.code + n < 2 ^ 24 → c.grown-self-inside-3.result ≡ c.self.inside.code + n)
    c.capped.ensures c.grown-self-inside-3.ensures in
    subst (λ (a : Asked). IsCounted a c.grown-self-inside.result c.grown-self-inside-2.result
    c.grown-self-inside-3.result) (sym c.in_ok-token.ensures.added)
    (method_counted c.self.inside.builder
    (method c.args.flags c.args.name.now c.args.sig.now c.args.max_stack c.args.locals.now c.args.code.now)
    c.self.inside.strings c.self.inside.blobs c.self.inside.code c.grown-self-inside.result
    c.grown-self-inside-2.result c.grown-self-inside-3.result
    c.self.invariant sound plus more longer)
