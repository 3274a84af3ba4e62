use Rattle.std.proofs.Common.{sym, ap, ◌∙◌, option_copied}
use Rattle.type_world.specs.Loading.{world_of}
use Rattle.type_world.specs.Profiled.{built_in_shapes}
use Rattle.type_world.proofs.ProfileKept.{kept_built_in, kept_shape, no_row_shape}
use Rattle.type_world.proofs.profile.Profile.shape_of.Goals as goal

pub returns-then-method-eq-BUILT_IN : goal.returns-then-method-eq-BUILT_IN
returns-then-method-eq-BUILT_IN c =
    c.answer_of.ensures
    ∙ kept_built_in (world_of c.args.self.now) c.args.method c.as_slice.result.now c.if-method-eq-BUILT_IN.true
    (c.as_slice.ensures.value ∙ c.self.invariant.1 ∙ ap (λ files. built_in_shapes (world_of files)) c.self.view_is)

pub returns-in-Some : goal.returns-in-Some
returns-in-Some c =
    c.shape.ensures
    ∙ kept_shape (world_of c.args.self.now) c.args.method c.in-Some.answered.now c.if-method-eq-BUILT_IN.false
    (sym c.answered_at.ensures ∙ ap option_copied c.in-Some.is)

pub returns-in-None : goal.returns-in-None
returns-in-None c =
    sym (no_row_shape c.args.self.now c.args.method c.if-method-eq-BUILT_IN.false
    (sym c.answered_at.ensures ∙ ap option_copied c.in-None.is))
