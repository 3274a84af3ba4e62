use Rattle.std.proofs.Common.{◌≡◌, length, sym, ap, ◌∙◌, arith, option_copied}
use Rattle.type_world.specs.Loading.{world_of}
use Rattle.type_world.proofs.ProfileKept.{kept_locals_of, past_locals, unkept_locals}
use Rattle.type_world.proofs.profile.Profile.locals_of.Goals as goal

pub returns-then-count-method : goal.returns-then-count-method
returns-then-count-method c =
    let count = c.count.ensures.count in
    let read : length c.assemblies.result.now ≡ length c.args.self.now = ap length (c.assemblies.ensures ∙ c.types.ensures) in
    let past = c.if-count-method.true in
    past_locals c.args.self.now c.args.method (omega (arith, count, read, past))

pub returns-in-Some : goal.returns-in-Some
returns-in-Some c =
    let few = c.count.ensures.few in
    let below = c.if-count-method.false in
    c.locals.ensures
    ∙ kept_locals_of (world_of c.args.self.now) c.args.method c.in-Some.answered.now (λ e. omega (arith, few, below, e))
    (sym c.answered_at.ensures ∙ ap option_copied c.in-Some.is)

pub returns-in-None : goal.returns-in-None
returns-in-None c = unkept_locals c.args.self.now c.args.method (sym c.answered_at.ensures ∙ ap option_copied c.in-None.is)
