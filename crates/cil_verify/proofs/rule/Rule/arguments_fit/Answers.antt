use Rattle.std.proofs.Common.{◌≡◌, ◌+◌, Some, None, length, drop, sym, ap, ◌∙◌, if◌then◌else◌, arith}
use Rattle.cli_assembly.specs.declared.element.Elem.TheVariants as elems
use Rattle.cil_meaning.specs.declared.kind.Kind.TheVariants as kinds
use Rattle.type_world.specs.declared.place.Place.TheVariants as places
use Rattle.type_world.specs.Loading.{world_of}
use Rattle.cil_verify.proofs.Fitted.{left, none_left, one_more}
use Rattle.cil_verify.proofs.rule.Rule.arguments_fit.Goals as goal

pub returns-then-not-argument_fits : goal.returns-then-not-argument_fits
returns-then-not-argument_fits c =
    let world = world_of c.args.self.now.world.now in
    let next = left world c.args.arguments.now c.args.stack.now (c.loop-i.i + 1) in
    sym c.loop-i.invariant
    ∙ one_more world c.args.arguments.now c.args.stack.now c.loop-i.i (places.Integer elems.I4) kinds.I4 c.loop-i-test.true
    ∙ ap (λ b. if b then next else None)
    (sym (c.argument_fits.ensures (places.Integer elems.I4) kinds.I4) ∙ c.if-not-argument_fits.true)

pub loop-i-preserved : goal.loop-i-preserved
loop-i-preserved c =
    let world = world_of c.args.self.now.world.now in
    let next = left world c.args.arguments.now c.args.stack.now (c.loop-i.i + 1) in
    sym (
    one_more world c.args.arguments.now c.args.stack.now c.loop-i.i (places.Integer elems.I4) kinds.I4 c.loop-i-test.true
    ∙ ap (λ b. if b then next else None)
    (sym (c.argument_fits.ensures (places.Integer elems.I4) kinds.I4) ∙ c.if-not-argument_fits.false)
    ) ∙ c.loop-i.invariant

pub returns : goal.returns
returns c =
    let world = world_of c.args.self.now.world.now in
    let all : c.loop-i.i ≡ length c.args.arguments.now = omega arith in
    sym c.loop-i.invariant ∙ none_left world c.args.arguments.now c.args.stack.now c.loop-i.i c.loop-i-test.false
    ∙ ap (λ n. Some (drop n c.args.stack.now)) all
