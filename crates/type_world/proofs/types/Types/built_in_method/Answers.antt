use Rattle.std.proofs.Common.{sym, ◌∙◌}
use Rattle.type_world.specs.Loading.{world_of}
use Rattle.type_world.specs.MethodRefs.{is_wanted_built_in}
use Rattle.type_world.proofs.FullNames.{row_passed}
use Rattle.type_world.proofs.MemberRefs.{built_in_found, no_built_in_found}
use Rattle.type_world.proofs.types.Types.built_in_method.Goals as goal

pub loop-before-preserved : goal.loop-before-preserved
loop-before-preserved c =
    c.loop-before.invariant
    ∙ row_passed (is_wanted_built_in (world_of c.args.self.now) c.args.wanted.now c.args.of)
    c.loop-before.before 8 c.loop-before-test.true (sym c.is_built_in_method.ensures ∙ c.if-is_built_in_method.false)

pub returns-then-is_built_in_method : goal.returns-then-is_built_in_method
returns-then-is_built_in_method c =
    built_in_found
    (is_wanted_built_in (world_of c.args.self.now) c.args.wanted.now c.args.of)
    c.loop-before.before c.loop-before-test.true c.loop-before.invariant (sym c.is_built_in_method.ensures ∙ c.if-is_built_in_method.true)

pub returns : goal.returns
returns c =
    no_built_in_found
    (is_wanted_built_in (world_of c.args.self.now) c.args.wanted.now c.args.of)
    c.loop-before.before c.loop-before-test.false c.loop-before.invariant
