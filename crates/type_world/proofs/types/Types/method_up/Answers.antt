use Rattle.std.proofs.Common.{◌≡◌, ◌+◌, ◌-◌, ◌<◌, ◌≤◌, sym, ap, subst, ◌∙◌, arith}
use Rattle.metadata.specs.declared.schema.Table.TheVariants as tables
use Rattle.type_world.specs.declared.base.Base.TheVariants.{Extends}
use Rattle.type_world.specs.Loading.{world_of}
use Rattle.type_world.specs.MethodRefs.{wanted_in}
use Rattle.type_world.specs.Resolution.{base_of}
use Rattle.type_world.specs.World.{rows_of_world}
use Rattle.type_world.proofs.Chains.{type_is}
use Rattle.type_world.proofs.MemberRefs.{Misses, comes_back, misses_more, misses_none, up_base, up_done, up_end, up_found}
use Rattle.type_world.proofs.types.Types.method_up.Goals.{else-same_class, then-same_class}
use Rattle.type_world.proofs.types.Types.method_up.Goals as goal

pub returns-in-Some : goal.returns-in-Some
returns-in-Some c =
    let world = world_of c.args.self.now in
    let look = wanted_in world c.args.wanted.now in
    let rows = c.longest_chain-steps-end.ensures.most in
    let test = c.loop-steps-test.true in
    let below : c.loop-steps.steps < rows_of_world (world_of c.args.self.now) tables.TypeDef + 1 = omega (arith, rows, test) in
    up_found world look c.loop-steps.at (rows_of_world world tables.TypeDef + 1) c.loop-steps.steps c.in-Some.method below
    (sym c.in-Some.is ∙ c.method_in.ensures)
    ∙ sym c.loop-steps.invariant.same

pub returns-in_default-base_of : goal.returns-in_default-base_of
returns-in_default-base_of c =
    let world = world_of c.args.self.now in
    let look = wanted_in world c.args.wanted.now in
    let rows = c.longest_chain-steps-end.ensures.most in
    let test = c.loop-steps-test.true in
    let below : c.loop-steps.steps < rows_of_world (world_of c.args.self.now) tables.TypeDef + 1 = omega (arith, rows, test) in
    up_end world look c.loop-steps.at (rows_of_world world tables.TypeDef + 1) c.loop-steps.steps below
    (sym c.in_default.is ∙ c.method_in.ensures) (λ base e. c.in_default-base_of.not-Extends base (c.base_of.ensures ∙ e))
    ∙ sym c.loop-steps.invariant.same

pub returns-then-same_id : goal.returns-then-same_id
returns-then-same_id c =
    let world = world_of c.args.self.now in
    let look = wanted_in world c.args.wanted.now in
    let rows = c.longest_chain-steps-end.ensures.most in
    let test = c.loop-steps-test.true in
    let below : c.loop-steps.steps < rows_of_world (world_of c.args.self.now) tables.TypeDef + 1 = omega (arith, rows, test) in
    let extends : base_of (world_of c.args.self.now) c.loop-steps.at ≡ Extends c.in-Extends.base = sym c.base_of.ensures
    ∙ c.in-Extends.is in
    let missing = sym c.in_default.is ∙ c.method_in.ensures in
    sym (c.loop-steps.invariant.same
    ∙ up_base world look c.loop-steps.at (rows_of_world world tables.TypeDef + 1) c.loop-steps.steps c.in-Extends.base
    below missing (sym extends)
    ∙ comes_back world look c.loop-steps.remembered c.loop-steps.at c.in-Extends.base
    (rows_of_world world tables.TypeDef + 1 - (c.loop-steps.steps + 1)) c.loop-steps.invariant.missed (sym missing) extends
    (type_is c.in-Extends.base c.loop-steps.remembered (sym c.same_id.ensures ∙ c.if-same_id.true)))

pub loop-steps-preserved : goal.loop-steps-preserved
loop-steps-preserved c =
    let world = world_of c.args.self.now in
    let look = wanted_in world c.args.wanted.now in
    let base = c.in-Extends.base in
    let rows = c.longest_chain-steps-end.ensures.most in
    let test = c.loop-steps-test.true in
    let below : c.loop-steps.steps < rows_of_world (world_of c.args.self.now) tables.TypeDef + 1 = omega (arith, rows, test) in
    let extends : base_of (world_of c.args.self.now) c.loop-steps.at ≡ Extends c.in-Extends.base = sym c.base_of.ensures
    ∙ c.in-Extends.is in
    let missing = sym c.in_default.is ∙ c.method_in.ensures in
    record {
      same =
          c.loop-steps.invariant.same
          ∙ up_base world look c.loop-steps.at (rows_of_world world tables.TypeDef + 1) c.loop-steps.steps
          c.in-Extends.base below missing (sym extends);
      missed =
          elim c.if-same_class.branch [
            | then-same_class w ↦ subst (λ x. Misses world look x base) (sym w.remembered-is) (misses_none world look base)
            | else-same_class w ↦
                subst (λ x. Misses world look x base) (sym w.remembered-is)
                (misses_more world look c.loop-steps.remembered c.loop-steps.at base c.loop-steps.invariant.missed (sym missing) extends)
          ];
    }

pub returns : goal.returns
returns c =
    let world = world_of c.args.self.now in
    let look = wanted_in world c.args.wanted.now in
    let rows = c.longest_chain-steps-end.ensures.most in
    let test = c.loop-steps-test.false in
    let past : rows_of_world (world_of c.args.self.now) tables.TypeDef + 1 ≤ c.loop-steps.steps = omega (arith, rows, test) in
    up_done world look c.loop-steps.at (rows_of_world world tables.TypeDef + 1) c.loop-steps.steps past ∙ sym c.loop-steps.invariant.same
