use Rattle.std.proofs.Common.{sym, ap, ◌∙◌, ◌+◌, ◌-◌, arith, refl}
use Rattle.std.specs.List.{list_any}
use Rattle.metadata.specs.declared.schema.Table.TheVariants as tables
use Rattle.type_world.specs.declared.base.Base.TheVariants.{NoBase, UnresolvedBase}
use Rattle.type_world.specs.Loading.{world_of}
use Rattle.type_world.specs.Resolution.{type_eq}
use Rattle.type_world.specs.World.{rows_of_world}
use Rattle.type_world.proofs.ChainSteps.{above, here, in_whole, no_further, walked}
use Rattle.type_world.proofs.ComesBack.{comes_back, goes_on, starts}
use Rattle.type_world.proofs.types.Types.extends.Goals as goal

pub loop-step-init : goal.loop-step-init
loop-step-init c =
    (in_whole (world_of c.args.self.now) c.args.of c.args.to, starts (world_of c.args.self.now) (type_eq c.args.to) c.args.of)

pub returns-then-is_type : goal.returns-then-is_type
returns-then-is_type c =
    let world = world_of c.args.self.now in
    let most = c.longest_chain-step-end.ensures.most in
    let below = c.loop-step-test.true in
    sym (c.loop-step.invariant.0
    ∙ here world c.loop-step.step (rows_of_world world tables.TypeDef + 1) c.loop-step.base c.args.to (omega (arith, most, below))
    (sym c.is_type.ensures ∙ c.if-is_type.true))

pub returns-in-NoBase : goal.returns-in-NoBase
returns-in-NoBase c =
    let world = world_of c.args.self.now in
    let most = c.longest_chain-step-end.ensures.most in
    let below = c.loop-step-test.true in
    sym (c.loop-step.invariant.0
    ∙ no_further world c.loop-step.step (rows_of_world world tables.TypeDef + 1) c.loop-step.base c.args.to NoBase
    (omega (arith, most, below)) (sym c.is_type.ensures ∙ c.if-is_type.false) (sym c.base_of.ensures ∙ c.in-NoBase.is) refl)

pub returns-in-UnresolvedBase : goal.returns-in-UnresolvedBase
returns-in-UnresolvedBase c =
    let world = world_of c.args.self.now in
    let most = c.longest_chain-step-end.ensures.most in
    let below = c.loop-step-test.true in
    sym (c.loop-step.invariant.0
    ∙ no_further world c.loop-step.step (rows_of_world world tables.TypeDef + 1) c.loop-step.base c.args.to UnresolvedBase
    (omega (arith, most, below)) (sym c.is_type.ensures ∙ c.if-is_type.false) (sym c.base_of.ensures ∙ c.in-UnresolvedBase.is) refl)

pub returns-then-is_type-2 : goal.returns-then-is_type-2
returns-then-is_type-2 c =
    let world = world_of c.args.self.now in
    let most = c.longest_chain-step-end.ensures.most in
    let below = c.loop-step-test.true in
    let fails = sym c.is_type.ensures ∙ c.if-is_type.false in
    let base = sym c.base_of.ensures ∙ c.in-Extends.is in
    sym (c.loop-step.invariant.0
    ∙ above world c.loop-step.step (rows_of_world world tables.TypeDef + 1) c.loop-step.base c.args.to c.in-Extends.next
    (omega (arith, most, below)) fails base
    ∙ comes_back world (type_eq c.args.to) c.loop-step.mark c.loop-step.base c.in-Extends.next
    (rows_of_world world tables.TypeDef + 1 - (c.loop-step.step + 1)) c.loop-step.invariant.1 fails base
    (sym c.is_type-in-loop-step.ensures ∙ c.if-is_type-2.true))

pub loop-step-preserved : goal.loop-step-preserved
loop-step-preserved c =
    let world = world_of c.args.self.now in
    let most = c.longest_chain-step-end.ensures.most in
    let below = c.loop-step-test.true in
    let fails = sym c.is_type.ensures ∙ c.if-is_type.false in
    let base = sym c.base_of.ensures ∙ c.in-Extends.is in (
      c.loop-step.invariant.0
          ∙ above world c.loop-step.step (rows_of_world world tables.TypeDef + 1) c.loop-step.base c.args.to c.in-Extends.next
          (omega (arith, most, below)) fails base,
      goes_on world (type_eq c.args.to) c.loop-step.mark c.loop-step.base c.in-Extends.next c.mark_after-mark.result c.loop-step.invariant.1
          fails base c.mark_after-mark.ensures,
    )

pub returns : goal.returns
returns c =
    let world = world_of c.args.self.now in
    let most = c.longest_chain-step-end.ensures.most in
    let past = c.loop-step-test.false in
    sym (c.loop-step.invariant.0
    ∙ ap (list_any (type_eq c.args.to))
    (walked world c.loop-step.step (rows_of_world world tables.TypeDef + 1) c.loop-step.base (omega (arith, most, past))))
