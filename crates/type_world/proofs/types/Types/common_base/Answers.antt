use Rattle.std.proofs.Common.{sym, ap, ◌∙◌, ◌+◌, find, ◌-◌, arith, refl}
use Rattle.std.specs.Option.{option_map_or}
use Rattle.std.specs.List.{list_any}
use Rattle.metadata.specs.declared.schema.Table.TheVariants as tables
use Rattle.type_world.specs.declared.base.Base.TheVariants.{NoBase, UnresolvedBase}
use Rattle.type_world.specs.declared.identity.TypeId.TheVariants as types
use Rattle.type_world.specs.Loading.{world_of}
use Rattle.type_world.specs.Resolution.{chain_of, type_eq}
use Rattle.type_world.specs.World.{rows_of_world}
use Rattle.type_world.proofs.ChainSteps.{nearest_above, nearest_here, nearest_none, nearest_whole, walked}
use Rattle.type_world.proofs.ComesBack.{goes_on, nearest_back, starts}
use Rattle.type_world.proofs.types.Types.common_base.Goals as goal

pub loop-step-init : goal.loop-step-init
loop-step-init c =
    let world = world_of c.args.self.now in
    (nearest_whole world c.args.of c.args.other, starts world (λ base. list_any (type_eq base) (chain_of world c.args.other)) c.args.of)

pub returns-then-extends : goal.returns-then-extends
returns-then-extends c =
    let world = world_of c.args.self.now in
    let most = c.longest_chain-step-end.ensures.most in
    let below = c.loop-step-test.true in
    sym (c.loop-step.invariant.0
    ∙ nearest_here world (λ base. list_any (type_eq base) (chain_of world c.args.other)) c.loop-step.step
    (rows_of_world world tables.TypeDef + 1) c.loop-step.base (omega (arith, most, below)) (sym c.extends.ensures ∙ c.if-extends.true))

pub returns-in-NoBase : goal.returns-in-NoBase
returns-in-NoBase c =
    let world = world_of c.args.self.now in
    let most = c.longest_chain-step-end.ensures.most in
    let below = c.loop-step-test.true in
    sym (c.loop-step.invariant.0
    ∙ nearest_none world (λ base. list_any (type_eq base) (chain_of world c.args.other)) c.loop-step.step
    (rows_of_world world tables.TypeDef + 1) c.loop-step.base NoBase (omega (arith, most, below))
    (sym c.extends.ensures ∙ c.if-extends.false) (sym c.base_of.ensures ∙ c.in-NoBase.is) refl)

pub returns-in-UnresolvedBase : goal.returns-in-UnresolvedBase
returns-in-UnresolvedBase c =
    let world = world_of c.args.self.now in
    let most = c.longest_chain-step-end.ensures.most in
    let below = c.loop-step-test.true in
    sym (c.loop-step.invariant.0
    ∙ nearest_none world (λ base. list_any (type_eq base) (chain_of world c.args.other)) c.loop-step.step
    (rows_of_world world tables.TypeDef + 1) c.loop-step.base UnresolvedBase (omega (arith, most, below))
    (sym c.extends.ensures ∙ c.if-extends.false) (sym c.base_of.ensures ∙ c.in-UnresolvedBase.is) refl)

pub returns-then-is_type : goal.returns-then-is_type
returns-then-is_type c =
    let world = world_of c.args.self.now in
    let most = c.longest_chain-step-end.ensures.most in
    let below = c.loop-step-test.true in
    let fails = sym c.extends.ensures ∙ c.if-extends.false in
    let base = sym c.base_of.ensures ∙ c.in-Extends.is in
    sym (c.loop-step.invariant.0
    ∙ nearest_above world (λ base. list_any (type_eq base) (chain_of world c.args.other)) c.loop-step.step
    (rows_of_world world tables.TypeDef + 1) c.loop-step.base c.in-Extends.next (omega (arith, most, below)) fails base
    ∙ nearest_back world (λ base. list_any (type_eq base) (chain_of world c.args.other)) c.loop-step.mark c.loop-step.base
    c.in-Extends.next (rows_of_world world tables.TypeDef + 1 - (c.loop-step.step + 1)) c.loop-step.invariant.1 fails base
    (sym c.is_type.ensures ∙ c.if-is_type.true))

pub loop-step-preserved : goal.loop-step-preserved
loop-step-preserved c =
    let world = world_of c.args.self.now in
    let most = c.longest_chain-step-end.ensures.most in
    let below = c.loop-step-test.true in
    let fails = sym c.extends.ensures ∙ c.if-extends.false in
    let base = sym c.base_of.ensures ∙ c.in-Extends.is in (
      c.loop-step.invariant.0
          ∙ nearest_above world (λ base. list_any (type_eq base) (chain_of world c.args.other)) c.loop-step.step
          (rows_of_world world tables.TypeDef + 1) c.loop-step.base c.in-Extends.next (omega (arith, most, below)) fails base,
      goes_on world (λ base. list_any (type_eq base) (chain_of world c.args.other)) c.loop-step.mark c.loop-step.base c.in-Extends.next
          c.mark_after-mark.result c.loop-step.invariant.1 fails base c.mark_after-mark.ensures,
    )

pub returns : goal.returns
returns c =
    let world = world_of c.args.self.now in
    let most = c.longest_chain-step-end.ensures.most in
    let past = c.loop-step-test.false in
    sym (c.loop-step.invariant.0
    ∙ ap (λ l. option_map_or (λ base. base) (find (λ base. list_any (type_eq base) (chain_of world c.args.other)) l) types.Object)
    (walked world c.loop-step.step (rows_of_world world tables.TypeDef + 1) c.loop-step.base (omega (arith, most, past))))
