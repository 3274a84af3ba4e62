use Rattle.std.proofs.Common.{◌≡◌, sym, subst, ◌∙◌}
use Rattle.type_world.specs.declared.base.Base.TheVariants.{Extends}
use Rattle.type_world.specs.Loading.{world_of}
use Rattle.type_world.specs.Resolution.{base_of}
use Rattle.type_world.proofs.Repetitions.{IsAbove, above_more, above_none, is_repeated}
use Rattle.type_world.proofs.types.Types.repeated.Goals.{else-steps-next, then-steps-next}
use Rattle.type_world.proofs.types.Types.repeated.Goals as goal

pub returns-then-same_id : goal.returns-then-same_id
returns-then-same_id c =
    is_repeated (world_of c.args.self.now) c.loop-steps.remembered c.loop-steps.at c.in-Extends.base c.loop-steps.invariant
    (sym c.base_of.ensures ∙ c.in-Extends.is) (sym c.same_id.ensures ∙ c.if-same_id.true)

pub loop-steps-preserved : goal.loop-steps-preserved
loop-steps-preserved c =
    let world = world_of c.args.self.now in
    let base = c.in-Extends.base in
    let extends : base_of (world_of c.args.self.now) c.loop-steps.at ≡ Extends c.in-Extends.base = sym c.base_of.ensures
    ∙ c.in-Extends.is in
    elim c.if-steps-next.branch [
      | then-steps-next w ↦ subst (λ x. IsAbove world x base) (sym w.remembered-is) (above_none world base)
      | else-steps-next w ↦
          subst (λ x. IsAbove world x base) (sym w.remembered-is)
          (above_more world c.loop-steps.remembered c.loop-steps.at base c.loop-steps.invariant extends)
    ]
