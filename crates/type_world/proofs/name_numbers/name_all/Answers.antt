use Rattle.std.proofs.Common.{◌++◌, ◌∷◌, [], take, ap, ◌∙◌}
use Rattle.type_world.specs.Loading.{world_of}
use Rattle.type_world.specs.NameNumbers.{world_numbers}
use Rattle.type_world.proofs.OtherNames.{no_numbers, one_assembly}
use Rattle.type_world.proofs.name_numbers.name_all.Goals as goal

pub loop-assembly-init : goal.loop-assembly-init
loop-assembly-init c = c.new-all.ensures.items ∙ no_numbers c.args.assemblies.now

pub loop-assembly-preserved : goal.loop-assembly-preserved
loop-assembly-preserved c =
    let so_far = world_numbers (world_of (take c.loop-assembly.assembly-index c.args.assemblies.now)) in
    c.in_ok-push.ensures.items
    ∙ ap (λ xs. xs ++ c.in_ok-of.field-0 ∷ []) c.loop-assembly.invariant
    ∙ ap (λ n. so_far ++ n ∷ []) c.in_ok-of.ensures
    ∙ one_assembly c.args.assemblies.now c.loop-assembly.assembly-index c.assembly-item.result c.loop-assembly-test.true c.assembly-item.is
