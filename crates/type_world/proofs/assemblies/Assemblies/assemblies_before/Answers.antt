use Rattle.type_world.proofs.Counts.{few_before}
use Rattle.type_world.proofs.assemblies.Assemblies.assemblies_before.Goals as goal

pub returns-clause-few : goal.returns-clause-few
returns-clause-few c =
    few_before c.self.inside.assemblies.items c.deref.result.now c.min.result c.deref.ensures.value c.self.invariant.0.few
