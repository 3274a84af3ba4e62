use Rattle.std.proofs.Common.{length, refl, arith}
use Rattle.type_world.proofs.Counts.{few_there}
use Rattle.type_world.proofs.assemblies.Assemblies.count.Goals as goal

pub overflow_cast-result : goal.overflow_cast-result
overflow_cast-result c =
    let both =
    few_there c.self.inside.assemblies.items c.as_slice-assemblies.result.now
    (length c.as_slice-assemblies.result.now) c.as_slice-assemblies.ensures.value refl c.self.invariant.0.some c.self.invariant.0.few in
    let few = both.1 in
    omega (arith, few)

pub returns-clause-some : goal.returns-clause-some
returns-clause-some c =
    (few_there c.self.inside.assemblies.items c.as_slice-assemblies.result.now (length c.as_slice-assemblies.result.now)
    c.as_slice-assemblies.ensures.value refl c.self.invariant.0.some c.self.invariant.0.few).0

pub returns-clause-few : goal.returns-clause-few
returns-clause-few c =
    (few_there c.self.inside.assemblies.items c.as_slice-assemblies.result.now (length c.as_slice-assemblies.result.now)
    c.as_slice-assemblies.ensures.value refl c.self.invariant.0.some c.self.invariant.0.few).1
