use Rattle.std.proofs.Common.{ap, ◌∙◌, slice_get}
use Rattle.type_world.proofs.FullNames.{first_inside, first_of}
use Rattle.type_world.proofs.assemblies.Assemblies.first.Goals as goal

pub bounds-assemblies-0 : goal.bounds-assemblies-0
bounds-assemblies-0 c =
    first_inside c.self.inside.assemblies.items c.as_slice-assemblies.result.now c.as_slice-assemblies.ensures.value c.self.invariant.0.some

pub returns : goal.returns
returns c =
    first_of c.self.inside.assemblies.items c.as_slice-assemblies.result.now c.index-assemblies-0.result
    c.as_slice-assemblies.ensures.value c.self.invariant.0.some
    c.index-assemblies-0.is
    ∙ ap (λ fs. slice_get fs 0) c.self.view_is
