use Rattle.type_world.proofs.Names.{names_are}
use Rattle.type_world.proofs.assemblies.have_one_name.Goals as goal

pub returns : goal.returns
returns c =
    names_are c.args.assemblies.now c.args.i c.args.j c.index-assemblies-i.result c.index-assemblies-j.result
    c.name-2.result.now c.name.result.now c.eq.result
    c.requires.first c.requires.second c.index-assemblies-i.is c.index-assemblies-j.is c.name-2.ensures c.name.ensures c.eq.ensures
