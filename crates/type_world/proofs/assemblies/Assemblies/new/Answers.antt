use Rattle.std.specs.Vec.{vec_len}
use Rattle.type_world.proofs.Names.{made_world}
use Rattle.type_world.proofs.assemblies.Assemblies.new.Goals as goal

pub numbered-requires : goal.numbered-requires
numbered-requires c =
    made_world c.args.list.items c.deref.result.now c.len-count.result (vec_len c.args.list) c.first_duplicate.result
    c.deref.ensures.value c.requires.some
    c.deref.ensures.len c.len-count.ensures c.if-count-gt-MAX_ASSEMBLIES.false c.first_duplicate.ensures.first c.in-None.is
