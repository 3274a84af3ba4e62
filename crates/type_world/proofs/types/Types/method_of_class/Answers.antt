use Rattle.std.proofs.Common.{length, ap, ◌∙◌}
use Rattle.type_world.specs.Loading.{world_of}
use Rattle.type_world.specs.MethodRefs.{is_wanted}
use Rattle.type_world.proofs.MemberRefs.{nothing_found}
use Rattle.type_world.proofs.types.Types.method_of_class.Goals as goal

pub returns-then-count-asm : goal.returns-then-count-asm
returns-then-count-asm c =
    nothing_found c.args.self.now c.args.asm c.args.class c.count.result
    (is_wanted (world_of c.args.self.now) c.args.wanted.now c.args.asm)
    (c.count.ensures.count ∙ ap length c.assemblies.ensures) c.if-count-asm.true
