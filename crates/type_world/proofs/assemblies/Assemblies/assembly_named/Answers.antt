use Rattle.std.proofs.Common.{sym, ◌∙◌, arith}
use Rattle.type_world.specs.Loading.{world_of}
use Rattle.type_world.proofs.Names.{count_is}
use Rattle.type_world.proofs.TypeRefs.{named_here, named_nowhere}
use Rattle.type_world.proofs.assemblies.Assemblies.assembly_named.Goals as goal

pub returns-then-is_assembly_named : goal.returns-then-is_assembly_named
returns-then-is_assembly_named c =
    let all = count_is c.args.self.now in
    let count = c.count-asm-end.ensures.count in
    let below = c.loop-asm-test.true in
    named_here (world_of c.args.self.now) c.args.name.now c.loop-asm.asm (omega (arith, all, count, below)) c.loop-asm.invariant
    (sym c.is_assembly_named.ensures ∙ c.if-is_assembly_named.true)

pub returns : goal.returns
returns c =
    let all = count_is c.args.self.now in
    let count = c.count-asm-end.ensures.count in
    let past = c.loop-asm-test.false in
    named_nowhere (world_of c.args.self.now) c.args.name.now (λ k l. c.loop-asm.invariant k (omega (arith, all, count, past, l)))
