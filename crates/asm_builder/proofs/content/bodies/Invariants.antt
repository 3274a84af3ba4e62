use Rattle.asm_builder.proofs.Methods.{AreBodies}
use Rattle.asm_builder.proofs.content.bodies.Given as goal

abbrev pub invariant-loop-m : goal.invariant-loop-m
invariant-loop-m l = AreBodies l.methods l.m-index l.out.items l.before
