use Rattle.asm_builder.proofs.Methods.{MethodsSpelled}
use Rattle.asm_builder.proofs.content.Heaps.methods.Given as goal

abbrev pub invariant-loop-m : goal.invariant-loop-m
invariant-loop-m l = MethodsSpelled l.initial.self l.methods l.m-index l.rows.items l.self l.rva
