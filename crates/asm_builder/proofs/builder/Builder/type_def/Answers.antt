use Rattle.std.proofs.Common.{arith}
use Rattle.std.proofs.lemmas.Grind.{common_steps}
use Rattle.asm_builder.proofs.Counts.{few_type_defs, few_fields, few_methods}
use Rattle.asm_builder.proofs.builder.Builder.type_def.Goals as goal

pub overflow_cast-row : goal.overflow_cast-row
overflow_cast-row c = let few = few_fields _ c.self.invariant.1 c.len.result (grind (arith, common_steps)) in omega (arith, few)

pub overflow_cast-row-2 : goal.overflow_cast-row-2
overflow_cast-row-2 c = let few = few_methods _ c.self.invariant.1 c.len-2.result (grind (arith, common_steps)) in omega (arith, few)

pub last_token-requires : goal.last_token-requires
last_token-requires c = few_type_defs _ c.requires.sound c.len-3.result (grind (arith, common_steps))
