use Rattle.std.proofs.Common.{arith}
use Rattle.std.proofs.lemmas.Grind.{common_steps}
use Rattle.asm_builder.proofs.Counts.{few_fields}
use Rattle.asm_builder.proofs.builder.Builder.field.Goals as goal

pub last_token-requires : goal.last_token-requires
last_token-requires c = few_fields _ c.requires.sound c.len.result (grind (arith, common_steps))
