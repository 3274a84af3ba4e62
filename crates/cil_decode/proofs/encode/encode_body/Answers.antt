use Rattle.std.proofs.Common.{arith}
use Rattle.std.proofs.lemmas.Grind.{common_steps}
use Rattle.cil_decode.proofs.Encoded.{encoded, ends_small, only_encoded}
use Rattle.cil_decode.proofs.encode.encode_body.Goals as goal

pub code_len-requires : goal.code_len-requires
code_len-requires c = ends_small c.args.list.now c.requires

pub put_all-requires : goal.put_all-requires
put_all-requires c = ends_small c.args.list.now c.requires

pub returns-clause-code : goal.returns-clause-code
returns-clause-code c = encoded c.args.list.now _ c.requires (grind (arith, common_steps))

pub returns-clause-only_code : goal.returns-clause-only_code
returns-clause-only_code c = only_encoded c.args.list.now _ c.requires (grind (arith, common_steps))
