use Rattle.cil_decode.proofs.Followed.{decoded_so, one_body, one_refusal}
use Rattle.cil_decode.proofs.body.decode_body.Goals as goal

pub returns-clause-only_body : goal.returns-clause-only_body
returns-clause-only_body c =
    λ list. one_body c.args.code.now c.read_linked.result list c.read_linked.ensures.body c.read_linked.ensures.refused

pub returns-clause-only_refusal : goal.returns-clause-only_refusal
returns-clause-only_refusal c =
    λ e. one_refusal c.args.code.now c.read_linked.result e c.read_linked.ensures.body c.read_linked.ensures.refused

pub returns-clause-decoded : goal.returns-clause-decoded
returns-clause-decoded c =
    decoded_so c.args.code.now c.read_linked.result (λ i. (c.type_inv.code i).fits) c.requires c.read_linked.ensures.body
