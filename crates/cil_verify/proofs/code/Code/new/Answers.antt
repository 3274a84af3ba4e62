use Rattle.std.proofs.Common.{length, sym, ap, ◌∙◌, arith}
use Rattle.cil_decode.specs.Bodies.{is_start}
use Rattle.cil_verify.proofs.Followed.{few_instrs}
use Rattle.cil_verify.proofs.code.Code.new.Goals as goal

pub invariant_of-result : goal.invariant_of-result
invariant_of-result c =
    let same = c.in_ok-steps.ensures in (
      λ at. c.in_ok-starts.ensures at ∙ ap (λ list. is_start list at) (sym same),
      omega (arith, few_instrs c.args.method.now.code.now c.args.instrs.now c.requires.code, ap length same, c.requires.small),
    )
