use Rattle.std.proofs.Common.{◌<◌, ◌^◌, ◌++◌, arith}
use Rattle.std.proofs.lemmas.List.{take_all}
use Rattle.std.proofs.lemmas.List.Elements.{All-more}
use Rattle.rtr_sections.specs.declared.functions.Function.{Function}
use Rattle.rtr_sections.specs.Parts.{function_bytes}
use Rattle.rtr_sections.proofs.PutLemmas.{function_more, put_made}
use Rattle.rtr_sections.proofs.pieces.put_functions.Goals as goal

pub loop-function-preserved : goal.loop-function-preserved
loop-function-preserved c =
    let functions = c.args.functions.now in
    let i = c.loop-function.function-index in
    record {
      put =
          function_more functions i c.loop-function.unwind (record { begin = 0; length = 0 }) c.loop-function.out.items _ _
          (c.args.out.now.items ++ function_bytes c.args.unwinds functions) c.loop-function-test.true
          (put_made c.loop-function.out.items _ _ _ c.in_ok-extend_from_slice.ensures.items c.to_le_bytes.ensures)
          (put_made _ _ _ _ c.in_ok-extend_from_slice-2.ensures.items c.to_le_bytes-in-loop-function.ensures) c.loop-function.invariant.put;
      unwind = omega arith;
      ranges = All-more (λ (f : Function). f.begin < 2 ^ 32) functions i (record { begin = 0; length = 0 }) c.loop-function-test.true
          c.loop-function.invariant.ranges (omega arith);
    }

pub returns-clause-ranges : goal.returns-clause-ranges
returns-clause-ranges c =
    let all = take_all c.loop-function.function-index c.args.functions.now (omega arith) in
    rw all at c.loop-function.invariant.ranges
