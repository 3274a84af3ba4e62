use Rattle.std.proofs.Common.{◌≡◌, ◌+◌, ◌*◌, ◌++◌, ◌<◌, ◌^◌, drop, take, All}
use Rattle.rtr_sections.specs.Parts.{function_bytes}
use Rattle.rtr_sections.proofs.pieces.put_functions.Given as goal

abbrev pub invariant-loop-function : goal.invariant-loop-function
invariant-loop-function l = record {
  -- what was put and what is left are all
  put : l.out.items ++ function_bytes l.unwind (drop l.function-index l.functions)
      ≡ l.initial.out.items ++ function_bytes l.unwinds l.functions;
  unwind : l.unwind ≡ l.unwinds + 4 * l.function-index;
  ranges : All (λ f. f.begin < 2 ^ 32) (take l.function-index l.functions);
}
