use Rattle.std.proofs.Common.{◌≡◌, ◌++◌, ◌<◌, ◌^◌, drop, take, All}
use Rattle.rtr_sections.specs.Parts.{unwind_bytes}
use Rattle.rtr_sections.proofs.pieces.put_unwinds.Given as goal

abbrev pub invariant-loop-function : goal.invariant-loop-function
invariant-loop-function l = record {
  -- what was put and what is left are all
  put : l.out.items ++ unwind_bytes (drop l.function-index l.functions) ≡ l.initial.out.items ++ unwind_bytes l.functions;
  ranges : All (λ f. f.length < 2 ^ 32) (take l.function-index l.functions);
}
