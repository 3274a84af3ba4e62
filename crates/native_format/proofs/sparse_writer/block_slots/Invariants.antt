use Rattle.std.proofs.Common.{◌≡◌, ℕ, ◌+◌, ◌^◌, ◌<◌, None, get_or, length}
use Rattle.std.specs.Option.{option_copied}
use Rattle.native_format.specs.SparseBytes.{AreElements, content_by_index}
use Rattle.native_format.specs.SparseSteps.{SameFrom}
use Rattle.native_format.proofs.sparse_writer.block_slots.Given as goal

-- the slots so far, and that the rest has what is at or after the next index
abbrev pub invariant-loop-i : goal.invariant-loop-i
invariant-loop-i l = record {
  wide : length l.slots ≡ 16;
  rest : AreElements (l.first + l.i) (2 ^ 32) l.rest;
  others : SameFrom (l.first + l.i) l.elements l.rest;
  slots : (k : ℕ) → k < l.i → option_copied (get_or l.slots k None) ≡ content_by_index l.elements (l.first + k);
}
