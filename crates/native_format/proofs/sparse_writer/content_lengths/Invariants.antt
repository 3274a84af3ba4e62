use Rattle.std.proofs.Common.{◌≡◌, ℕ, ◌<◌, None, get_or, length}
use Rattle.std.specs.Option.{option_copied, option_map}
use Rattle.native_format.proofs.sparse_writer.content_lengths.Given as goal

-- the lengths so far
abbrev pub invariant-loop-i : goal.invariant-loop-i
invariant-loop-i l = record {
  wide : length l.lengths ≡ 16;
  read : (k : ℕ) → k < l.i → get_or l.lengths k None ≡ option_map length (option_copied (get_or l.slots k None));
}
