use Rattle.std.proofs.Common.{◌≡◌, ◌+◌, ◌≤◌, codes, is_some, length, map, string_bytes}
use Rattle.r2r_commands.specs.RunWords.{arguments_of, each_of, items, most_workers, values}
use Rattle.r2r_commands.proofs.run_words.are_workers.Given as goal

abbrev pub invariant-loop-item : goal.invariant-loop-item
invariant-loop-item l = record {
  most : l.workers ≤ most_workers;
  count : l.workers + length (values (codes "--worker") (items (map string_bytes l.rest)))
      ≡ length (values (codes "--worker") (items (map string_bytes l.words)));
  -- all are arguments where those that are left are
  valid : is_some (each_of arguments_of (values (codes "--worker") (items (map string_bytes l.rest))))
      ≡ is_some (each_of arguments_of (values (codes "--worker") (items (map string_bytes l.words))));
}

abbrev pub decreases-loop-item : goal.decreases-loop-item
decreases-loop-item l = length l.rest
