use Rattle.std.proofs.Common.{◌≡◌, ◌++◌, IsSome, codes, length, map, option_map, string_bytes, vec_items}
use Rattle.r2r_commands.specs.RunWords.{arguments_of, each_of, items, values}
use Rattle.r2r_commands.proofs.run_words.given_workers.Given as goal

abbrev pub invariant-loop-item : goal.invariant-loop-item
invariant-loop-item l = record {
  valid : IsSome (each_of arguments_of (values (codes "--worker") (items (map string_bytes l.rest))));
  -- those so far and those that are left are all
  all : each_of arguments_of (values (codes "--worker") (items (map string_bytes l.words)))
      ≡ option_map (λ more. map vec_items l.workers.items ++ more)
      (each_of arguments_of (values (codes "--worker") (items (map string_bytes l.rest))));
}

abbrev pub decreases-loop-item : goal.decreases-loop-item
decreases-loop-item l = length l.rest
