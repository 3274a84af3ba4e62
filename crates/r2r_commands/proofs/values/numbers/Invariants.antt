use Rattle.std.proofs.Common.{◌≡◌, ◌++◌, IsSome, option_copied, option_map}
use Rattle.r2r_commands.specs.RunWords.{each_of, number_of, parts}
use Rattle.r2r_commands.specs.Values.{rest_parts}
use Rattle.r2r_commands.proofs.PartsAt.{rest_len}
use Rattle.r2r_commands.proofs.values.numbers.Given as goal

abbrev pub invariant-loop-rest : goal.invariant-loop-rest
invariant-loop-rest l = record {
  valid : IsSome (each_of number_of (rest_parts (option_copied l.rest)));
  -- those so far and those that are left are all
  all : each_of number_of (parts l.value)
      ≡ option_map (λ more. l.numbers.items ++ more) (each_of number_of (rest_parts (option_copied l.rest)));
}

abbrev pub decreases-loop-rest : goal.decreases-loop-rest
decreases-loop-rest l = rest_len (option_copied l.rest)
