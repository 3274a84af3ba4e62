use Rattle.std.proofs.Common.{◌≡◌, is_some, option_copied}
use Rattle.r2r_commands.specs.RunWords.{each_of, number_of, parts}
use Rattle.r2r_commands.specs.Values.{rest_parts}
use Rattle.r2r_commands.proofs.PartsAt.{rest_len}
use Rattle.r2r_commands.proofs.values.are_numbers.Given as goal

abbrev pub invariant-loop-rest : goal.invariant-loop-rest
invariant-loop-rest l =
    is_some (each_of number_of (rest_parts (option_copied l.rest))) ≡ is_some (each_of number_of (parts l.value))

abbrev pub decreases-loop-rest : goal.decreases-loop-rest
decreases-loop-rest l = rest_len (option_copied l.rest)
