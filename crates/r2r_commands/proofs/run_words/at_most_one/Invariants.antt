use Rattle.std.proofs.Common.{◌≡◌, ◌++◌, length, map, option_copied, option_to_list, string_bytes}
use Rattle.r2r_commands.specs.RunWords.{items, values}
use Rattle.r2r_commands.proofs.run_words.at_most_one.Given as goal

-- the value so far and those that are left are all
abbrev pub invariant-loop-item : goal.invariant-loop-item
invariant-loop-item l =
    option_to_list (option_copied l.found) ++ values l.option (items (map string_bytes l.rest))
    ≡ values l.option (items (map string_bytes l.words))

abbrev pub decreases-loop-item : goal.decreases-loop-item
decreases-loop-item l = length l.rest
