use Rattle.std.proofs.Common.{◌≡◌, length, map, string_bytes}
use Rattle.std.specs.List.{list_all}
use Rattle.r2r_commands.specs.RunWords.{is_given, items}
use Rattle.r2r_commands.proofs.run_words.are_given.Given as goal

abbrev pub invariant-loop-item : goal.invariant-loop-item
invariant-loop-item l =
    list_all is_given (items (map string_bytes l.rest)) ≡ list_all is_given (items (map string_bytes l.words))

abbrev pub decreases-loop-item : goal.decreases-loop-item
decreases-loop-item l = length l.rest
