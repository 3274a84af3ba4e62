use Rattle.std.proofs.Common.{◌≡◌, ◌∷◌, ◌++◌, codes, length, map, string_bytes}
use Rattle.r2r_commands.specs.RunWords.{items, values}
use Rattle.r2r_commands.proofs.run_words.RunWords.inputs.Given as goal

-- the names so far and those that are left are all
abbrev pub invariant-loop-item : goal.invariant-loop-item
invariant-loop-item l =
    map (λ name. name.now) l.names.items ++ values (codes "--ref") (items (map string_bytes l.rest)) ≡ l.self.image ∷ l.self.refs

abbrev pub decreases-loop-item : goal.decreases-loop-item
decreases-loop-item l = length l.rest
