-- The words of the command line.
use Rattle.std.specs.Prelude.{ℕ, ◌==◌, List, [], ◌∷◌, Bool, false, not}

-- a positional word is not empty and doesn't begin with a dash
abbrev pub is_positional : List ℕ → Bool
is_positional [] = false
is_positional (b ∷ word) = not (b == 0x2D)
