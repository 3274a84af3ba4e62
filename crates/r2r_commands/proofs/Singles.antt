-- Values of which there is at most one.
use Rattle.std.proofs.Common.{◌≡◌, ℕ, List, [], ◌∷◌, None, refl}
use Rattle.r2r_commands.specs.RunWords.{entry_of, only, ticks_of}
use Rattle.r2r_commands.specs.ParsedWords.{Absent, One, More, single_of}

pub no_value : (given : List (List ℕ)) → Absent ≡ single_of given → given ≡ []
no_value [] e = refl
no_value (value ∷ []) e = absurd cc
no_value (value ∷ next ∷ given) e = absurd cc

pub one_value : (value : List ℕ) (given : List (List ℕ)) → One value ≡ single_of given → given ≡ value ∷ []
one_value value [] e = absurd cc
one_value value (v ∷ []) e = cc
one_value value (v ∷ next ∷ given) e = absurd cc

-- more than one is none of these
pub more_values : (given : List (List ℕ)) → More ≡ single_of given
    → (entry_of given ≡ None) × (ticks_of given ≡ None) × (only given ≡ None)
more_values [] e = absurd cc
more_values (value ∷ []) e = absurd cc
more_values (value ∷ next ∷ given) e = (refl, refl, refl)
