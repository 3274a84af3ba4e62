-- What is known of files that were read.
use Rattle.std.proofs.Common.{◌≡◌, ℕ, zero, suc, ◌≤◌, ◌^◌, List, [], ◌∷◌, length, map, Vec, vec_items, All, Option, refl, ap, arith}
use Rattle.std.specs.Global.{Global}
use Rattle.rtr_outside.specs.Files.{Contents}
use Rattle.r2r_commands.specs.Reading.{AreRead}

-- there are as many as names
pub as_many : (contents : Option Contents) (names : List (List ℕ)) (files : List (Vec ℕ Global))
    → AreRead contents names (map vec_items files) → length names ≡ length files
as_many contents [] [] read = refl
as_many contents [] (file ∷ files) read = absurd read
as_many contents (name ∷ names) [] read = absurd read
as_many contents (name ∷ names) (file ∷ files) read = ap suc (as_many contents names files read.1)

-- each is within the limit
pub all_small : (contents : Option Contents) (names : List (List ℕ)) (files : List (Vec ℕ Global))
    → AreRead contents names (map vec_items files) → All (λ (file : Vec ℕ Global). length file.items ≤ 2 ^ 31) files
all_small contents names [] read k d h = absurd (omega arith)
all_small contents [] (file ∷ files) read k d h = absurd read
all_small contents (name ∷ names) (file ∷ files) read zero d h = omega (arith, read.0.within)
all_small contents (name ∷ names) (file ∷ files) read (suc k) d h = all_small contents names files read.1 k d (omega arith)
