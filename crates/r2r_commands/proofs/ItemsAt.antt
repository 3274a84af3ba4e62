-- The values of an option, item by item.
use Rattle.std.proofs.Common.{◌≡◌, ℕ, List, ◌∷◌, true, false, refl}
use Rattle.std.specs.Str.{bytes_eq}
use Rattle.r2r_commands.specs.RunWords.{Item, values}

pub values_one : (option : List ℕ) (all others : List Item) (item : Item) → all ≡ item ∷ others → bytes_eq item.option option ≡ true
    → values option all ≡ item.value ∷ values option others
values_one option all others item e is = rw (e, is) refl

pub values_other : (option : List ℕ) (all others : List Item) (item : Item) → all ≡ item ∷ others
    → bytes_eq item.option option ≡ false → values option all ≡ values option others
values_other option all others item e is = rw (e, is) refl
