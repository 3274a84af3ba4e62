-- What is made of each item of a list, one item after the other.
use Rattle.std.proofs.Common.{◌≡◌, ℕ, ◌<◌, ◌≤◌, List, [], ◌∷◌, ◌++◌, length, Option, Some, None, IsSome, is_some}
use Rattle.std.proofs.Common.{option_map, option_and_then, Bool, true, false}
use Rattle.std.proofs.Common.{refl, sym, ap, subst, ◌∙◌, arith, append_assoc, le-leb, leb-true, map, Vec, vec_items, ℤ}
use Rattle.std.specs.Global.{Global}
use Rattle.std.specs.Prelude.{nat_le, unwrap_or, if◌then◌else◌}
use Rattle.r2r_commands.specs.RunWords.{arguments_of, each_of, most_workers, workers_of}

-- one more, and what is made of the others
more_of : {Y : Type 0} (so_far : List Y) (y : Y) (rest : Option (List Y))
    → option_map (λ more. so_far ++ more) (option_map (λ ys. y ∷ ys) rest) ≡ option_map (λ more. (so_far ++ y ∷ []) ++ more) rest
more_of so_far y None = refl
more_of so_far y (Some ys) = ap Some (sym (append_assoc so_far (y ∷ []) ys))

pub grown : {X Y : Type 0} (h : X → Option Y) (so_far new : List Y) (all : Option (List Y)) (left others : List X) (x : X) (y : Y)
    → all ≡ option_map (λ more. so_far ++ more) (each_of h left) → left ≡ x ∷ others → h x ≡ Some y → new ≡ so_far ++ y ∷ []
    → all ≡ option_map (λ more. new ++ more) (each_of h others)
grown h so_far new all left others x y is first made pushed =
    is ∙ rw (first, made, pushed) (more_of so_far y (each_of h others))

some_rest : {Y : Type 0} (first : Option Y) (rest : Option (List Y))
    → IsSome (option_and_then (λ y. option_map (λ ys. y ∷ ys) rest) first) → IsSome rest
some_rest None rest h = absurd cc
some_rest (Some y) None h = h
some_rest (Some y) (Some ys) h = refl

pub valid_rest : {X Y : Type 0} (h : X → Option Y) (left others : List X) (x : X) → left ≡ x ∷ others → IsSome (each_of h left)
    → IsSome (each_of h others)
valid_rest h left others x first some =
    some_rest (h x) (each_of h others) (subst (λ (xs : List _). IsSome (each_of h xs)) first some)

-- ---- workers

pub too_many : (given : List (List ℕ)) → most_workers < length given → is_some (workers_of given) ≡ false
too_many [] h = absurd (omega arith)
too_many (value ∷ given) h = by_test (nat_le (length (value ∷ given)) most_workers) (each_of arguments_of (value ∷ given)) refl
  where
    by_test : (few : Bool) (all : Option (List (List ℤ))) → nat_le (length (value ∷ given)) most_workers ≡ few
        → is_some (if few then all else None) ≡ false
    by_test true all e = let most = leb-true (length (value ∷ given)) most_workers e in absurd (omega (arith, most, h))
    by_test false all e = refl

none_valid : (given : List (List ℕ)) → is_some (each_of arguments_of given) ≡ false → is_some (workers_of given) ≡ false
none_valid [] e = absurd cc
none_valid (value ∷ given) e = by_test (nat_le (length (value ∷ given)) most_workers) (each_of arguments_of (value ∷ given)) e
  where
    by_test : (few : Bool) (all : Option (List (List ℤ))) → is_some all ≡ false → is_some (if few then all else None) ≡ false
    by_test true all e = e
    by_test false all e = refl

with_first : {Y : Type 0} (first : Option Y) (rest : Option (List Y)) → is_some first ≡ true
    → is_some (option_and_then (λ y. option_map (λ ys. y ∷ ys) rest) first) ≡ is_some rest
with_first None rest e = absurd cc
with_first (Some y) None e = refl
with_first (Some y) (Some ys) e = refl

without_first : {Y : Type 0} (first : Option Y) (rest : Option (List Y)) → is_some first ≡ false
    → is_some (option_and_then (λ y. option_map (λ ys. y ∷ ys) rest) first) ≡ false
without_first None rest e = refl
without_first (Some y) rest e = absurd cc

-- the arguments of one more worker
pub valid_more : (left others : List (List ℕ)) (value : List ℕ) → left ≡ value ∷ others → is_some (arguments_of value) ≡ true
    → is_some (each_of arguments_of left) ≡ is_some (each_of arguments_of others)
valid_more left others value first valid = rw first (with_first (arguments_of value) (each_of arguments_of others) valid)

pub not_valid : (given left others : List (List ℕ)) (value : List ℕ) → left ≡ value ∷ others → is_some (arguments_of value) ≡ false
    → is_some (each_of arguments_of left) ≡ is_some (each_of arguments_of given) → is_some (workers_of given) ≡ false
not_valid given left others value first bad same =
    none_valid given (sym same ∙ rw first (without_first (arguments_of value) (each_of arguments_of others) bad))

pub enough : (given : List (List ℕ)) → length given ≤ most_workers → is_some (each_of arguments_of given) ≡ true
    → is_some (workers_of given) ≡ true
enough [] h valid = refl
enough (value ∷ given) h valid = rw (le-leb (length (value ∷ given)) most_workers h) valid

pub given_some : (given : List (List ℕ)) → IsSome (workers_of given) → IsSome (each_of arguments_of given)
given_some [] h = refl
given_some (value ∷ given) h = by_test (nat_le (length (value ∷ given)) most_workers) (each_of arguments_of (value ∷ given)) h
  where
    by_test : (few : Bool) (all : Option (List (List ℤ))) → IsSome (if few then all else None) → IsSome all
    by_test true all h = h
    by_test false all h = absurd cc

pub workers_found : (given : List (List ℕ)) (found : List (List ℤ)) → each_of arguments_of given ≡ Some found
    → IsSome (workers_of given) → 0 < length found → unwrap_or (workers_of given) [] ≡ found
workers_found [] found is some h =
    let none : found ≡ [] = cc in
    absurd (omega (arith, h, ap length none))
workers_found (value ∷ given) found is some h =
    by_test (nat_le (length (value ∷ given)) most_workers) (each_of arguments_of (value ∷ given)) is some
  where
    by_test : (few : Bool) (all : Option (List (List ℤ))) → all ≡ Some found → IsSome (if few then all else None)
        → unwrap_or (if few then all else None) [] ≡ found
    by_test true all e h = rw e refl
    by_test false all e h = absurd cc

not_empty : (first : Option (List ℤ)) (rest : Option (List (List ℤ)))
    → option_and_then (λ y. option_map (λ ys. y ∷ ys) rest) first ≡ Some [] → ⊥
not_empty None rest e = cc
not_empty (Some y) None e = cc
not_empty (Some y) (Some ys) e = cc

pub workers_none : (given : List (List ℕ)) → each_of arguments_of given ≡ Some [] → unwrap_or (workers_of given) [] ≡ [] ∷ []
workers_none [] e = refl
workers_none (value ∷ given) e = absurd (not_empty (arguments_of value) (each_of arguments_of given) e)

-- an empty list of workers
pub no_items : (workers : List (Vec ℤ Global)) → length workers ≡ 0 → map vec_items workers ≡ []
no_items [] e = refl
no_items (worker ∷ workers) e = absurd (omega arith)
