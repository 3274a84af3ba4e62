-- There are at most 16 workers.
use Rattle.std.proofs.Common.{◌≡◌, ℕ, suc, ◌≤◌, ℤ, List, [], ◌∷◌, length, map, Vec, vec_items, Bool, true, false}
use Rattle.std.proofs.Common.{Option, Some, None, IsSome, option_and_then, option_map, Result, Ok, Err, IfOk}
use Rattle.std.proofs.Common.{refl, sym, ap, ◌∙◌, arith, leb-true}
use Rattle.std.proofs.lemmas.List.{length-map}
use Rattle.std.specs.Global.{Global}
use Rattle.std.specs.Prelude.{nat_le, if◌then◌else◌}
use Rattle.rtr_bytes.specs.declared.fault.NoMemory.{NoMemory}
use Rattle.r2r_commands.specs.RunWords.{arguments_of, each_of, most_workers, workers_of}

-- as many are made as are given
one_each : {Y : Type 0} (first : Option Y) (rest : Option (List Y)) (ys : List Y) (n : ℕ)
    → option_and_then (λ y. option_map (λ others. y ∷ others) rest) first ≡ Some ys
    → ((others : List Y) → rest ≡ Some others → length others ≡ n) → length ys ≡ suc n
one_each None rest ys n e h = absurd cc
one_each (Some y) None ys n e h = absurd cc
one_each (Some y) (Some others) ys n e h =
    let is : y ∷ others ≡ ys = cc in
    ap length (sym is) ∙ ap suc (h others refl)

as_many : {X Y : Type 0} (h : X → Option Y) (xs : List X) (ys : List Y) → each_of h xs ≡ Some ys → length ys ≡ length xs
as_many h [] ys e = let none : [] ≡ ys = cc in ap length (sym none)
as_many h (x ∷ xs) ys e = one_each (h x) (each_of h xs) ys (length xs) e (λ others is. as_many h xs others is)

pub few_given : (given : List (List ℕ)) (found : List (List ℤ)) → IsSome (workers_of given) → each_of arguments_of given ≡ Some found
    → length found ≤ 16
few_given [] found some e = let none : [] ≡ found = cc in omega (arith, ap length (sym none))
few_given (value ∷ given) found some e =
    let same = as_many arguments_of (value ∷ given) found e in
    by_test (nat_le (length (value ∷ given)) most_workers) (each_of arguments_of (value ∷ given)) refl some same
  where
    by_test : (few : Bool) (all : Option (List (List ℤ))) → nat_le (length (value ∷ given)) most_workers ≡ few
        → IsSome (if few then all else None) → length found ≡ length (value ∷ given) → length found ≤ 16
    by_test true all e some same = let most = leb-true (length (value ∷ given)) most_workers e in omega (arith, most, same)
    by_test false all e some same = absurd cc

-- one worker
pub one_is_few : (result : Result (Vec (Vec ℤ Global) Global) NoMemory) → IfOk result (λ workers. map vec_items workers.items ≡ [] ∷ [])
    → IfOk result (λ workers. length workers.items ≤ 16)
one_is_few (Ok workers) e =
    let one : length (map vec_items workers.items) ≡ 1 = ap length e in
    omega (arith, one, length-map workers.items vec_items)
one_is_few (Err refused) e = tt
