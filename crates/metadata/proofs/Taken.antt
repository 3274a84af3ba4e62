-- Names in an ordered set.
use Rattle.std.proofs.Common.{◌≡◌, ℕ, Bool, true, false, cond, List, [], ◌∷◌, map, refl, sym, ap, ◌∙◌, Bor}
use Rattle.std.specs.Prelude.{◌||◌}
use Rattle.std.specs.List.{list_any}
use Rattle.std.specs.Str.{bytes_eq}
use Rattle.std.specs.BTreeMap.{is_at}
use Rattle.std.proofs.Common.{nat_cmp}
use Rattle.std.specs.Cmp.Lexicographic.{slice_cmp}
use Rattle.std.specs.declared.cmp.Ordering.{Ordering}
use Rattle.std.proofs.lemmas.Map.Text.{is_eq-slice_cmp}
use Rattle.metadata.specs.Names.{is_taken}

abbrev pub by_name : Bor (List ℕ) → Bor (List ℕ) → Ordering
by_name q k = slice_cmp nat_cmp q.now k.now

abbrev pub names_of : List (Bor (List ℕ)) → List (List ℕ)
names_of keys = map (λ k. k.now) keys

same_test : (q k : Bor (List ℕ)) → bytes_eq q.now k.now ≡ is_at (by_name q) k
same_test q k = sym (is_eq-slice_cmp q.now k.now)

pub taken_in : (keys : List (Bor (List ℕ))) (q : Bor (List ℕ)) → is_taken (names_of keys) q.now ≡ list_any (is_at (by_name q)) keys
unfolding is_taken
taken_in [] q = refl
taken_in (k ∷ keys) q =
    ap (λ b. b || list_any (bytes_eq q.now) (names_of keys)) (same_test q k)
    ∙ ap (λ b. is_at (by_name q) k || b) (taken_in keys q)

pub none_taken : (keys : List (Bor (List ℕ))) → keys ≡ [] → (name : List ℕ) → is_taken (names_of keys) name ≡ false
unfolding is_taken
none_taken keys e name = ap (λ ks. list_any (bytes_eq name) (names_of ks)) e

or_of : (b x : Bool) → cond b true x ≡ (b || x)
or_of true x = refl
or_of false x = refl

-- one more name, where the set is as a function what it was but for a key
pub taken_more : (before after : List (Bor (List ℕ))) (key : Bor (List ℕ))
    → ((q : Bor (List ℕ)) → list_any (is_at (by_name q)) after ≡ cond (is_at (by_name key) q) true (list_any (is_at (by_name q)) before))
    → (other : List ℕ) → is_taken (names_of after) other ≡ (bytes_eq key.now other || is_taken (names_of before) other)
taken_more before after key updates other =
    let q : Bor (List ℕ) = record key { now = other } in
    let there : is_taken (names_of before) other ≡ list_any (is_at (by_name q)) before = taken_in before q in
    taken_in after q ∙ updates q ∙ or_of (is_at (by_name key) q) (list_any (is_at (by_name q)) before)
    ∙ ap (λ b. b || list_any (is_at (by_name q)) before) (sym (same_test key q))
    ∙ ap (λ b. bytes_eq key.now other || b) (sym there)
