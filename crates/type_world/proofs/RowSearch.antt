-- Searches through the rows of one key: a search for a row, of which it is known that it has the key, may pass over all others.
use Rattle.std.proofs.Common.{◌≡◌, ℕ, zero, suc, ◌+◌, ◌-◌, ◌<◌, ◌≤◌, ◌==◌, Bool, true, false, List, [], ◌∷◌, ◌++◌, length, map, cond}
use Rattle.std.proofs.Common.{find, get_or, Option, Some, None, refl, sym, ap, ◌∙◌, subst, arith, eqb-true, unwrap_or}
use Rattle.std.specs.Option.{option_map_or}
use Rattle.std.specs.List.{range_with_len}
use Rattle.std.specs.Prelude.{IfSome}
use Rattle.std.proofs.lemmas.List.FromFn.{get_or-map-range_with_len, length-map-range_with_len}
use Rattle.type_world.specs.RowIndex.{IsIndex, key_of, row_after, row_with}

-- ---- a test that fails where another one fails

pub record Passed (p q : ℕ → Bool) (from count row : ℕ) : Type 0 where
  pub after : from ≤ row
  pub there : row < from + count
  pub passes : q row ≡ true
  pub left : find p (range_with_len from count) ≡ find p (range_with_len row (from + count - row))

abbrev Fails : (ℕ → Bool) → (ℕ → Bool) → ℕ → ℕ → Type 0
Fails p q from count = (j : ℕ) → from ≤ j → j < from + count → q j ≡ false → p j ≡ false

fails_later : (p q : ℕ → Bool) (from count : ℕ) → Fails p q from (suc count) → Fails p q (from + 1) count
fails_later p q from count h = λ j a b e. h j (omega (arith, a)) (omega (arith, b)) e

passed : (p q : ℕ → Bool) (from count row : ℕ) → find q (range_with_len from count) ≡ Some row → Fails p q from count
    → Passed p q from count row
passed p q from zero row e h = absurd (cc)
passed p q from (suc count) row e h =
    by_test (λ g. passed p q (from + 1) count row g (fails_later p q from count h)) (q from) refl e
  where
    by_test : (find q (range_with_len (from + 1) count) ≡ Some row → Passed p q (from + 1) count row) → (b : Bool) → q from ≡ b
        → cond b (Some from) (find q (range_with_len (from + 1) count)) ≡ Some row → Passed p q from (suc count) row
    by_test rest true t g =
        let same : from ≡ row = cc in
        let all : suc count ≡ from + suc count - from = omega arith in
        record {
          after = omega (arith, same);
          there = omega (arith, same);
          passes = ap q (sym same) ∙ t;
          left =
              ap (λ k. find p (range_with_len from k)) all ∙ ap (λ r. find p (range_with_len r (from + suc count - r))) same;
        }
    by_test rest false t g =
        let later = rest g in
        let after = later.after in
        let there = later.there in
        let count_is : from + 1 + count - row ≡ from + suc count - row = omega arith in
        record {
          after = omega (arith, after);
          there = omega (arith, there);
          passes = later.passes;
          left =
              ap (λ b. cond b (Some from) (find p (range_with_len (from + 1) count))) (h from (omega arith) (omega arith) t)
              ∙ later.left ∙ ap (λ k. find p (range_with_len row k)) count_is;
        }

nothing : (p q : ℕ → Bool) (from count : ℕ) → find q (range_with_len from count) ≡ None → Fails p q from count
    → find p (range_with_len from count) ≡ None
nothing p q from zero e h = refl
nothing p q from (suc count) e h =
    by_test (λ g. nothing p q (from + 1) count g (fails_later p q from count h)) (q from) refl e
  where
    by_test : (find q (range_with_len (from + 1) count) ≡ None → find p (range_with_len (from + 1) count) ≡ None) → (b : Bool)
        → q from ≡ b → cond b (Some from) (find q (range_with_len (from + 1) count)) ≡ None
        → find p (range_with_len from (suc count)) ≡ None
    by_test rest true t g = absurd (cc)
    by_test rest false t g =
        ap (λ b. cond b (Some from) (find p (range_with_len (from + 1) count))) (h from (omega arith) (omega arith) t) ∙ rest g

-- ---- a search over an index

abbrev pub rows_from : List ℕ → ℕ → List ℕ
rows_from keys row = range_with_len row (length keys + 1 - row)

abbrev pub find_at : (ℕ → Bool) → List ℕ → Option ℕ → Option ℕ
find_at p keys None = None
find_at p keys (Some row) = find p (rows_from keys row)

-- the rows that pass a test have a key
abbrev pub Keyed : (ℕ → Bool) → List ℕ → ℕ → Type 0
Keyed p keys key = (row : ℕ) → 0 < row → row ≤ length keys → (key_of keys row == key) ≡ false → p row ≡ false

pub record Here (keys : List ℕ) (key from row : ℕ) : Type 0 where
  pub after : from ≤ row
  pub there : row ≤ length keys
  pub is : key_of keys row ≡ key

pub record Reached (p : ℕ → Bool) (keys : List ℕ) (key from : ℕ) (at : Option ℕ) : Type 0 where
  pub left : find p (rows_from keys from) ≡ find_at p keys at
  pub here : IfSome at (Here keys key from)

pub reach : (p : ℕ → Bool) (keys : List ℕ) (key from : ℕ) (at : Option ℕ) → Keyed p keys key → 0 < from → from ≤ length keys + 1
    → at ≡ row_with keys key from → Reached p keys key from at
unfolding row_with
reach p keys key from None keyed some few e =
    let whole : from + (length keys + 1 - from) ≡ length keys + 1 = omega (arith, few) in
    record {
      left =
          nothing p (λ row. key_of keys row == key) from (length keys + 1 - from) (sym e)
          (λ j a b t. keyed j (omega (arith, some, a)) (omega (arith, whole, b)) t);
      here = tt;
    }
reach p keys key from (Some row) keyed some few e =
    let whole : from + (length keys + 1 - from) ≡ length keys + 1 = omega (arith, few) in
    let got = passed p (λ row. key_of keys row == key) from (length keys + 1 - from) row (sym e)
    (λ j a b t. keyed j (omega (arith, some, a)) (omega (arith, whole, b)) t) in
    let there = got.there in
    record {
      left = got.left ∙ ap (λ n. find p (range_with_len row (n - row))) whole;
      here = record { after = got.after; there = omega (arith, there, whole); is = eqb-true (key_of keys row) key got.passes };
    }

-- how many rows are left
abbrev pub rows_left : List ℕ → Option ℕ → ℕ
rows_left keys at = option_map_or (λ row. length keys + 1 - row) at 0

pub fewer : (p : ℕ → Bool) (keys : List ℕ) (key row : ℕ) (at : Option ℕ) → row ≤ length keys → Reached p keys key (row + 1) at
    → rows_left keys at < rows_left keys (Some row)
fewer p keys key row None l r = omega (arith, l)
fewer p keys key row (Some next) l r =
    let after = r.here.after in
    let there = r.here.there in
    omega (arith, l, after, there)

-- the rows before `at` fail, and it has the key
pub record Searched (p : ℕ → Bool) (keys : List ℕ) (key : ℕ) (at : Option ℕ) : Type 0 where
  pub left : find p (rows_from keys 1) ≡ find_at p keys at
  pub here : IfSome at (Here keys key 1)

pub begin : (p : ℕ → Bool) (keys : List ℕ) (key : ℕ) (at : Option ℕ) → Keyed p keys key → at ≡ row_with keys key 1 → Searched p keys key at
begin p keys key at keyed e =
    let r = reach p keys key 1 at keyed (omega arith) (omega arith) e in record { left = r.left; here = r.here }

abbrev One : (ℕ → Bool) → List ℕ → ℕ → Bool → Option ℕ
One p keys row b = cond b (Some row) (find p (rows_from keys (row + 1)))

one_row : (p : ℕ → Bool) (keys : List ℕ) (row : ℕ) → row ≤ length keys → find p (rows_from keys row) ≡ One p keys row (p row)
one_row p keys row l =
    let more : length keys + 1 - row ≡ suc (length keys + 1 - (row + 1)) = omega (arith, l) in
    ap (λ k. find p (range_with_len row k)) more

weaker : (keys : List ℕ) (key row : ℕ) (at : Option ℕ) → 0 < row → IfSome at (Here keys key (row + 1)) → IfSome at (Here keys key 1)
weaker keys key row None some h = tt
weaker keys key row (Some next) some h =
    let after = h.after in record { after = omega (arith, after); there = h.there; is = h.is }

pub next_row : (p : ℕ → Bool) (keys : List ℕ) (key row : ℕ) (at : Option ℕ) → Keyed p keys key → Searched p keys key (Some row) → p row ≡ false
    → at ≡ row_with keys (key_of keys row) (row + 1)
    → Searched p keys key at × (rows_left keys at < rows_left keys (Some row))
next_row p keys key row at keyed s fails e =
    let after = s.here.after in
    let there = s.here.there in
    let r = reach p keys key (row + 1) at keyed (omega arith) (omega (arith, there))
    (e ∙ ap (λ k. row_with keys k (row + 1)) s.here.is) in (
      record {
        left = s.left ∙ one_row p keys row s.here.there ∙ ap (One p keys row) fails ∙ r.left;
        here = weaker keys key row at (omega (arith, after)) r.here;
      },
      fewer p keys key row at s.here.there r,
    )

pub found_row : (p : ℕ → Bool) (keys : List ℕ) (key row : ℕ) → Searched p keys key (Some row) → p row ≡ true
    → find p (rows_from keys 1) ≡ Some row
found_row p keys key row s passes = s.left ∙ one_row p keys row s.here.there ∙ ap (One p keys row) passes

pub all_rows : (p : ℕ → Bool) (keys : List ℕ) (n : ℕ) → length keys ≡ n → find p (range_with_len 1 n) ≡ find p (rows_from keys 1)
all_rows p keys n e = let whole : n ≡ length keys + 1 - 1 = omega (arith, e) in ap (λ k. find p (range_with_len 1 k)) whole

-- ---- an index is made from the last row to the first

pub nothing_after : (keys : List ℕ) (key n : ℕ) → n ≡ length keys + 1 → None ≡ row_with keys key n
unfolding row_with
nothing_after keys key n e =
    let none : 0 ≡ length keys + 1 - n = omega (arith, e) in
    ap (λ k. find (λ row. key_of keys row == key) (range_with_len n k)) none

pub row_before : (keys : List ℕ) (key row : ℕ) → row ≤ length keys
    → row_with keys key row ≡ cond (key_of keys row == key) (Some row) (row_with keys key (row + 1))
unfolding row_with
row_before keys key row l = one_row (λ at. key_of keys at == key) keys row l

pub one_more : (keys : List ℕ) (row own : ℕ) (old new : ℕ → Option ℕ) → row ≤ length keys → own ≡ key_of keys row
    → ((q : ℕ) → new q ≡ cond (own == q) (Some row) (old q)) → ((q : ℕ) → old q ≡ row_with keys q (row + 1))
    → (q : ℕ) → new q ≡ row_with keys q row
one_more keys row own old new l is updates so_far q =
    updates q
    ∙ ap (λ o. cond (own == q) (Some row) o) (so_far q)
    ∙ ap (λ k. cond (k == q) (Some row) (row_with keys q (row + 1))) is
    ∙ sym (row_before keys q row l)

pub next_is : (keys : List ℕ) (row own later : ℕ) (old : Option ℕ) → own ≡ key_of keys row → old ≡ row_with keys own (row + 1)
    → later ≡ unwrap_or old 0 → later ≡ row_after keys row
next_is keys row own later old is o l =
    l ∙ as_map old ∙ ap (λ x. option_map_or (λ next. next) x 0) (o ∙ ap (λ k. row_with keys k (row + 1)) is)
  where
    as_map : (x : Option ℕ) → unwrap_or x 0 ≡ option_map_or (λ next. next) x 0
    as_map None = refl
    as_map (Some n) = refl

-- ---- what an index answers

pub nexts_long : (keys next : List ℕ) (first : ℕ → Option ℕ) → IsIndex keys first next → length next ≡ length keys
nexts_long keys next first index =
    ap length index.nexts ∙ length-map-range_with_len (λ after. row_after keys (length keys - after)) 0 (length keys)

pub next_at : (keys next : List ℕ) (first : ℕ → Option ℕ) (row at d : ℕ) → IsIndex keys first next → 0 < row → row ≤ length keys
    → at ≡ length keys - row → get_or next at d ≡ row_after keys row
next_at keys next first row at d index some there e =
    let back : length keys - at ≡ row = omega (arith, e, there) in
    let below : at < length keys = omega (arith, e, some, there) in
    ap (λ xs. get_or xs at d) index.nexts
    ∙ get_or-map-range_with_len (λ after. row_after keys (length keys - after)) 0 (length keys) at at d below (omega arith)
    ∙ ap (row_after keys) back

from_row : (keys : List ℕ) (key row next : ℕ) → row ≤ length keys → row_with keys key (row + 1) ≡ Some next → row + 1 ≤ next
unfolding row_with
from_row keys key row next there e =
    (passed (λ at. key_of keys at == key) (λ at. key_of keys at == key) (row + 1) (length keys + 1 - (row + 1)) next e (λ j a b t. t)).after

pub is_last : (keys : List ℕ) (key row later : ℕ) → row ≤ length keys
    → later ≡ option_map_or (λ next. next) (row_with keys key (row + 1)) 0 → later ≡ 0 → None ≡ row_with keys key (row + 1)
is_last keys key row later there e zero_ = by_next (row_with keys key (row + 1)) refl e
  where
    by_next : (o : Option ℕ) → row_with keys key (row + 1) ≡ o → later ≡ option_map_or (λ next. next) o 0 → None ≡ o
    by_next None q l = refl
    by_next (Some next) q l = let after = from_row keys key row next there q in absurd (omega (arith, after, l, zero_))

pub is_later : (keys : List ℕ) (key row later : ℕ)
    → later ≡ option_map_or (λ next. next) (row_with keys key (row + 1)) 0 → (later ≡ 0 → ⊥) → Some later ≡ row_with keys key (row + 1)
is_later keys key row later e some = by_next (row_with keys key (row + 1)) e
  where
    by_next : (o : Option ℕ) → later ≡ option_map_or (λ next. next) o 0 → Some later ≡ o
    by_next None l = absurd (some l)
    by_next (Some next) l = ap Some l
