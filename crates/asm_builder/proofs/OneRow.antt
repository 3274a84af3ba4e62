-- Tables with one row more.
use Rattle.std.proofs.Common.{◌≡◌, ◌≤◌, ◌<◌, ◌+◌, ◌/◌, ◌%◌, ◌^◌, ℕ, zero, suc, Bool, true, List, [], ◌∷◌, ◌++◌, length}
use Rattle.std.proofs.Common.{get_or, refl, ap, arith, length-append}
use Rattle.std.specs.Prelude.{is_some, nat_le, nat_lt}
use Rattle.std.specs.List.{list_all}
use Rattle.std.proofs.lemmas.Bool.{and_from, and_parts, leb-true, le-leb, lt-ltb, ltb-true}
use Rattle.std.proofs.lemmas.List.{length_push}
use Rattle.asm_builder.specs.Cells.{Cell, Number, Text, Blob, Coded}
use Rattle.asm_builder.specs.Content.{Heaps, all_after, blob_bytes, heaps_after, heaps_after_all, no_heaps, row_after}
use Rattle.asm_builder.specs.Content.{table_after, tag_of, text_bytes}
use Rattle.asm_builder.specs.Sound.{are_few, are_sound_rows, is_row, is_sound_cell, rows_asked}
use Rattle.asm_builder.specs.Tested.{one_more}

abbrev pub add_row : ℕ → List Cell → List (List (List Cell)) → List (List (List Cell))
add_row n row [] = []
add_row zero row (t ∷ ts) = (t ++ row ∷ []) ∷ ts
add_row (suc n) row (t ∷ ts) = t ∷ add_row n row ts

-- ---- counts

pub rows-add_row : (n : ℕ) (row : List Cell) (ts : List (List (List Cell))) → rows_asked (add_row n row ts) ≡ one_more n (rows_asked ts)
rows-add_row n row [] = refl
rows-add_row zero row (t ∷ ts) = ap (λ (c : ℕ). c ∷ rows_asked ts) (length_push t row)
rows-add_row (suc n) row (t ∷ ts) = ap (λ (l : List ℕ). length t ∷ l) (rows-add_row n row ts)

pub length-add_row : (n : ℕ) (row : List Cell) (ts : List (List (List Cell))) → length (add_row n row ts) ≡ length ts
length-add_row n row [] = refl
length-add_row zero row (t ∷ ts) = refl
length-add_row (suc n) row (t ∷ ts) = ap (λ (k : ℕ). suc k) (length-add_row n row ts)

pub more_le : (n m : ℕ) (cs : List ℕ) → get_or cs m 0 ≤ get_or (one_more n cs) m 0
more_le n m [] = omega arith
more_le zero zero (c ∷ cs) = omega arith
more_le zero (suc m) (c ∷ cs) = omega arith
more_le (suc n) zero (c ∷ cs) = omega arith
more_le (suc n) (suc m) (c ∷ cs) = more_le n m cs

pub more_same : (n : ℕ) (cs : List ℕ) → n < length cs → get_or (one_more n cs) n 0 ≡ get_or cs n 0 + 1
more_same n [] below = absurd (omega arith)
more_same zero (c ∷ cs) below = refl
more_same (suc n) (c ∷ cs) below = more_same n cs (omega arith)

pub more_other : (n m : ℕ) (cs : List ℕ) → (m ≡ n → ⊥) → get_or (one_more n cs) m 0 ≡ get_or cs m 0
more_other n m [] other = refl
more_other zero zero (c ∷ cs) other = absurd (other refl)
more_other zero (suc m) (c ∷ cs) other = refl
more_other (suc n) zero (c ∷ cs) other = refl
more_other (suc n) (suc m) (c ∷ cs) other = more_other n m cs (λ e. other (ap (λ (k : ℕ). suc k) e))

-- ---- what holds of all rows

pub all_mono : {X : Type 0} (p q : X → Bool) → ((x : X) → p x ≡ true → q x ≡ true) → (xs : List X) → list_all p xs ≡ true
    → list_all q xs ≡ true
all_mono p q more [] ok = refl
all_mono p q more (x ∷ xs) ok =
    let parts = and_parts (p x) (list_all p xs) ok in and_from (q x) (list_all q xs) (more x parts.0) (all_mono p q more xs parts.1)

pub all_push : {X : Type 0} (p : X → Bool) (xs : List X) (x : X) → list_all p xs ≡ true → p x ≡ true → list_all p (xs ++ x ∷ []) ≡ true
all_push p [] x all one = and_from (p x) true one refl
all_push p (y ∷ xs) x all one =
    let parts = and_parts (p y) (list_all p xs) all in
    and_from (p y) (list_all p (xs ++ x ∷ [])) parts.0 (all_push p xs x parts.1 one)

pub all_push_back : {X : Type 0} (p : X → Bool) (xs : List X) (x : X) → list_all p (xs ++ x ∷ []) ≡ true → p x ≡ true
all_push_back p [] x all = (and_parts (p x) true all).0
all_push_back p (y ∷ xs) x all = all_push_back p xs x (and_parts (p y) (list_all p (xs ++ x ∷ [])) all).1

module _ (p : List Cell → Bool) (row : List Cell) where
  pub all_add : (n : ℕ) (ts : List (List (List Cell))) → list_all (list_all p) ts ≡ true → p row ≡ true
      → list_all (list_all p) (add_row n row ts) ≡ true
  all_add n [] all one = refl
  all_add zero (t ∷ ts) all one =
      let parts = and_parts (list_all p t) (list_all (list_all p) ts) all in
      and_from (list_all p (t ++ row ∷ [])) (list_all (list_all p) ts) (all_push p t row parts.0 one) parts.1
  all_add (suc n) (t ∷ ts) all one =
      let parts = and_parts (list_all p t) (list_all (list_all p) ts) all in
      and_from (list_all p t) (list_all (list_all p) (add_row n row ts)) parts.0 (all_add n ts parts.1 one)

  pub all_add_back : (n : ℕ) (ts : List (List (List Cell))) → n < length ts → list_all (list_all p) (add_row n row ts) ≡ true
      → p row ≡ true
  all_add_back n [] below all = absurd (omega arith)
  all_add_back zero (t ∷ ts) below all =
      all_push_back p t row (and_parts (list_all p (t ++ row ∷ [])) (list_all (list_all p) ts) all).0
  all_add_back (suc n) (t ∷ ts) below all =
      all_add_back n ts (omega arith) (and_parts (list_all p t) (list_all (list_all p) (add_row n row ts)) all).1

  pub all_add_front : (n : ℕ) (ts : List (List (List Cell))) → list_all (list_all p) (add_row n row ts) ≡ true
      → list_all (list_all p) ts ≡ true
  all_add_front n [] all = refl
  all_add_front zero (t ∷ ts) all =
      let parts = and_parts (list_all p (t ++ row ∷ [])) (list_all (list_all p) ts) all in
      and_from (list_all p t) (list_all (list_all p) ts) (front t parts.0) parts.1 where
        front : (t : List (List Cell)) → list_all p (t ++ row ∷ []) ≡ true → list_all p t ≡ true
        front [] ok = refl
        front (x ∷ t) ok =
            let parts = and_parts (p x) (list_all p (t ++ row ∷ [])) ok in and_from (p x) (list_all p t) parts.0 (front t parts.1)
  all_add_front (suc n) (t ∷ ts) all =
      let parts = and_parts (list_all p t) (list_all (list_all p) (add_row n row ts)) all in
      and_from (list_all p t) (list_all (list_all p) ts) parts.0 (all_add_front n ts parts.1)

-- ---- a token that names a row names it where there are more

module _ (few many : List ℕ) (more : (m : ℕ) → get_or few m 0 ≤ get_or many m 0) where
  row_mono : (token : ℕ) → is_row few token ≡ true → is_row many token ≡ true
  row_mono token ok =
      let parts = and_parts (nat_lt 0 (token % 2 ^ 24)) (nat_le (token % 2 ^ 24) (get_or few (token / 2 ^ 24) 0)) ok in
      let here = leb-true (token % 2 ^ 24) (get_or few (token / 2 ^ 24) 0) parts.1 in
      let le = more (token / 2 ^ 24) in
      and_from (nat_lt 0 (token % 2 ^ 24)) (nat_le (token % 2 ^ 24) (get_or many (token / 2 ^ 24) 0)) parts.0
      (le-leb (token % 2 ^ 24) (get_or many (token / 2 ^ 24) 0) (omega (arith, here, le)))

  cell_mono : (cell : Cell) → is_sound_cell few cell ≡ true → is_sound_cell many cell ≡ true
  cell_mono (Number n) ok = ok
  cell_mono (Text text) ok = ok
  cell_mono (Blob blob) ok = ok
  cell_mono (Coded kind token) ok =
      let parts = and_parts (is_some (tag_of kind token)) (is_row few token) ok in
      and_from (is_some (tag_of kind token)) (is_row many token) parts.0 (row_mono token parts.1)

  pub sound_mono : (ts : List (List (List Cell))) → list_all (are_sound_rows few) ts ≡ true → list_all (are_sound_rows many) ts ≡ true
  sound_mono ts ok =
      all_mono (are_sound_rows few) (are_sound_rows many) (λ table t.
      all_mono (list_all (is_sound_cell few)) (list_all (is_sound_cell many)) (λ row r.
      all_mono (is_sound_cell few) (is_sound_cell many) cell_mono row r) table t) ts ok

-- ---- few rows

pub few_add : (n : ℕ) (row : List Cell) (ts : List (List (List Cell))) → are_few ts ≡ true → length (get_or ts n []) + 1 < 2 ^ 24
    → are_few (add_row n row ts) ≡ true
few_add n row [] all one = refl
few_add zero row (t ∷ ts) all one =
    let parts = and_parts (nat_lt (length t) (2 ^ 24)) (are_few ts) all in
    let size = length_push t row in
    and_from (nat_lt (length (t ++ row ∷ [])) (2 ^ 24)) (are_few ts) (lt-ltb (length (t ++ row ∷ [])) (2 ^ 24) (omega (arith, one, size)))
    parts.1
few_add (suc n) row (t ∷ ts) all one =
    let parts = and_parts (nat_lt (length t) (2 ^ 24)) (are_few ts) all in
    and_from (nat_lt (length t) (2 ^ 24)) (are_few (add_row n row ts)) parts.0 (few_add n row ts parts.1 one)

pub few_add_back : (n : ℕ) (row : List Cell) (ts : List (List (List Cell))) → n < length ts → are_few (add_row n row ts) ≡ true
    → length (get_or ts n []) + 1 < 2 ^ 24
few_add_back n row [] below all = absurd (omega arith)
few_add_back zero row (t ∷ ts) below all =
    let parts = and_parts (nat_lt (length (t ++ row ∷ [])) (2 ^ 24)) (are_few ts) all in
    let size = length_push t row in
    let few = ltb-true (length (t ++ row ∷ [])) (2 ^ 24) parts.0 in
    omega (arith, few, size)
few_add_back (suc n) row (t ∷ ts) below all =
    few_add_back n row ts (omega arith) (and_parts (nat_lt (length t) (2 ^ 24)) (are_few (add_row n row ts)) all).1

pub few_add_front : (n : ℕ) (row : List Cell) (ts : List (List (List Cell))) → are_few (add_row n row ts) ≡ true → are_few ts ≡ true
few_add_front n row [] all = refl
few_add_front zero row (t ∷ ts) all =
    let parts = and_parts (nat_lt (length (t ++ row ∷ [])) (2 ^ 24)) (are_few ts) all in
    let size = length_push t row in
    let few = ltb-true (length (t ++ row ∷ [])) (2 ^ 24) parts.0 in
    and_from (nat_lt (length t) (2 ^ 24)) (are_few ts) (lt-ltb (length t) (2 ^ 24) (omega (arith, few, size))) parts.1
few_add_front (suc n) row (t ∷ ts) all =
    let parts = and_parts (nat_lt (length t) (2 ^ 24)) (are_few (add_row n row ts)) all in
    and_from (nat_lt (length t) (2 ^ 24)) (are_few ts) parts.0 (few_add_front n row ts parts.1)

-- another table is as before
pub other_table : (n m : ℕ) (row : List Cell) (ts : List (List (List Cell))) → (m ≡ n → ⊥)
    → get_or (add_row n row ts) m [] ≡ get_or ts m []
other_table n m row [] other = refl
other_table zero zero row (t ∷ ts) other = absurd (other refl)
other_table zero (suc m) row (t ∷ ts) other = refl
other_table (suc n) zero row (t ∷ ts) other = refl
other_table (suc n) (suc m) row (t ∷ ts) other = other_table n m row ts (λ e. other (ap (λ (k : ℕ). suc k) e))

-- ---- heaps

abbrev pub text_size : Cell → ℕ
text_size (Text text) = length (text_bytes text)
text_size cell = 0

abbrev pub blob_size : Cell → ℕ
blob_size (Blob blob) = length (blob_bytes blob)
blob_size cell = 0

abbrev pub total : {X : Type 0} → (X → ℕ) → List X → ℕ
total size [] = 0
total size (x ∷ xs) = size x + total size xs

sums : {X : Type 0} (after : Heaps → X → Heaps) (of : Heaps → ℕ) (size : X → ℕ)
    → ((heaps : Heaps) (x : X) → of (after heaps x) ≡ of heaps + size x) → (heaps : Heaps) (xs : List X)
    → of (heaps_after_all after heaps xs) ≡ of heaps + total size xs
sums after of size one heaps [] = omega arith
sums after of size one heaps (x ∷ xs) =
    let here = one heaps x in let rest = sums after of size one (after heaps x) xs in omega (arith, here, rest)

total_push : {X : Type 0} (size : X → ℕ) (xs : List X) (x : X) → total size (xs ++ x ∷ []) ≡ total size xs + size x
total_push size [] x = omega arith
total_push size (y ∷ xs) x = let rest = total_push size xs x in omega (arith, rest)

pub total_add : (size : List Cell → ℕ) (n : ℕ) (row : List Cell) (ts : List (List (List Cell))) → n < length ts
    → total (total size) (add_row n row ts) ≡ total (total size) ts + size row
total_add size n row [] below = absurd (omega arith)
total_add size zero row (t ∷ ts) below = let here = total_push size t row in omega (arith, here)
total_add size (suc n) row (t ∷ ts) below = let rest = total_add size n row ts (omega arith) in omega (arith, rest)

strings_cell : (heaps : Heaps) (cell : Cell) → length (heaps_after heaps cell).strings ≡ length heaps.strings + text_size cell
strings_cell heaps (Number n) = omega arith
strings_cell heaps (Text text) = length-append heaps.strings (text_bytes text)
strings_cell heaps (Blob blob) = omega arith
strings_cell heaps (Coded kind token) = omega arith

blobs_cell : (heaps : Heaps) (cell : Cell) → length (heaps_after heaps cell).blobs ≡ length heaps.blobs + blob_size cell
blobs_cell heaps (Number n) = omega arith
blobs_cell heaps (Text text) = omega arith
blobs_cell heaps (Blob blob) = length-append heaps.blobs (blob_bytes blob)
blobs_cell heaps (Coded kind token) = omega arith

abbrev strings_of : Heaps → ℕ
strings_of heaps = length heaps.strings

abbrev blobs_of : Heaps → ℕ
blobs_of heaps = length heaps.blobs

pub strings_sum : (ts : List (List (List Cell)))
    → length (all_after no_heaps ts).strings ≡ 1 + total (total (total text_size)) ts
unfolding all_after
strings_sum ts =
    sums table_after strings_of (total (total text_size)) (sums row_after strings_of (total text_size)
    (sums heaps_after strings_of text_size strings_cell)) no_heaps ts

pub blobs_sum : (ts : List (List (List Cell)))
    → length (all_after no_heaps ts).blobs ≡ 1 + total (total (total blob_size)) ts
unfolding all_after
blobs_sum ts =
    sums table_after blobs_of (total (total blob_size)) (sums row_after blobs_of (total blob_size)
    (sums heaps_after blobs_of blob_size blobs_cell)) no_heaps ts
