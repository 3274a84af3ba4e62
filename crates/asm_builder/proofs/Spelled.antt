-- Spelling one thing more at the end of a list: the steps of the loops over rows and tables.
use Rattle.std.proofs.Common.{◌≡◌, ◌+◌, ◌<◌, ℕ, zero, suc, refl, sym, ap, ◌∙◌, subst, List, [], ◌∷◌, ◌++◌, length, map}
use Rattle.std.proofs.Common.{take, get_or, Some, arith, append_assoc}
use Rattle.std.specs.Prelude.{slice_get}
use Rattle.std.proofs.lemmas.List.{append-nil, map_push, take_more}
use Rattle.std.proofs.lemmas.Option.{slice_get_read, slice_get-map}
use Rattle.std.specs.Option.{option_map}
use Rattle.asm_builder.specs.Cells.{Cell, body_size, method_cells, method_rows}
use Rattle.asm_builder.specs.Content.{Heaps, bodies_from, body_bytes, heaps_after_all, locals_after, locals_token}
use Rattle.asm_builder.specs.Content.{row_after, row_numbers, spelled_all, table_after, table_numbers}
use Rattle.asm_builder.specs.Room.{AreShort}
use Rattle.asm_builder.specs.declared.asked.Method.{Method}
use Rattle.asm_builder.proofs.BodiesBack.{locals_before, rva_before}
use Rattle.asm_builder.proofs.Growth.{short_row}

module _ {X Y : Type 0} (after : Heaps → X → Heaps) (spelled : Heaps → X → Y) where
  pub after_more : (heaps : Heaps) (xs : List X) (x : X)
      → heaps_after_all after heaps (xs ++ x ∷ []) ≡ after (heaps_after_all after heaps xs) x
  after_more heaps [] x = refl
  after_more heaps (y ∷ xs) x = after_more (after heaps y) xs x

  pub spelled_more : (heaps : Heaps) (xs : List X) (x : X)
      → spelled_all after spelled heaps (xs ++ x ∷ [])
      ≡ spelled_all after spelled heaps xs ++ spelled (heaps_after_all after heaps xs) x ∷ []
  spelled_more heaps [] x = refl
  spelled_more heaps (y ∷ xs) x = ap (λ (l : List Y). spelled heaps y ∷ l) (spelled_more (after heaps y) xs x)

  -- several more
  pub after_append : (heaps : Heaps) (xs ys : List X)
      → heaps_after_all after heaps (xs ++ ys) ≡ heaps_after_all after (heaps_after_all after heaps xs) ys
  after_append heaps [] ys = refl
  after_append heaps (x ∷ xs) ys = after_append (after heaps x) xs ys

  pub spelled_append : (heaps : Heaps) (xs ys : List X)
      → spelled_all after spelled heaps (xs ++ ys)
      ≡ spelled_all after spelled heaps xs ++ spelled_all after spelled (heaps_after_all after heaps xs) ys
  spelled_append heaps [] ys = refl
  spelled_append heaps (x ∷ xs) ys = ap (λ (l : List Y). spelled heaps x ∷ l) (spelled_append (after heaps x) xs ys)

-- the same for methods, whose rows and bodies have places
method_next : (at : ℕ) (ms : List Method) (i : ℕ) (m : Method) → slice_get ms i ≡ Some m
    → method_rows at (take (suc i) ms) ≡ method_rows at (take i ms) ++ method_cells (rva_before at ms i) m ∷ []
method_next at [] i m e = absurd (let h : ⊥ = cc in h)
method_next at (x ∷ ms) zero m e = let same : x ≡ m = cc in ap (λ (y : Method). method_cells at y ∷ []) same
method_next at (x ∷ ms) (suc i) m e = ap (λ (l : List (List Cell)). method_cells at x ∷ l) (method_next (at + body_size x) ms i m e)

pub method_more : (at : ℕ) (ms : List Method) (i : ℕ) (m : Method) → slice_get ms i ≡ Some m
    → method_rows at (take (i + 1) ms) ≡ method_rows at (take i ms) ++ method_cells (rva_before at ms i) m ∷ []
method_more at ms i m e =
    let next : i + 1 ≡ suc i = omega arith in ap (λ k. method_rows at (take k ms)) next ∙ method_next at ms i m e

bodies_next : (n : ℕ) (ms : List Method) (i : ℕ) (m : Method) → slice_get ms i ≡ Some m
    → bodies_from n (take (suc i) ms) ≡ bodies_from n (take i ms) ++ body_bytes (locals_token (locals_before n ms i) m) m
unfolding bodies_from
bodies_next n [] i m e = absurd (let h : ⊥ = cc in h)
bodies_next n (x ∷ ms) zero m e =
    let same : x ≡ m = cc in
    append-nil (body_bytes (locals_token n x) x) ∙ ap (λ (y : Method). body_bytes (locals_token n y) y) same
bodies_next n (x ∷ ms) (suc i) m e =
    let first = body_bytes (locals_token n x) x in
    let before = locals_after n x in
    ap (λ (l : List ℕ). first ++ l) (bodies_next before ms i m e)
    ∙ sym (append_assoc first (bodies_from before (take i ms)) (body_bytes (locals_token (locals_before before ms i) m) m))

pub bodies_more : (n : ℕ) (ms : List Method) (i : ℕ) (m : Method) → slice_get ms i ≡ Some m
    → bodies_from n (take (i + 1) ms) ≡ bodies_from n (take i ms) ++ body_bytes (locals_token (locals_before n ms i) m) m
bodies_more n ms i m e =
    let next : i + 1 ≡ suc i = omega arith in ap (λ k. bodies_from n (take k ms)) next ∙ bodies_next n ms i m e

-- ---- the loops over the rows of a table

-- what is known once so many rows of a table were spelled, from some heaps on
pub record Spelling (heaps : Heaps) (cells : List (List Cell)) (rows : List (List ℕ)) (now : Heaps) : Type 0 where
  pub rows_are : rows ≡ table_numbers heaps cells
  pub heaps_are : now ≡ table_after heaps cells

pub spelling_push : (heaps : Heaps) (cells : List (List Cell)) (rows more : List (List ℕ)) (now next : Heaps)
    (row : List Cell) (numbers : List ℕ)
    → Spelling heaps cells rows now → numbers ≡ row_numbers now row → next ≡ row_after now row → more ≡ rows ++ numbers ∷ []
    → Spelling heaps (cells ++ row ∷ []) more next
spelling_push heaps cells rows more now next row numbers s numbers_are next_is more_are = record {
  rows_are =
      more_are
      ∙ ap (λ (n : List ℕ). rows ++ n ∷ []) (numbers_are ∙ ap (λ (h : Heaps). row_numbers h row) s.heaps_are)
      ∙ ap (λ (l : List (List ℕ)). l ++ row_numbers (table_after heaps cells) row ∷ []) s.rows_are
      ∙ sym (spelled_more row_after row_numbers heaps cells row);
  heaps_are = next_is ∙ ap (λ (h : Heaps). row_after h row) s.heaps_are ∙ sym (after_more row_after row_numbers heaps cells row);
}

pub spelling_append : (heaps : Heaps) (cells extra : List (List Cell)) (rows more : List (List ℕ)) (now next : Heaps)
    → Spelling heaps cells rows now → more ≡ rows ++ table_numbers now extra → next ≡ table_after now extra
    → Spelling heaps (cells ++ extra) more next
spelling_append heaps cells extra rows more now next s more_are next_is = record {
  rows_are =
      more_are
      ∙ ap (λ (h : Heaps). rows ++ table_numbers h extra) s.heaps_are
      ∙ ap (λ (l : List (List ℕ)). l ++ table_numbers (table_after heaps cells) extra) s.rows_are
      ∙ sym (spelled_append row_after row_numbers heaps cells extra);
  heaps_are = next_is ∙ ap (λ (h : Heaps). table_after h extra) s.heaps_are ∙ sym (after_append row_after row_numbers heaps cells extra);
}

-- the item that a loop is at
pub item_is : {X : Type 0} (xs : List X) (i : ℕ) (x : X) → i < length xs → x ≡ get_or xs i x → slice_get xs i ≡ Some x
item_is xs i x lt is = slice_get_read xs (length xs) i x refl lt is

module _ {X : Type 0} (cells : X → List Cell) where
  map_next : (xs : List X) (i : ℕ) (x : X) → i < length xs → x ≡ get_or xs i x
      → map cells (take (i + 1) xs) ≡ map cells (take i xs) ++ cells x ∷ []
  map_next xs i x lt is =
      ap (map cells) (take_more xs i x lt ∙ ap (λ (y : X). take i xs ++ y ∷ []) (sym is)) ∙ map_push cells (take i xs) x

  pub spelling_more : (heaps : Heaps) (xs : List X) (i : ℕ) (x : X) (rows more : List (List ℕ)) (now next : Heaps) (numbers : List ℕ)
      → i < length xs → x ≡ get_or xs i x → Spelling heaps (map cells (take i xs)) rows now
      → numbers ≡ row_numbers now (cells x) → next ≡ row_after now (cells x) → more ≡ rows ++ numbers ∷ []
      → Spelling heaps (map cells (take (i + 1) xs)) more next
  spelling_more heaps xs i x rows more now next numbers lt is s numbers_are next_is more_are =
      subst (λ (c : List (List Cell)). Spelling heaps c more next) (sym (map_next xs i x lt is))
      (spelling_push heaps (map cells (take i xs)) rows more now next (cells x) numbers s numbers_are next_is more_are)

  take_of_map : (xs : List X) (i : ℕ) → take i (map cells xs) ≡ map cells (take i xs)
  take_of_map [] zero = refl
  take_of_map [] (suc i) = refl
  take_of_map (x ∷ xs) zero = refl
  take_of_map (x ∷ xs) (suc i) = ap (λ (l : List (List Cell)). cells x ∷ l) (take_of_map xs i)

  pub short_item : (heaps : Heaps) (xs : List X) (i : ℕ) (x : X) (rows : List (List ℕ)) (now : Heaps) → i < length xs → x ≡ get_or xs i x
      → Spelling heaps (map cells (take i xs)) rows now → AreShort (table_after heaps (map cells xs)) → AreShort (row_after now (cells x))
  short_item heaps xs i x rows now lt is s short =
      let at : slice_get (map cells xs) i ≡ Some (cells x) = slice_get-map cells xs i ∙ ap (option_map cells) (item_is xs i x lt is) in
      let all = short_row heaps (map cells xs) i (cells x) at short in
      let so_far = subst (λ (c : List (List Cell)). AreShort (row_after (table_after heaps c) (cells x))) (take_of_map xs i) all in
      subst (λ (h : Heaps). AreShort (row_after h (cells x))) (sym s.heaps_are) so_far
