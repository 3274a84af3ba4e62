-- Heaps only grow as things are spelled, so all of them are short where the last are.
use Rattle.std.proofs.Common.{◌≡◌, ℕ, zero, suc, List, [], ◌∷◌, ◌++◌, length, take, Some, refl, sym, ap}
use Rattle.std.proofs.Common.{◌∙◌, subst, arith, append_assoc, length-append}
use Rattle.std.specs.Prelude.{slice_get}
use Rattle.std.proofs.lemmas.List.{append-nil}
use Rattle.asm_builder.specs.Cells.{Cell, Number, Text, Blob, Coded}
use Rattle.asm_builder.specs.Content.{Heaps, all_after, blob_bytes, heaps_after, heaps_after_all, row_after, table_after, text_bytes}
use Rattle.asm_builder.specs.Room.{AreShort}

-- heaps that go on after others
pub record GoesOn (heaps later : Heaps) : Type 0 where
  pub strings : List ℕ
  pub blobs : List ℕ
  pub strings_are : later.strings ≡ heaps.strings ++ strings
  pub blobs_are : later.blobs ≡ heaps.blobs ++ blobs

pub goes_on_same : (heaps : Heaps) → GoesOn heaps heaps
goes_on_same heaps = record {
  strings = [];
  blobs = [];
  strings_are = sym (append-nil heaps.strings);
  blobs_are = sym (append-nil heaps.blobs);
}

pub goes_on_then : (a b c : Heaps) → GoesOn a b → GoesOn b c → GoesOn a c
goes_on_then a b c x y = record {
  strings = x.strings ++ y.strings;
  blobs = x.blobs ++ y.blobs;
  strings_are = y.strings_are ∙ ap (λ l. l ++ y.strings) x.strings_are ∙ append_assoc a.strings x.strings y.strings;
  blobs_are = y.blobs_are ∙ ap (λ l. l ++ y.blobs) x.blobs_are ∙ append_assoc a.blobs x.blobs y.blobs;
}

pub goes_on_cell : (heaps : Heaps) (cell : Cell) → GoesOn heaps (heaps_after heaps cell)
goes_on_cell heaps (Number n) = goes_on_same heaps
goes_on_cell heaps (Text text) =
    record { strings = text_bytes text; blobs = []; strings_are = refl; blobs_are = sym (append-nil heaps.blobs) }
goes_on_cell heaps (Blob blob) =
    record { strings = []; blobs = blob_bytes blob; strings_are = sym (append-nil heaps.strings); blobs_are = refl }
goes_on_cell heaps (Coded kind token) = goes_on_same heaps

-- a part of short heaps is short
pub short_back : (heaps later : Heaps) → GoesOn heaps later → AreShort later → AreShort heaps
short_back heaps later on short =
    let strings = ap (λ (l : List ℕ). length l) on.strings_are ∙ length-append heaps.strings on.strings in
    let blobs = ap (λ (l : List ℕ). length l) on.blobs_are ∙ length-append heaps.blobs on.blobs in
    (omega (arith, strings, short.0), omega (arith, blobs, short.1))

module _ {X : Type 0} (after : Heaps → X → Heaps) (grows : (heaps : Heaps) (x : X) → GoesOn heaps (after heaps x)) where
  pub goes_on_list : (heaps : Heaps) (xs : List X) → GoesOn heaps (heaps_after_all after heaps xs)
  goes_on_list heaps [] = goes_on_same heaps
  goes_on_list heaps (x ∷ xs) =
      goes_on_then heaps (after heaps x) (heaps_after_all after (after heaps x) xs) (grows heaps x) (goes_on_list (after heaps x) xs)

  -- up to an item, with it
  pub goes_on_from : (heaps : Heaps) (xs : List X) (i : ℕ) (x : X) → slice_get xs i ≡ Some x
      → GoesOn (after (heaps_after_all after heaps (take i xs)) x) (heaps_after_all after heaps xs)
  goes_on_from heaps [] i x e = absurd (let h : ⊥ = cc in h)
  goes_on_from heaps (y ∷ xs) zero x e =
      let same : y ≡ x = cc in
      subst (λ (z : X). GoesOn (after heaps z) (heaps_after_all after (after heaps y) xs)) same (goes_on_list (after heaps y) xs)
  goes_on_from heaps (y ∷ xs) (suc i) x e = goes_on_from (after heaps y) xs i x e

pub goes_on_row : (heaps : Heaps) (cells : List Cell) → GoesOn heaps (row_after heaps cells)
goes_on_row heaps cells = goes_on_list heaps_after goes_on_cell heaps cells

pub goes_on_table : (heaps : Heaps) (rows : List (List Cell)) → GoesOn heaps (table_after heaps rows)
goes_on_table heaps rows = goes_on_list row_after goes_on_row heaps rows

-- short after all rows, and so after each
pub short_row : (heaps : Heaps) (rows : List (List Cell)) (i : ℕ) (row : List Cell) → slice_get rows i ≡ Some row
    → AreShort (table_after heaps rows) → AreShort (row_after (table_after heaps (take i rows)) row)
short_row heaps rows i row e short =
    short_back (row_after (table_after heaps (take i rows)) row) (table_after heaps rows)
    (goes_on_from row_after goes_on_row heaps rows i row e) short

pub short_table : (heaps : Heaps) (tables : List (List (List Cell))) (i : ℕ) (table : List (List Cell)) → slice_get tables i ≡ Some table
    → AreShort (all_after heaps tables) → AreShort (table_after (all_after heaps (take i tables)) table)
unfolding all_after
short_table heaps tables i table e short =
    short_back (table_after (all_after heaps (take i tables)) table) (all_after heaps tables)
    (goes_on_from table_after goes_on_table heaps tables i table e) short
