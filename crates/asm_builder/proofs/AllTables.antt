-- The loop over all tables, by their numbers.
use Rattle.std.proofs.Common.{◌≡◌, ◌≤◌, ◌<◌, ◌+◌, ◌^◌, ℕ, List, [], ◌∷◌, ◌++◌, length, take}
use Rattle.std.proofs.Common.{get_or, Some, refl, sym, ap, ◌∙◌, subst, arith}
use Rattle.std.specs.Prelude.{◌&&◌, nat_lt, slice_get}
use Rattle.std.proofs.lemmas.Bool.{and_parts, ltb-true}
use Rattle.std.proofs.lemmas.List.{take_all, take_more}
use Rattle.std.proofs.lemmas.Option.{slice_get-get_or}
use Rattle.asm_builder.specs.declared.content.Content.{Content}
use Rattle.asm_builder.specs.Asked.{Asked}
use Rattle.asm_builder.specs.Cells.{Cell, tables_of, user_heap}
use Rattle.asm_builder.specs.Content.{Heaps, all_after, all_numbers, bodies_from, content_of, module_guid, no_heaps}
use Rattle.asm_builder.specs.Content.{padded4, table_after, table_numbers}
use Rattle.asm_builder.specs.Room.{AreShort, rows_in}
use Rattle.asm_builder.specs.Sound.{IsSound, are_small_heaps, code_size}
use Rattle.asm_builder.proofs.Counts.{cells_at, count_is}
use Rattle.asm_builder.proofs.Growth.{short_table}
use Rattle.asm_builder.proofs.Spelled.{after_more, spelled_more}

pub small_heaps : (asked : Asked) → IsSound asked
    → (length (all_after no_heaps (tables_of asked)).strings < 2 ^ 24) × (length (all_after no_heaps (tables_of asked)).blobs < 2 ^ 24)
small_heaps asked sound =
    let heaps = all_after no_heaps (tables_of asked) in
    let parts =
    and_parts (are_small_heaps heaps)
    (nat_lt (length (user_heap asked.user_strings)) (2 ^ 24) && nat_lt (code_size asked.methods) (2 ^ 24)) sound.small in
    let both = and_parts (nat_lt (length heaps.strings) (2 ^ 24)) (nat_lt (length heaps.blobs) (2 ^ 24)) parts.0 in
    (ltb-true (length heaps.strings) (2 ^ 24) both.0, ltb-true (length heaps.blobs) (2 ^ 24) both.1)

pub all_short : (asked : Asked) → IsSound asked → AreShort (all_after no_heaps (tables_of asked))
all_short asked sound = let small = small_heaps asked sound in (omega (arith, small.0), omega (arith, small.1))

pub room_of_strings : (asked : Asked) → IsSound asked → length (user_heap asked.user_strings) < 2 ^ 24
room_of_strings asked sound =
    let rest =
    (and_parts (are_small_heaps (all_after no_heaps (tables_of asked)))
    (nat_lt (length (user_heap asked.user_strings)) (2 ^ 24) && nat_lt (code_size asked.methods) (2 ^ 24)) sound.small).1 in
    ltb-true (length (user_heap asked.user_strings)) (2 ^ 24)
    (and_parts (nat_lt (length (user_heap asked.user_strings)) (2 ^ 24)) (nat_lt (code_size asked.methods) (2 ^ 24)) rest).0

rows_at : (asked : Asked) (i : ℕ) → i < 64 → get_or (tables_of asked) i [] ≡ rows_in asked i
unfolding rows_in
rows_at asked i small = cells_at asked i small

pub after_none : all_after no_heaps [] ≡ no_heaps
unfolding all_after
after_none = refl

pub numbers_none : all_numbers no_heaps [] ≡ []
unfolding all_numbers
numbers_none = refl

all_after_more : (tables : List (List (List Cell))) (table : List (List Cell))
    → all_after no_heaps (tables ++ table ∷ []) ≡ table_after (all_after no_heaps tables) table
unfolding all_after
all_after_more tables table = after_more table_after table_numbers no_heaps tables table

all_numbers_more : (tables : List (List (List Cell))) (table : List (List Cell))
    → all_numbers no_heaps (tables ++ table ∷ []) ≡ all_numbers no_heaps tables ++ table_numbers (all_after no_heaps tables) table ∷ []
unfolding all_after all_numbers
all_numbers_more tables table = spelled_more table_after table_numbers no_heaps tables table

module _ (asked : Asked) (i : ℕ) (small : i < 64) where
  here : slice_get (tables_of asked) i ≡ Some (rows_in asked i)
  here =
      let count = count_is asked in
      slice_get-get_or (tables_of asked) i [] (omega (arith, count)) ∙ ap (λ (t : List (List Cell)). Some t) (rows_at asked i small)

  next : take (i + 1) (tables_of asked) ≡ take i (tables_of asked) ++ rows_in asked i ∷ []
  next =
      let count = count_is asked in
      take_more (tables_of asked) i [] (omega (arith, count))
      ∙ ap (λ (t : List (List Cell)). take i (tables_of asked) ++ t ∷ []) (rows_at asked i small)

  pub rows_short : (now : Heaps) → now ≡ all_after no_heaps (take i (tables_of asked)) → IsSound asked
      → AreShort (table_after now (rows_in asked i))
  rows_short now is sound =
      subst (λ (h : Heaps). AreShort (table_after h (rows_in asked i))) (sym is)
      (short_table no_heaps (tables_of asked) i (rows_in asked i) here (all_short asked sound))

  pub heaps_step : (now later : Heaps) → now ≡ all_after no_heaps (take i (tables_of asked)) → later ≡ table_after now (rows_in asked i)
      → later ≡ all_after no_heaps (take (i + 1) (tables_of asked))
  heaps_step now later is e =
      e ∙ ap (λ (h : Heaps). table_after h (rows_in asked i)) is
      ∙ sym (ap (all_after no_heaps) next ∙ all_after_more (take i (tables_of asked)) (rows_in asked i))

  pub tables_step : (now : Heaps) (tables more : List (List (List ℕ))) (rows : List (List ℕ))
      → now ≡ all_after no_heaps (take i (tables_of asked))
      → tables ≡ all_numbers no_heaps (take i (tables_of asked)) → rows ≡ table_numbers now (rows_in asked i) → more ≡ tables ++ rows ∷ []
      → more ≡ all_numbers no_heaps (take (i + 1) (tables_of asked))
  tables_step now tables more rows is tables_are rows_are e =
      e
      ∙ ap (λ (l : List (List (List ℕ))). l ++ rows ∷ []) tables_are
      ∙ ap (λ (r : List (List ℕ)). all_numbers no_heaps (take i (tables_of asked)) ++ r ∷ [])
      (rows_are ∙ ap (λ (h : Heaps). table_numbers h (rows_in asked i)) is)
      ∙ sym (ap (all_numbers no_heaps) next ∙ all_numbers_more (take i (tables_of asked)) (rows_in asked i))

pub all_taken : (asked : Asked) (i : ℕ) → 64 ≤ i → take i (tables_of asked) ≡ tables_of asked
all_taken asked i past = let count = count_is asked in take_all i (tables_of asked) (omega (arith, count, past))

pub content_is : (asked : Asked) (tables : List (List (List ℕ))) (strings user_strings guids blobs bodies : List ℕ)
    → tables ≡ all_numbers no_heaps (tables_of asked) → strings ≡ padded4 (all_after no_heaps (tables_of asked)).strings
    → user_strings ≡ padded4 (user_heap asked.user_strings) → guids ≡ module_guid
    → blobs ≡ padded4 (all_after no_heaps (tables_of asked)).blobs
    → bodies ≡ bodies_from 0 asked.methods
    → ◌≡◌ {A = Content} (record {
      tables = tables;
      strings = strings;
      user_strings = user_strings;
      guids = guids;
      blobs = blobs;
      bodies = bodies;
    }) (content_of asked)
unfolding content_of
content_is asked tables strings user_strings guids blobs bodies t s u g b m = rw t (rw s (rw u (rw g (rw b (rw m refl)))))
