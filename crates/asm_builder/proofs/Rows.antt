-- The content that spells what was asked is sound.
use Rattle.std.proofs.Common.{◌≡◌, ◌<◌, ◌+◌, ◌*◌, ◌^◌, ℕ, Bool, true, false, cond, List, [], ◌∷◌, ◌++◌}
use Rattle.std.proofs.Common.{length, get_or, map, inl, inr, refl, sym, ap, ◌∙◌, arith, length-append}
use Rattle.std.specs.Prelude.{◌==◌, IsTrue}
use Rattle.std.specs.List.{list_all}
use Rattle.std.proofs.lemmas.Bool.{and_parts, cases_Bool, cases_lt, eqb-true}
use Rattle.std.proofs.lemmas.List.{get_or_default, get_or_past, length-map}
use Rattle.std.proofs.lemmas.Option.{slice_get-get_or}
use Rattle.std.proofs.Math.ListN.{get_or-map}
use Rattle.metadata.specs.declared.schema.Table.{Table}
use Rattle.metadata.specs.Checks.{is_known}
use Rattle.metadata.specs.Schema.{table_number}
use Rattle.asm_builder.specs.declared.asked.Method.{Method}
use Rattle.asm_builder.specs.Asked.{Asked}
use Rattle.asm_builder.specs.Cells.{Cell, built_tables, cells_in, cells_of, is_empty, tables_of, user_heap}
use Rattle.asm_builder.specs.Content.{all_after, all_numbers, bodies_from, body_bytes, body_header, content_of}
use Rattle.asm_builder.specs.Content.{locals_after, locals_token, no_heaps, padded4}
use Rattle.asm_builder.specs.Sound.{IsSound, rows_asked}
use Rattle.asm_builder.proofs.CellsNamed.{rows_counted}
use Rattle.asm_builder.proofs.Counts.{cells_at, count_is, counted_few}
use Rattle.asm_builder.proofs.Fits.{numbers_fit}
use Rattle.asm_builder.proofs.Padding.{padded4_fours}
use Rattle.asm_builder.proofs.TablesBack.{IsSpelled, RowsFit}

-- ---- bodies

body_fours : (locals : ℕ) (m : Method) → (n : ℕ) × (length (body_bytes locals m) ≡ 4 * n)
body_fours locals m = by_code (is_empty m.code)
  where
    by_code : (b : Bool) → (n : ℕ) × (length (cond b [] (padded4 (body_header locals m ++ m.code))) ≡ 4 * n)
    by_code true = (0, omega arith)
    by_code false = padded4_fours (body_header locals m ++ m.code)

bodies_fours : (before : ℕ) (ms : List Method) → (n : ℕ) × (length (bodies_from before ms) ≡ 4 * n)
unfolding bodies_from
bodies_fours before [] = (0, omega arith)
bodies_fours before (m ∷ ms) =
    let first = body_fours (locals_token before m) m in
    let rest = bodies_fours (locals_after before m) ms in
    let a = first.1 in
    let b = rest.1 in
    let sum = length-append (body_bytes (locals_token before m) m) (bodies_from (locals_after before m) ms) in
    (first.0 + rest.0, omega (arith, a, b, sum))

-- ---- tables with rows are known

known_in : (ts : List Table) (asked : Asked) (number : ℕ) → list_all (λ (t : Table). is_known (table_number t)) ts ≡ true
    → 0 < length (cells_in ts asked number) → is_known number ≡ true
known_in [] asked number known some = absurd (omega arith)
known_in (t ∷ ts) asked number known some = elim (cases_Bool (table_number t == number)) [
  | inl same ↦
      ap is_known (sym (eqb-true (table_number t) number same))
      ∙ (and_parts (is_known (table_number t)) (list_all (λ (t : Table). is_known (table_number t)) ts) known).0
  | inr other ↦
      let rest = ap (λ b. length (cond b (cells_of asked t) (cells_in ts asked number))) other in
      known_in ts asked number
      (and_parts (is_known (table_number t)) (list_all (λ (t : Table). is_known (table_number t)) ts) known).1
      (omega (arith, some, rest))
]

all_known : list_all (λ (t : Table). is_known (table_number t)) built_tables ≡ true
all_known = refl

module _ (asked : Asked) (sound : IsSound asked) where
  pub tables_are : (content_of asked).tables ≡ all_numbers no_heaps (tables_of asked)
  unfolding content_of
  tables_are = refl

  counts_are : map (λ (l : List (List ℕ)). length l) (content_of asked).tables ≡ rows_asked (tables_of asked)
  counts_are = ap (map (λ (l : List (List ℕ)). length l)) tables_are ∙ rows_counted no_heaps (tables_of asked)

  pub count_at : (n : ℕ) → length (get_or (content_of asked).tables n []) ≡ length (get_or (tables_of asked) n [])
  count_at n =
      sym (get_or-map (λ (l : List (List ℕ)). length l) (content_of asked).tables n [])
      ∙ ap (λ (l : List ℕ). get_or l n 0) counts_are
      ∙ get_or-map (λ (l : List (List Cell)). length l) (tables_of asked) n []

  pub tables_count : length (content_of asked).tables ≡ 64
  tables_count =
      sym (length-map (content_of asked).tables (λ (l : List (List ℕ)). length l))
      ∙ ap (λ (l : List ℕ). length l) counts_are
      ∙ length-map (tables_of asked) (λ (l : List (List Cell)). length l)
      ∙ count_is asked

  few_at : (k : ℕ) (d : List (List ℕ)) → k < length (content_of asked).tables → length (get_or (content_of asked).tables k d) < 2 ^ 24
  few_at k d lt =
      let few = counted_few (tables_of asked) k sound.few in
      let count = count_at k ∙ sym (get_or-map (λ (l : List (List Cell)). length l) (tables_of asked) k []) in
      let same = get_or_default (content_of asked).tables k d [] lt in
      let at = ap (λ (l : List (List ℕ)). length l) same in
      omega (arith, few, count, at)

  known : (table : ℕ) → 0 < length (get_or (content_of asked).tables table []) → IsTrue (is_known table)
  known table some = elim (cases_lt table 64) [
    | inl small ↦
        let count = count_at table in
        let cells = ap (λ (l : List (List Cell)). length l) (cells_at asked table small) in
        known_in built_tables asked table all_known (omega (arith, some, count, cells))
    | inr past ↦
        let count = tables_count in
        let none = ap (λ (l : List (List ℕ)). length l) (get_or_past (content_of asked).tables table [] (omega (arith, count, past))) in
        absurd (omega (arith, none, some))
  ]

  rows_fit : (table : ℕ) → RowsFit (content_of asked) table
  rows_fit table k d lt =
      numbers_fit asked sound table k (get_or (get_or (content_of asked).tables table []) k d)
      (slice_get-get_or (get_or (content_of asked).tables table []) k d lt)

  strings_fours : (n : ℕ) × (length (content_of asked).strings ≡ 4 * n)
  unfolding content_of
  strings_fours = padded4_fours (all_after no_heaps (tables_of asked)).strings

  user_strings_fours : (n : ℕ) × (length (content_of asked).user_strings ≡ 4 * n)
  unfolding content_of
  user_strings_fours = padded4_fours (user_heap asked.user_strings)

  blobs_fours : (n : ℕ) × (length (content_of asked).blobs ≡ 4 * n)
  unfolding content_of
  blobs_fours = padded4_fours (all_after no_heaps (tables_of asked)).blobs

  guids_count : length (content_of asked).guids ≡ 16
  unfolding content_of
  guids_count = refl

  all_bodies_fours : (n : ℕ) × (length (content_of asked).bodies ≡ 4 * n)
  unfolding content_of
  all_bodies_fours = bodies_fours 0 asked.methods

-- each number fits its column, by the kinds of the cells of each table
pub is_spelled : (asked : Asked) → IsSound asked → IsSpelled (content_of asked)
is_spelled asked sound = record {
  count = tables_count asked sound;
  few = few_at asked sound;
  known = known asked sound;
  fit = rows_fit asked sound;
  strings = strings_fours asked sound;
  user_strings = user_strings_fours asked sound;
  guids = guids_count asked sound;
  blobs = blobs_fours asked sound;
  bodies = all_bodies_fours asked sound;
}
