-- The number of a cell names what the cell holds, in every assembly whose heaps begin with those after it: over any tables of
-- cells, with no case for a table.
use Rattle.std.proofs.Common.{◌≡◌, ◌<◌, ◌^◌, ◌++◌, ℕ, zero, suc, true, false, cond, List, [], ◌∷◌}
use Rattle.std.proofs.Common.{length, drop, get_or, map, Some, inl, inr, refl, ap, ◌∙◌, arith, append_assoc}
use Rattle.std.proofs.Common.{length-append}
use Rattle.std.specs.Prelude.{◌==◌, IsTrue}
use Rattle.std.specs.List.{AllZip, list_all}
use Rattle.std.proofs.lemmas.Bool.{and_parts, cases_Bool, ne_eqb}
use Rattle.metadata.specs.declared.schema.CodedKind.{CodedKind}
use Rattle.metadata.specs.Heaps.{blob_in, text_in}
use Rattle.rtr_bytes.specs.Compressed.{compressed_bytes}
use Rattle.cli_assembly.specs.Assemblies.{Assembly, blob_at, coded_token, string_at}
use Rattle.asm_builder.specs.Built.{HasRows, Names}
use Rattle.asm_builder.specs.Cells.{Cell, Number, Text, Blob, Coded, is_empty}
use Rattle.asm_builder.specs.Content.{Heaps, all_after, all_numbers, blob_bytes, coded_index, heaps_after}
use Rattle.asm_builder.specs.Content.{heaps_after_all, no_heaps, number_of, row_after, row_numbers, spelled_all}
use Rattle.asm_builder.specs.Content.{table_after, table_numbers, text_bytes}
use Rattle.asm_builder.specs.Sound.{are_sound_rows, is_name, is_sound_cell, rows_asked, takes}
use Rattle.asm_builder.proofs.Coded.{coded_back}
use Rattle.asm_builder.proofs.Growth.{GoesOn, goes_on_cell, goes_on_list, goes_on_row, goes_on_table, goes_on_then}
use Rattle.asm_builder.proofs.HeapsBack.{blob_back, text_back}

-- something was in them before
pub record IsBegun (heaps : Heaps) : Type 0 where
  pub strings : 0 < length heaps.strings
  pub blobs : 0 < length heaps.blobs

pub begun_later : (heaps later : Heaps) → GoesOn heaps later → IsBegun heaps → IsBegun later
begun_later heaps later on begun =
    let strings = ap (λ (l : List ℕ). length l) on.strings_are ∙ length-append heaps.strings on.strings in
    let blobs = ap (λ (l : List ℕ). length l) on.blobs_are ∙ length-append heaps.blobs on.blobs in
    record {
      strings = let some = begun.strings in omega (arith, strings, some);
      blobs = let some = begun.blobs in omega (arith, blobs, some);
    }

-- ---- in an assembly with these numbers of rows and heaps that go on after `later`

abbrev heaps_in : Assembly → Heaps
heaps_in a = record { strings = a.strings; blobs = a.blobs }

pub record HasHeaps (a : Assembly) (later : Heaps) (rows : List ℕ) : Type 0 where
  pub rows_are : map length a.tables ≡ rows
  pub heaps : GoesOn later (record { strings = a.strings; blobs = a.blobs })
  pub few : length later.blobs < 2 ^ 29

has_earlier : (a : Assembly) (heaps later : Heaps) (rows : List ℕ) → GoesOn heaps later → HasHeaps a later rows → HasHeaps a heaps rows
has_earlier a heaps later rows on has =
    let blobs = ap (λ (l : List ℕ). length l) on.blobs_are ∙ length-append heaps.blobs on.blobs in
    record {
      rows_are = has.rows_are;
      heaps = goes_on_then heaps later (heaps_in a) on has.heaps;
      few = let few = has.few in omega (arith, blobs, few);
    }

pub coded_named : (a : Assembly) (rows : List ℕ) (kind : CodedKind) (token : ℕ) → map length a.tables ≡ rows
    → IsTrue (takes rows kind token) → coded_token a kind (coded_index kind token) ≡ Some token
coded_named a rows kind token rows_are ok = coded_back a rows kind token rows_are ok

-- ---- texts and blobs

empty_list : {X : Type 0} (xs : List X) → is_empty xs ≡ true → [] ≡ xs
empty_list [] e = refl
empty_list (x ∷ xs) e = absurd (let h : ⊥ = cc in h)

string_zero : (a : Assembly) → string_at a 0 ≡ Some []
unfolding string_at
string_zero a = refl

string_found : (a : Assembly) (at : ℕ) → 0 < at → string_at a at ≡ text_in (drop at a.strings)
unfolding string_at
string_found a at some = let other : (at == 0) ≡ false =
    ne_eqb at 0 (λ e. omega arith) in ap (λ b. cond b (Some []) (text_in (drop at a.strings))) other

blob_zero : (a : Assembly) → blob_at a 0 ≡ Some []
unfolding blob_at
blob_zero a = refl

blob_found : (a : Assembly) (at : ℕ) → 0 < at → blob_at a at ≡ blob_in (drop at a.blobs)
unfolding blob_at
blob_found a at some = let other : (at == 0) ≡ false =
    ne_eqb at 0 (λ e. omega arith) in ap (λ b. cond b (Some []) (blob_in (drop at a.blobs))) other

text_named : (a : Assembly) (heaps : Heaps) (rows : List ℕ) (text : List ℕ) → IsBegun heaps
    → HasHeaps a (heaps_after heaps (Text text)) rows
    → IsTrue (is_name text) → string_at a (number_of heaps (Text text)) ≡ Some text
text_named a heaps rows text begun has name = elim (cases_Bool (is_empty text)) [
  | inl none ↦
      ap (λ b. string_at a (cond b 0 (length heaps.strings))) none ∙ string_zero a ∙ ap (λ (l : List ℕ). Some l) (empty_list text none)
  | inr some ↦
      let more = has.heaps.strings in
      let are : a.strings ≡ heaps.strings ++ (text_bytes text ++ more) = has.heaps.strings_are
      ∙ append_assoc heaps.strings (text_bytes text) more in
      ap (λ b. string_at a (cond b 0 (length heaps.strings))) some
      ∙ string_found a (length heaps.strings) begun.strings
      ∙ ap (λ (l : List ℕ). text_in (drop (length heaps.strings) l)) are
      ∙ text_back heaps.strings text more name some
]

blob_named : (a : Assembly) (heaps : Heaps) (rows : List ℕ) (blob : List ℕ) → IsBegun heaps
    → HasHeaps a (heaps_after heaps (Blob blob)) rows
    → blob_at a (number_of heaps (Blob blob)) ≡ Some blob
blob_named a heaps rows blob begun has = elim (cases_Bool (is_empty blob)) [
  | inl none ↦
      ap (λ b. blob_at a (cond b 0 (length heaps.blobs))) none ∙ blob_zero a ∙ ap (λ (l : List ℕ). Some l) (empty_list blob none)
  | inr some ↦
      let more = has.heaps.blobs in
      let are : a.blobs ≡ heaps.blobs ++ (blob_bytes blob ++ more) = has.heaps.blobs_are
      ∙ append_assoc heaps.blobs (blob_bytes blob) more in
      let sum = length-append heaps.blobs (blob_bytes blob) in
      let own : length (blob_bytes blob) ≡ length (compressed_bytes (length blob) ++ blob) =
      ap (λ b. length (cond b [] (compressed_bytes (length blob) ++ blob))) some in
      let bytes = length-append (compressed_bytes (length blob)) blob in
      let few = has.few in
      ap (λ b. blob_at a (cond b 0 (length heaps.blobs))) some
      ∙ blob_found a (length heaps.blobs) begun.blobs
      ∙ ap (λ (l : List ℕ). blob_in (drop (length heaps.blobs) l)) are
      ∙ blob_back heaps.blobs blob more (omega (arith, sum, own, bytes, few)) some
]

pub cell_named : (a : Assembly) (heaps : Heaps) (rows : List ℕ) (cell : Cell) → IsBegun heaps → HasHeaps a (heaps_after heaps cell) rows
    → IsTrue (is_sound_cell rows cell) → Names a cell (number_of heaps cell)
cell_named a heaps rows (Number n) begun has ok = refl
cell_named a heaps rows (Text text) begun has ok = text_named a heaps rows text begun has ok
cell_named a heaps rows (Blob blob) begun has ok = blob_named a heaps rows blob begun has
cell_named a heaps rows (Coded kind token) begun has ok = coded_named a rows kind token has.rows_are ok

-- ---- rows and tables

pub row_named : (a : Assembly) (heaps : Heaps) (rows : List ℕ) (cells : List Cell) → IsBegun heaps → HasHeaps a (row_after heaps cells) rows
    → IsTrue (list_all (is_sound_cell rows) cells) → AllZip (Names a) cells (row_numbers heaps cells)
row_named a heaps rows [] begun has ok = tt
row_named a heaps rows (cell ∷ cells) begun has ok =
    let next = heaps_after heaps cell in
    let parts = and_parts (is_sound_cell rows cell) (list_all (is_sound_cell rows) cells) ok in (
      cell_named a heaps rows cell begun (has_earlier a next (row_after next cells) rows (goes_on_row next cells) has) parts.0,
      row_named a next rows cells (begun_later heaps next (goes_on_cell heaps cell) begun) has parts.1,
    )

pub table_named : (a : Assembly) (heaps : Heaps) (rows : List ℕ) (table : List (List Cell)) → IsBegun heaps
    → HasHeaps a (table_after heaps table) rows → IsTrue (are_sound_rows rows table) → HasRows a table (table_numbers heaps table)
table_named a heaps rows [] begun has ok = tt
table_named a heaps rows (row ∷ table) begun has ok =
    let next = row_after heaps row in
    let parts = and_parts (list_all (is_sound_cell rows) row) (are_sound_rows rows table) ok in (
      row_named a heaps rows row begun (has_earlier a next (table_after next table) rows (goes_on_table next table) has) parts.0,
      table_named a next rows table (begun_later heaps next (goes_on_row heaps row) begun) has parts.1,
    )

all_named : (a : Assembly) (heaps : Heaps) (rows : List ℕ) (tables : List (List (List Cell))) → IsBegun heaps
    → HasHeaps a (heaps_after_all table_after heaps tables) rows → IsTrue (list_all (are_sound_rows rows) tables) → (number : ℕ)
    → HasRows a (get_or tables number []) (get_or (spelled_all table_after table_numbers heaps tables) number [])
all_named a heaps rows [] begun has ok number = tt
all_named a heaps rows (table ∷ tables) begun has ok zero =
    let next = table_after heaps table in
    let parts = and_parts (are_sound_rows rows table) (list_all (are_sound_rows rows) tables) ok in
    let on = goes_on_list table_after goes_on_table next tables in
    table_named a heaps rows table begun (has_earlier a next (heaps_after_all table_after next tables) rows on has) parts.0
all_named a heaps rows (table ∷ tables) begun has ok (suc number) =
    let next = table_after heaps table in
    let parts = and_parts (are_sound_rows rows table) (list_all (are_sound_rows rows) tables) ok in
    all_named a next rows tables (begun_later heaps next (goes_on_table heaps table) begun) has parts.1 number

-- each table of all, by its number
pub tables_named : (a : Assembly) (rows : List ℕ) (tables : List (List (List Cell))) → HasHeaps a (all_after no_heaps tables) rows
    → IsTrue (list_all (are_sound_rows rows) tables) → (number : ℕ)
    → HasRows a (get_or tables number []) (get_or (all_numbers no_heaps tables) number [])
unfolding all_after all_numbers
tables_named a rows tables has ok number =
    let some : 0 < 1 = omega arith in all_named a no_heaps rows tables (record { strings = some; blobs = some }) has ok number

-- ---- numbers of rows are those of cells

counted : {X Y : Type 0} (after : Heaps → X → Heaps) (spelled : Heaps → X → Y) (heaps : Heaps) (xs : List X)
    → length (spelled_all after spelled heaps xs) ≡ length xs
counted after spelled heaps [] = refl
counted after spelled heaps (x ∷ xs) = let rest = counted after spelled (after heaps x) xs in omega (arith, rest)

all_counted : (heaps : Heaps) (tables : List (List (List Cell)))
    → map (λ (t : List (List ℕ)). length t) (spelled_all table_after table_numbers heaps tables) ≡ rows_asked tables
all_counted heaps [] = refl
all_counted heaps (table ∷ tables) =
    ap (λ n. n ∷ map (λ (t : List (List ℕ)). length t)
    (spelled_all table_after table_numbers (table_after heaps table) tables)) (counted row_after row_numbers heaps table)
    ∙ ap (λ (l : List ℕ). length table ∷ l) (all_counted (table_after heaps table) tables)

pub rows_counted : (heaps : Heaps) (tables : List (List (List Cell))) → map length (all_numbers heaps tables) ≡ rows_asked tables
unfolding all_numbers
rows_counted heaps tables = all_counted heaps tables
