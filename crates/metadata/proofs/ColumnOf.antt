-- A column by its table, row and number, or none.
use Rattle.std.proofs.Common.{◌≡◌, ℕ, zero, suc, ◌<◌, ◌≤◌, ◌==◌, Bool, true, false, cond, ◌&&◌, List, [], ◌∷◌, length}
use Rattle.std.proofs.Common.{map, Option, Some, None, inl, inr, refl, sym, ap, ◌∙◌, subst, arith}
use Rattle.std.specs.Prelude.{filter, nat_le, nat_lt, slice_get}
use Rattle.std.specs.List.{list_all}
use Rattle.std.proofs.lemmas.Bool.{and_parts, cases_lt, le-leb, le-ltb, lt-leb, lt-ltb, ltb-true, ne_eqb}
use Rattle.std.proofs.lemmas.Option.{get_or_from_slice_get, slice_get_within}
use Rattle.metadata.specs.declared.layout.ColumnLayout.{ColumnLayout}
use Rattle.metadata.specs.declared.layout.TableLayout.{TableLayout}
use Rattle.metadata.specs.declared.schema.Column.{Column}
use Rattle.metadata.specs.declared.schema.ColumnKind.{ColumnKind}
use Rattle.metadata.specs.declared.schema.TheConstants.{COLUMNS}
use Rattle.metadata.specs.Kept.{AreTables, IsTable}
use Rattle.metadata.specs.Schema.{columns_in, columns_of, table_number}
use Rattle.metadata.specs.Tables.{Layout, column_at, column_of, column_place, has_column, number_of, rows_of}
use Rattle.metadata.proofs.Placed.{IsColumn, column_of_table, columns_length}

-- ---- a table that there isn't has no columns

no_kinds : (columns : List Column) (n : ℕ) → 64 ≤ n
    → list_all (λ (c : Column). nat_lt (table_number c.table) 64) columns ≡ true → columns_in columns n ≡ []
no_kinds [] n past e = refl
no_kinds (c ∷ cs) n past e =
    let parts = and_parts (nat_lt (table_number c.table) 64) (list_all (λ (c : Column). nat_lt (table_number c.table) 64) cs) e in
    let low = ltb-true _ _ parts.0 in
    let other : (table_number c.table == n) ≡ false = ne_eqb _ _ (λ same. omega (arith, low, same, past)) in
    ap (λ b. map (λ (c : Column). c.kind)
    (cond b (c ∷ filter (λ (c : Column). table_number c.table == n) cs) (filter (λ (c : Column). table_number c.table == n) cs))) other
    ∙ no_kinds cs n past parts.1

no_columns : (n : ℕ) → 64 ≤ n → columns_of n ≡ []
unfolding columns_of
no_columns n past = no_kinds COLUMNS n past refl

-- ---- no column

out : (bytes : List ℕ) (layout : Layout) (n row c : ℕ) → has_column layout n row c ≡ false → column_of bytes layout n row c ≡ None
unfolding column_of
out bytes layout n row c e = ap (λ b. cond b (Some (number_of bytes layout n row c)) None) e

and_last : (a b c : Bool) → c ≡ false → (a && (b && c)) ≡ false
and_last true true c e = e
and_last true false c e = refl
and_last false b c e = refl

and_middle : (a b c : Bool) → b ≡ false → (a && (b && c)) ≡ false
and_middle true true c e = absurd (let x : ⊥ = cc in x)
and_middle true false c e = refl
and_middle false b c e = refl

past_columns : (bytes : List ℕ) (layout : Layout) (n row c : ℕ) → length (columns_of n) ≤ c → column_of bytes layout n row c ≡ None
past_columns bytes layout n row c past =
    out bytes layout n row c (and_last (nat_le 1 row) (nat_le row (rows_of layout n)) (nat_lt c (length (columns_of n))) (le-ltb _ _ past))

past_end : {X : Type 0} (xs : List X) (i : ℕ) → None ≡ slice_get xs i → length xs ≤ i
past_end xs i e = elim (cases_lt i (length xs)) [
  | inl lt ↦ absurd (none_there xs i lt e)
  | inr ge ↦ ge
]
  where
    none_there : {X : Type 0} (xs : List X) (i : ℕ) → i < length xs → None ≡ slice_get xs i → ⊥
    none_there [] i h e = omega arith
    none_there (x ∷ xs) zero h e = cc
    none_there (x ∷ xs) (suc i) h e = none_there xs i (omega arith) e

pub no_table : (bytes : List ℕ) (layout : Layout) (tables : List TableLayout) (n row c : ℕ) → AreTables layout tables
    → None ≡ slice_get tables n → column_of bytes layout n row c ≡ None
no_table bytes layout tables n row c are e =
    let past = past_end tables n e in
    let all = are.all in
    let none = ap (λ (l : List ColumnKind). length l) (no_columns n (omega (arith, past, all))) in
    past_columns bytes layout n row c (omega (arith, none))

pub no_column : (bytes : List ℕ) (layout : Layout) (table : TableLayout) (n row c : ℕ) → IsTable layout n table
    → None ≡ slice_get table.row.columns.items c → column_of bytes layout n row c ≡ None
no_column bytes layout table n row c t e =
    let past = past_end table.row.columns.items c e in
    let all = columns_length layout n table t in
    past_columns bytes layout n row c (omega (arith, past, all))

pub no_first_row : (bytes : List ℕ) (layout : Layout) (n row c : ℕ) → row ≡ 0 → column_of bytes layout n row c ≡ None
no_first_row bytes layout n row c e =
    let first : nat_le 1 row ≡ false = lt-leb _ _ (omega (arith, e)) in
    out bytes layout n row c (ap (λ b. b && (nat_le row (rows_of layout n) && nat_lt c (length (columns_of n)))) first)

pub no_row : (bytes : List ℕ) (layout : Layout) (table : TableLayout) (n row c : ℕ) → IsTable layout n table
    → table.rows < row → column_of bytes layout n row c ≡ None
no_row bytes layout table n row c t past =
    let rows = t.rows in
    out bytes layout n row c
    (and_middle (nat_le 1 row) (nat_le row (rows_of layout n)) (nat_lt c (length (columns_of n)))
    (lt-leb _ _ (omega (arith, rows, past))))

-- ---- a column

pub nth_is : (layout : Layout) (table : TableLayout) (n c : ℕ) (column : ColumnLayout) → IsTable layout n table
    → Some column ≡ slice_get table.row.columns.items c → IsColumn layout n c column
nth_is layout table n c column t e =
    let at = get_or_from_slice_get table.row.columns.items c column column (sym e) in
    let below = slice_get_within table.row.columns.items c column (sym e) in
    let P : ColumnLayout → Type 0 = λ k. IsColumn layout n c k in
    subst P at (column_of_table layout n table c column t below)

there : (bytes : List ℕ) (layout : Layout) (n row c : ℕ) → has_column layout n row c ≡ true
    → column_of bytes layout n row c ≡ Some (number_of bytes layout n row c)
unfolding column_of
there bytes layout n row c e = ap (λ b. cond b (Some (number_of bytes layout n row c)) None) e

pub the_column : (bytes : List ℕ) (layout : Layout) (table : TableLayout) (n row c : ℕ) (column : ColumnLayout)
    → IsTable layout n table → Some column ≡ slice_get table.row.columns.items c → 1 ≤ row → row ≤ table.rows
    → column_of bytes layout n row c ≡ Some (number_of bytes layout n row c)
the_column bytes layout table n row c column t e first last =
    let rows = t.rows in
    let below = slice_get_within table.row.columns.items c column (sym e) in
    let all = columns_length layout n table t in
    let a : nat_le 1 row ≡ true = le-leb _ _ first in
    let b : nat_le row (rows_of layout n) ≡ true = le-leb _ _ (omega (arith, rows, last)) in
    let d : nat_lt c (length (columns_of n)) ≡ true = lt-ltb _ _ (omega (arith, below, all)) in
    there bytes layout n row c
    (ap (λ x. x && (nat_le row (rows_of layout n) && nat_lt c (length (columns_of n)))) a
    ∙ ap (λ x. x && nat_lt c (length (columns_of n))) b ∙ d)

-- ---- the place of a column

none_too : (b : Bool) (x y : ℕ) → ◌≡◌ {A = Option ℕ} (cond b (Some x) None) None → ◌≡◌ {A = Option ℕ} (cond b (Some y) None) None
none_too true x y e = absurd (let none : ⊥ = cc in none)
none_too false x y e = refl

some_too : (b : Bool) (x y found : ℕ) → ◌≡◌ {A = Option ℕ} (cond b (Some x) None) (Some found)
    → ◌≡◌ {A = Option ℕ} (cond b (Some y) None) (Some y)
some_too true x y found e = refl
some_too false x y found e = absurd (let none : ⊥ = cc in none)

-- there is none where there is no column
pub no_place : (bytes : List ℕ) (layout : Layout) (n row c : ℕ) → column_of bytes layout n row c ≡ None → column_place layout n row c ≡ None
unfolding column_of column_place
no_place bytes layout n row c e = none_too (has_column layout n row c) (number_of bytes layout n row c) (column_at layout n row c) e

pub the_place : (bytes : List ℕ) (layout : Layout) (n row c found : ℕ) → column_of bytes layout n row c ≡ Some found
    → column_place layout n row c ≡ Some (column_at layout n row c)
unfolding column_of column_place
the_place bytes layout n row c found e =
    some_too (has_column layout n row c) (number_of bytes layout n row c) (column_at layout n row c) found e
