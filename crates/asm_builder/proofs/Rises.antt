-- The first rows of lists never fall from one type, or method, to the next.
use Rattle.std.proofs.Common.{◌≡◌, ◌≤◌, ◌<◌, ◌+◌, ℕ, zero, suc, true, false, not, cond, List, [], ◌∷◌}
use Rattle.std.proofs.Common.{length, map, get_or, inl, inr, refl, sym, ap, subst, arith}
use Rattle.std.specs.Prelude.{◌==◌, nat_le}
use Rattle.std.specs.List.{list_all}
use Rattle.std.proofs.lemmas.Bool.{and_parts, both_ways, cases_Bool, cases_lt, eqb-true, leb-true, not-true}
use Rattle.std.proofs.lemmas.List.{get_or_past}
use Rattle.metadata.specs.declared.schema.Table.{Table}
use Rattle.metadata.specs.declared.schema.Table.TheVariants as tables
use Rattle.metadata.specs.declared.schema.ColumnKind.{ColumnKind}
use Rattle.metadata.specs.declared.schema.ColumnKind.TheVariants as columns
use Rattle.metadata.specs.Checks.{is_list, kind_of}
use Rattle.metadata.specs.Schema.{columns_of, table_number}
use Rattle.asm_builder.specs.declared.asked.TypeDef.{TypeDef}
use Rattle.asm_builder.specs.declared.asked.Method.{Method}
use Rattle.asm_builder.specs.Asked.{Asked}
use Rattle.asm_builder.specs.Cells.{Cell, Number, Text, Blob, Coded, bodies_rva, body_size, built_tables, cells_in}
use Rattle.asm_builder.specs.Cells.{cells_of, method_rows, tables_of, type_def_cells}
use Rattle.asm_builder.specs.Sound.{IsSound, are_rising}
use Rattle.asm_builder.proofs.Counts.{cells_at, count_is}
use Rattle.asm_builder.proofs.Owned.{fields_of_type, fields_owned, methods_of_type, methods_owned}

abbrev pub number_in : Cell → ℕ
number_in (Number n) = n
number_in (Text text) = 0
number_in (Blob blob) = 0
number_in (Coded kind token) = 0

-- the cell of a row, from 0, and a column
abbrev pub cell_of : List (List Cell) → ℕ → ℕ → Cell
cell_of cells i column = get_or (get_or cells i []) column (Number 0)

abbrev pub cell_in : Asked → ℕ → ℕ → ℕ → Cell
cell_in asked table i column = cell_of (get_or (tables_of asked) table []) i column

-- ---- tables without a list

no_list : (kinds : List ColumnKind) (column : ℕ) → list_all (λ (k : ColumnKind). not (is_list k)) kinds ≡ true
    → is_list (get_or kinds column columns.UInt16) ≡ false
no_list [] column ok = refl
no_list (k ∷ kinds) zero ok = not-true (is_list k) (and_parts (not (is_list k)) (list_all (λ (k : ColumnKind). not (is_list k)) kinds) ok).0
no_list (k ∷ kinds) (suc column) ok =
    no_list kinds column (and_parts (not (is_list k)) (list_all (λ (k : ColumnKind). not (is_list k)) kinds) ok).1

-- ---- types

module _ (before : TypeDef → ℕ) (n : ℕ)
    (column_is : (t : TypeDef) → number_in (get_or (type_def_cells t) n (Number 0)) ≡ before t + 1) where
  type_rises : (from : ℕ) (types : List TypeDef) (last i : ℕ) → are_rising from (map before types) last ≡ true
      → suc i < length (map type_def_cells types)
      → number_in (cell_of (map type_def_cells types) i n) ≤ number_in (cell_of (map type_def_cells types) (suc i) n)
  type_rises from [] last i ok lt = absurd (omega (arith, lt))
  type_rises from (t ∷ []) last i ok lt = absurd (omega (arith, lt))
  type_rises from (t ∷ u ∷ types) last zero ok lt =
      let rest = (and_parts (nat_le from (before t)) (are_rising (before t) (map before (u ∷ types)) last) ok).1 in
      let up =
      leb-true (before t) (before u)
      (and_parts (nat_le (before t) (before u)) (are_rising (before u) (map before types) last) rest).0 in
      let first = column_is t in
      let second = column_is u in
      omega (arith, up, first, second)
  type_rises from (t ∷ u ∷ types) last (suc i) ok lt =
      type_rises (before t) (u ∷ types) last i
      (and_parts (nat_le from (before t)) (are_rising (before t) (map before (u ∷ types)) last) ok).1 (omega (arith, lt))

-- ---- methods: each list begins at 1

method_row_list : (at : ℕ) (ms : List Method) (i : ℕ) → i < length (method_rows at ms) → number_in (cell_of (method_rows at ms) i 5) ≡ 1
method_row_list at [] i lt = absurd (omega arith)
method_row_list at (m ∷ ms) zero lt = refl
method_row_list at (m ∷ ms) (suc i) lt = method_row_list (at + body_size m) ms i (omega (arith, lt))

module _ (asked : Asked) (sound : IsSound asked) where
  -- in a table's rows the numbers of lists do not fall
  abbrev Rises : ℕ → List (List Cell) → Type 0
  Rises number cells = (i column : ℕ) → suc i < length cells → is_list (kind_of number column) ≡ true
      → number_in (cell_of cells i column) ≤ number_in (cell_of cells (suc i) column)

  plain : (number : ℕ) (cells : List (List Cell))
      → list_all (λ (k : ColumnKind). not (is_list k)) (columns_of number) ≡ true → Rises number cells
  plain number cells ok i column lt list = absurd (both_ways (is_list (kind_of number column)) (no_list (columns_of number) column ok) list)

  rises_TypeDef : Rises (table_number tables.TypeDef) (cells_of asked tables.TypeDef)
  unfolding columns_of
  rises_TypeDef i zero lt list = absurd (let h : ⊥ = cc in h)
  rises_TypeDef i (suc zero) lt list = absurd (let h : ⊥ = cc in h)
  rises_TypeDef i (suc (suc zero)) lt list = absurd (let h : ⊥ = cc in h)
  rises_TypeDef i (suc (suc (suc zero))) lt list = absurd (let h : ⊥ = cc in h)
  rises_TypeDef i (suc (suc (suc (suc zero)))) lt list =
      type_rises fields_of_type 4 (λ t. refl) 0 asked.type_defs (length asked.fields) i (fields_owned asked sound).rising lt
  rises_TypeDef i (suc (suc (suc (suc (suc zero))))) lt list =
      type_rises methods_of_type 5 (λ t. refl) 0 asked.type_defs (length asked.methods) i (methods_owned asked sound).rising lt
  rises_TypeDef i (suc (suc (suc (suc (suc (suc column)))))) lt list = absurd (let h : ⊥ = cc in h)

  rises_MethodDef : Rises (table_number tables.MethodDef) (cells_of asked tables.MethodDef)
  unfolding columns_of
  rises_MethodDef i zero lt list = absurd (let h : ⊥ = cc in h)
  rises_MethodDef i (suc zero) lt list = absurd (let h : ⊥ = cc in h)
  rises_MethodDef i (suc (suc zero)) lt list = absurd (let h : ⊥ = cc in h)
  rises_MethodDef i (suc (suc (suc zero))) lt list = absurd (let h : ⊥ = cc in h)
  rises_MethodDef i (suc (suc (suc (suc zero)))) lt list = absurd (let h : ⊥ = cc in h)
  rises_MethodDef i (suc (suc (suc (suc (suc zero))))) lt list =
      let this = method_row_list bodies_rva asked.methods i (omega (arith, lt)) in
      let next = method_row_list bodies_rva asked.methods (suc i) lt in
      omega (arith, this, next)
  rises_MethodDef i (suc (suc (suc (suc (suc (suc column)))))) lt list = absurd (let h : ⊥ = cc in h)

  none_0x00 : list_all (λ (k : ColumnKind). not (is_list k)) (columns_of 0x00) ≡ true
  unfolding columns_of
  none_0x00 = refl

  none_0x01 : list_all (λ (k : ColumnKind). not (is_list k)) (columns_of 0x01) ≡ true
  unfolding columns_of
  none_0x01 = refl

  none_0x04 : list_all (λ (k : ColumnKind). not (is_list k)) (columns_of 0x04) ≡ true
  unfolding columns_of
  none_0x04 = refl

  none_0x0A : list_all (λ (k : ColumnKind). not (is_list k)) (columns_of 0x0A) ≡ true
  unfolding columns_of
  none_0x0A = refl

  none_0x0C : list_all (λ (k : ColumnKind). not (is_list k)) (columns_of 0x0C) ≡ true
  unfolding columns_of
  none_0x0C = refl

  none_0x11 : list_all (λ (k : ColumnKind). not (is_list k)) (columns_of 0x11) ≡ true
  unfolding columns_of
  none_0x11 = refl

  none_0x20 : list_all (λ (k : ColumnKind). not (is_list k)) (columns_of 0x20) ≡ true
  unfolding columns_of
  none_0x20 = refl

  none_0x23 : list_all (λ (k : ColumnKind). not (is_list k)) (columns_of 0x23) ≡ true
  unfolding columns_of
  none_0x23 = refl

  abbrev Each : List Table → Type 0
  Each [] = Unit {0}
  Each (t ∷ ts) = Rises (table_number t) (cells_of asked t) × Each ts

  by_number : (ts : List Table) → Each ts → (number : ℕ) → Rises number (cells_in ts asked number)
  by_number [] each number = λ i column lt list. absurd (omega (arith, lt))
  by_number (t ∷ ts) each number = elim (cases_Bool (table_number t == number)) [
    | inl same ↦
        let at : cells_of asked t ≡ cells_in (t ∷ ts) asked number =
        sym (ap (λ b. cond b (cells_of asked t) (cells_in ts asked number)) same) in
        subst (λ (c : List (List Cell)). Rises number c) at
        (subst (λ n. Rises n (cells_of asked t)) (eqb-true (table_number t) number same) each.0)
    | inr other ↦
        let at : cells_in ts asked number ≡ cells_in (t ∷ ts) asked number =
        sym (ap (λ b. cond b (cells_of asked t) (cells_in ts asked number)) other) in
        subst (λ (c : List (List Cell)). Rises number c) at (by_number ts each.1 number)
  ]

  each_rises : Each built_tables
  each_rises = (
    plain 0x00 (cells_of asked tables.Module) none_0x00,
    (
      plain 0x01 (cells_of asked tables.TypeRef) none_0x01,
      (
        rises_TypeDef,
        (
          plain 0x04 (cells_of asked tables.Field) none_0x04,
          (
            rises_MethodDef,
            (
              plain 0x0A (cells_of asked tables.MemberRef) none_0x0A,
              (
                plain 0x0C (cells_of asked tables.CustomAttribute) none_0x0C,
                (
                  plain 0x11 (cells_of asked tables.StandAloneSig) none_0x11,
                  (
                    plain 0x20 (cells_of asked tables.Assembly) none_0x20,
                    (plain 0x23 (cells_of asked tables.AssemblyRef) none_0x23, tt),
                  ),
                ),
              ),
            ),
          ),
        ),
      ),
    ),
  )

  pub rises : (table i next column : ℕ) → suc i ≡ next → next < length (get_or (tables_of asked) table [])
      → is_list (kind_of table column) ≡ true
      → number_in (cell_in asked table i column) ≤ number_in (cell_in asked table next column)
  rises table i next column next_is lt list = elim (cases_lt table 64) [
    | inl small ↦
        let same = cells_at asked table small in
        let all = subst (λ (c : List (List Cell)). Rises table c) (sym same) (by_number built_tables each_rises table) in
        subst (λ n. number_in (cell_in asked table i column) ≤ number_in (cell_in asked table n column)) next_is
        (all i column (omega (arith, next_is, lt)) list)
    | inr past ↦
        let count = count_is asked in
        let none = ap (λ (l : List (List Cell)). length l) (get_or_past (tables_of asked) table [] (omega (arith, count, past))) in
        absurd (omega (arith, none, lt))
  ]
