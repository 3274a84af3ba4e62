-- Each cell of what was asked is of its column's kind.
use Rattle.std.proofs.Common.{◌≡◌, ◌≤◌, ◌<◌, ◌+◌, ◌^◌, ℕ, zero, suc, Bool, true, false, cond, List, [], ◌∷◌}
use Rattle.std.proofs.Common.{length, map, get_or, Some, inl, inr, refl, sym, ap, ◌∙◌, subst, arith}
use Rattle.std.specs.Prelude.{◌==◌, ◌&&◌, ◌||◌, is_some, nat_le, nat_lt, slice_get}
use Rattle.std.specs.List.{AllZip, list_all}
use Rattle.std.proofs.lemmas.Bool.{and_parts, cases_Bool, cases_lt, eqb-true, ltb-true}
use Rattle.std.proofs.lemmas.List.{get_or_past, length-map}
use Rattle.std.proofs.Math.ListN.{get_or-map}
use Rattle.metadata.specs.declared.schema.Table.{Table}
use Rattle.metadata.specs.declared.schema.Table.TheVariants as tables
use Rattle.metadata.specs.declared.schema.Heap.TheVariants as heaps
use Rattle.metadata.specs.declared.schema.CodedKind.{CodedKind}
use Rattle.metadata.specs.declared.schema.CodedKind.TheVariants as kinds
use Rattle.metadata.specs.declared.schema.ColumnKind.{ColumnKind}
use Rattle.metadata.specs.declared.schema.ColumnKind.TheVariants as columns
use Rattle.metadata.specs.Schema.{columns_of, table_number, tagged_table}
use Rattle.asm_builder.specs.declared.asked.Field.{Field}
use Rattle.asm_builder.specs.declared.asked.Method.{Method}
use Rattle.asm_builder.specs.Asked.{Asked}
use Rattle.asm_builder.specs.Cells.{Cell, Number, Text, Blob, Coded, assembly_cells, assembly_ref_cells}
use Rattle.asm_builder.specs.Cells.{attribute_cells, base_cell, bodies_rva, body_size, built_tables, cells_in, cells_of}
use Rattle.asm_builder.specs.Cells.{field_cells, locals_cells, locals_of, member_ref_cells, method_cells, method_rows}
use Rattle.asm_builder.specs.Cells.{module_cells, rva_of, tables_of, type_def_cells, type_ref_cells}
use Rattle.asm_builder.specs.Sound.{IsSound, are_sound_rows, has_number, is_sound_cell, is_writable_field}
use Rattle.asm_builder.specs.Sound.{is_writable_method, is_writable_sig, are_writable_locals, are_bytes, rows_asked}
use Rattle.asm_builder.specs.Sound.{takes}
use Rattle.cli_assembly.specs.Shortest.{is_writable_type}
use Rattle.asm_builder.proofs.Counts.{cells_are, cells_at, count_is, length-method_rows}
use Rattle.asm_builder.proofs.Methods.{all_item}
use Rattle.asm_builder.proofs.Owned.{fields_of_type, fields_owned, methods_of_type, methods_owned, start_fits}

-- a cell is one of a column's kind, in tables of so many rows
abbrev pub Suits : List ℕ → ColumnKind → Cell → Type 0
Suits rows columns.UInt16 (Number n) = n < 2 ^ 16
Suits rows columns.UInt32 (Number n) = n < 2 ^ 32
Suits rows (columns.Heap heaps.Strings) (Text text) = Unit {0}
Suits rows (columns.Heap heaps.Blobs) (Blob blob) = Unit {0}
Suits rows (columns.Heap heaps.Guids) (Number n) = n < 2
Suits rows (columns.Coded kind) (Number n) = (n ≡ 0) × (is_some (tagged_table kind 0) ≡ true)
Suits rows (columns.Coded kind) (Coded own token) = (own ≡ kind) × (takes rows own token ≡ true)
Suits rows (columns.List table) (Number n) =
    (n ≤ get_or rows (table_number table) 0 + 1) × ((nat_le (2 ^ 16) (get_or rows (table_number table) 0) || nat_lt n (2 ^ 16)) ≡ true)
Suits rows kind cell = ⊥

-- ---- rows by what they were made of

map_from : {X : Type 0} (cells : X → List Cell) (xs : List X) (i : ℕ) (row : List Cell) → slice_get (map cells xs) i ≡ Some row
    → (x : X) × (slice_get xs i ≡ Some x) × (cells x ≡ row)
map_from cells [] i row e = absurd (let h : ⊥ = cc in h)
map_from cells (x ∷ xs) zero row e = (x, refl, let same : cells x ≡ row = cc in same)
map_from cells (x ∷ xs) (suc i) row e = map_from cells xs i row e

method_from : (at : ℕ) (ms : List Method) (i : ℕ) (row : List Cell) → slice_get (method_rows at ms) i ≡ Some row
    → (rva : ℕ) × (m : Method) × (slice_get ms i ≡ Some m) × (method_cells rva m ≡ row)
method_from at [] i row e = absurd (let h : ⊥ = cc in h)
method_from at (m ∷ ms) zero row e = (at, m, refl, let same : method_cells at m ≡ row = cc in same)
method_from at (m ∷ ms) (suc i) row e = method_from (at + body_size m) ms i row e

all_or : {X : Type 0} (p : X → Bool) (xs : List X) (n : ℕ) (d : X) → p d ≡ true → list_all p xs ≡ true → p (get_or xs n d) ≡ true
all_or p [] n d ok all = ok
all_or p (x ∷ xs) zero d ok all = (and_parts (p x) (list_all p xs) all).0
all_or p (x ∷ xs) (suc n) d ok all = all_or p xs n d ok (and_parts (p x) (list_all p xs) all).1

field_flags : (f : Field) → is_writable_field f ≡ true → f.flags < 2 ^ 16
field_flags f e = ltb-true f.flags (2 ^ 16) (and_parts (nat_lt f.flags (2 ^ 16)) (is_writable_type f.sig) e).0

method_flags : (m : Method) → is_writable_method m ≡ true → m.flags < 2 ^ 16
method_flags m e =
    ltb-true m.flags (2 ^ 16)
    (and_parts (nat_lt m.flags (2 ^ 16))
    (is_writable_sig m.sig && (nat_lt m.max_stack (2 ^ 16) && (are_writable_locals m.locals && are_bytes m.code))) e).0

zero_tag : is_some (tagged_table kinds.TypeDefOrRef 0) ≡ true
unfolding tagged_table
zero_tag = refl

module _ (asked : Asked) (sound : IsSound asked) where
  abbrev rows : List ℕ
  rows = rows_asked (tables_of asked)

  abbrev RowsSuit : ℕ → List (List Cell) → Type 0
  RowsSuit number cells = (i : ℕ) (row : List Cell) → slice_get cells i ≡ Some row → AllZip (Suits rows) (columns_of number) row

  pub rows_are : (table : Table) → get_or rows (table_number table) 0 ≡ length (cells_of asked table)
  rows_are table =
      get_or-map (λ (l : List (List Cell)). length l) (tables_of asked) (table_number table) []
      ∙ ap (λ (l : List (List Cell)). length l) (cells_are asked table)

  cells_sound : (table : Table) (i : ℕ) (row : List Cell) → slice_get (cells_of asked table) i ≡ Some row
      → list_all (is_sound_cell rows) row ≡ true
  cells_sound table i row e =
      let all = all_or (are_sound_rows rows) (tables_of asked) (table_number table) [] refl sound.cells in
      let own = subst (λ (l : List (List Cell)). are_sound_rows rows l ≡ true) (cells_are asked table) all in
      all_item (list_all (is_sound_cell rows)) (cells_of asked table) i row e own

  number_small : (table : Table) (i : ℕ) (row : List Cell) → slice_get (cells_of asked table) i ≡ Some row → (n v : ℕ)
      → slice_get row n ≡ Some (Number v) → v < 2 ^ 32
  number_small table i row e n v at = ltb-true v (2 ^ 32) (all_item (is_sound_cell rows) row n (Number v) at (cells_sound table i row e))

  taken : (table : Table) (i : ℕ) (row : List Cell) → slice_get (cells_of asked table) i ≡ Some row → (n : ℕ) (kind : CodedKind) (token : ℕ)
      → slice_get row n ≡ Some (Coded kind token) → takes rows kind token ≡ true
  taken table i row e n kind token at = all_item (is_sound_cell rows) row n (Coded kind token) at (cells_sound table i row e)

  -- ---- each table

  one_row : (cells row : List Cell) (i : ℕ) → slice_get (cells ∷ []) i ≡ Some row → cells ≡ row
  one_row cells row zero e = let same : cells ≡ row = cc in same
  one_row cells row (suc i) e = absurd (let h : ⊥ = cc in h)

  suits_Module : RowsSuit (table_number tables.Module) (cells_of asked tables.Module)
  unfolding columns_of
  suits_Module i row e =
      let fits : AllZip (Suits rows) (columns_of 0x00) (module_cells asked.name) =
      (omega arith, (tt, (omega arith, (omega arith, (omega arith, tt))))) in
      subst (λ (r : List Cell). AllZip (Suits rows) (columns_of 0x00) r) (one_row (module_cells asked.name) row i e) fits

  suits_TypeRef : RowsSuit (table_number tables.TypeRef) (cells_of asked tables.TypeRef)
  unfolding columns_of
  suits_TypeRef i row e =
      let from = map_from type_ref_cells asked.type_refs i row e in
      let t = from.0 in
      let scope =
      taken tables.TypeRef i row e 0 kinds.ResolutionScope t.parent
      (subst (λ (r : List Cell). slice_get r 0 ≡ Some (Coded kinds.ResolutionScope t.parent)) from.2 refl) in
      let fits : AllZip (Suits rows) (columns_of 0x01) (type_ref_cells t) = ((refl, scope), (tt, (tt, tt))) in
      subst (λ (r : List Cell). AllZip (Suits rows) (columns_of 0x01) r) from.2 fits

  base_suits : (base : ℕ) (b : Bool) → is_sound_cell rows (cond b (Number 0) (Coded kinds.TypeDefOrRef base)) ≡ true
      → Suits rows (columns.Coded kinds.TypeDefOrRef) (cond b (Number 0) (Coded kinds.TypeDefOrRef base))
  base_suits base true ok = (refl, zero_tag)
  base_suits base false ok = (refl, ok)

  start_suits : (listed : Table) (n last : ℕ) → get_or rows (table_number listed) 0 ≡ last → (n ≤ last) × (has_number last n ≡ true)
      → Suits rows (columns.List listed) (Number (n + 1))
  start_suits listed n last is (below, fits) =
      (omega (arith, is, below), subst (λ r. (nat_le (2 ^ 16) r || nat_lt (n + 1) (2 ^ 16)) ≡ true) (sym is) fits)

  suits_TypeDef : RowsSuit (table_number tables.TypeDef) (cells_of asked tables.TypeDef)
  unfolding columns_of
  suits_TypeDef i row e =
      let from = map_from type_def_cells asked.type_defs i row e in
      let t = from.0 in
      let flags =
      number_small tables.TypeDef i row e 0 t.flags (subst (λ (r : List Cell). slice_get r 0 ≡ Some (Number t.flags)) from.2 refl) in
      let base =
      all_item (is_sound_cell rows) row 3 (base_cell t.base)
      (subst (λ (r : List Cell). slice_get r 3 ≡ Some (base_cell t.base)) from.2 refl) (cells_sound tables.TypeDef i row e) in
      let fields =
      start_suits tables.Field t.fields_before (length asked.fields) (rows_are tables.Field ∙ length-map asked.fields field_cells)
      (start_fits fields_of_type asked.type_defs (length asked.fields) i t (fields_owned asked sound) from.1) in
      let methods =
      start_suits tables.MethodDef t.methods_before (length asked.methods)
      (rows_are tables.MethodDef ∙ length-method_rows bodies_rva asked.methods)
      (start_fits methods_of_type asked.type_defs (length asked.methods) i t (methods_owned asked sound) from.1) in
      let fits : AllZip (Suits rows) (columns_of 0x02) (type_def_cells t) =
      (flags, (tt, (tt, (base_suits t.base (t.base == 0) base, (fields, (methods, tt)))))) in
      subst (λ (r : List Cell). AllZip (Suits rows) (columns_of 0x02) r) from.2 fits

  suits_Field : RowsSuit (table_number tables.Field) (cells_of asked tables.Field)
  unfolding columns_of
  suits_Field i row e =
      let from = map_from field_cells asked.fields i row e in
      let flags = field_flags from.0 (all_item is_writable_field asked.fields i from.0 from.1 sound.fields) in
      let fits : AllZip (Suits rows) (columns_of 0x04) (field_cells from.0) = (flags, (tt, (tt, tt))) in
      subst (λ (r : List Cell). AllZip (Suits rows) (columns_of 0x04) r) from.2 fits

  suits_MethodDef : RowsSuit (table_number tables.MethodDef) (cells_of asked tables.MethodDef)
  unfolding columns_of
  suits_MethodDef i row e =
      let from = method_from bodies_rva asked.methods i row e in
      let m = from.1 in
      let rva =
      number_small tables.MethodDef i row e 0 (rva_of from.0 m)
      (subst (λ (r : List Cell). slice_get r 0 ≡ Some (Number (rva_of from.0 m))) from.3 refl) in
      let flags = method_flags m (all_item is_writable_method asked.methods i m from.2 sound.methods) in
      let params : Suits rows (columns.List tables.Param) (Number 1) =
      (omega arith, subst (λ r. (nat_le (2 ^ 16) r || nat_lt 1 (2 ^ 16)) ≡ true) (sym (rows_are tables.Param)) refl) in
      let fits : AllZip (Suits rows) (columns_of 0x06) (method_cells from.0 m) = (rva, (omega arith, (flags, (tt, (tt, (params, tt)))))) in
      subst (λ (r : List Cell). AllZip (Suits rows) (columns_of 0x06) r) from.3 fits

  suits_MemberRef : RowsSuit (table_number tables.MemberRef) (cells_of asked tables.MemberRef)
  unfolding columns_of
  suits_MemberRef i row e =
      let from = map_from member_ref_cells asked.member_refs i row e in
      let m = from.0 in
      let class =
      taken tables.MemberRef i row e 0 kinds.MemberRefParent m.parent
      (subst (λ (r : List Cell). slice_get r 0 ≡ Some (Coded kinds.MemberRefParent m.parent)) from.2 refl) in
      let fits : AllZip (Suits rows) (columns_of 0x0A) (member_ref_cells m) = ((refl, class), (tt, (tt, tt))) in
      subst (λ (r : List Cell). AllZip (Suits rows) (columns_of 0x0A) r) from.2 fits

  suits_CustomAttribute : RowsSuit (table_number tables.CustomAttribute) (cells_of asked tables.CustomAttribute)
  unfolding columns_of
  suits_CustomAttribute i row e =
      let from = map_from attribute_cells asked.attributes i row e in
      let a = from.0 in
      let parent =
      taken tables.CustomAttribute i row e 0 kinds.HasCustomAttribute a.parent
      (subst (λ (r : List Cell). slice_get r 0 ≡ Some (Coded kinds.HasCustomAttribute a.parent)) from.2 refl) in
      let type =
      taken tables.CustomAttribute i row e 1 kinds.CustomAttributeType a.constructor
      (subst (λ (r : List Cell). slice_get r 1 ≡ Some (Coded kinds.CustomAttributeType a.constructor)) from.2 refl) in
      let fits : AllZip (Suits rows) (columns_of 0x0C) (attribute_cells a) = ((refl, parent), ((refl, type), (tt, tt))) in
      subst (λ (r : List Cell). AllZip (Suits rows) (columns_of 0x0C) r) from.2 fits

  suits_StandAloneSig : RowsSuit (table_number tables.StandAloneSig) (cells_of asked tables.StandAloneSig)
  unfolding columns_of
  suits_StandAloneSig i row e =
      let from = map_from locals_cells (locals_of asked.methods) i row e in
      let fits : AllZip (Suits rows) (columns_of 0x11) (locals_cells from.0) = (tt, tt) in
      subst (λ (r : List Cell). AllZip (Suits rows) (columns_of 0x11) r) from.2 fits

  suits_Assembly : RowsSuit (table_number tables.Assembly) (cells_of asked tables.Assembly)
  unfolding columns_of
  suits_Assembly i row e =
      let fits : AllZip (Suits rows) (columns_of 0x20) (assembly_cells asked.name) =
      (omega arith, (omega arith, (omega arith, (omega arith, (omega arith, (omega arith, (tt, (tt, (tt, tt))))))))) in
      subst (λ (r : List Cell). AllZip (Suits rows) (columns_of 0x20) r) (one_row (assembly_cells asked.name) row i e) fits

  suits_AssemblyRef : RowsSuit (table_number tables.AssemblyRef) (cells_of asked tables.AssemblyRef)
  unfolding columns_of
  suits_AssemblyRef i row e =
      let from = map_from assembly_ref_cells asked.assembly_refs i row e in
      let fits : AllZip (Suits rows) (columns_of 0x23) (assembly_ref_cells from.0) =
      (omega arith, (omega arith, (omega arith, (omega arith, (omega arith, (tt, (tt, (tt, (tt, tt))))))))) in
      subst (λ (r : List Cell). AllZip (Suits rows) (columns_of 0x23) r) from.2 fits

  -- ---- all of them, by number

  abbrev Each : List Table → Type 0
  Each [] = Unit {0}
  Each (t ∷ ts) = RowsSuit (table_number t) (cells_of asked t) × Each ts

  by_number : (ts : List Table) → Each ts → (number : ℕ) → RowsSuit number (cells_in ts asked number)
  by_number [] each number i row e = absurd (let h : ⊥ = cc in h)
  by_number (t ∷ ts) each number i row e = elim (cases_Bool (table_number t == number)) [
    | inl same ↦
        let is = eqb-true (table_number t) number same in
        let at = ap (λ b. slice_get (cond b (cells_of asked t) (cells_in ts asked number)) i) same in
        subst (λ n. AllZip (Suits rows) (columns_of n) row) is (each.0 i row (sym at ∙ e))
    | inr other ↦
        let at = ap (λ b. slice_get (cond b (cells_of asked t) (cells_in ts asked number)) i) other in
        by_number ts each.1 number i row (sym at ∙ e)
  ]

  each_suits : Each built_tables
  each_suits = (
    suits_Module,
    (
      suits_TypeRef,
      (
        suits_TypeDef,
        (
          suits_Field,
          (
            suits_MethodDef,
            (
              suits_MemberRef,
              (
                suits_CustomAttribute,
                (
                  suits_StandAloneSig,
                  (suits_Assembly, (suits_AssemblyRef, tt)),
                ),
              ),
            ),
          ),
        ),
      ),
    ),
  )

  pub all_suit : (number : ℕ) → RowsSuit number (get_or (tables_of asked) number [])
  all_suit number i row e = elim (cases_lt number 64) [
    | inl small ↦
        by_number built_tables each_suits number i row
        (ap (λ (l : List (List Cell)). slice_get l i) (sym (cells_at asked number small)) ∙ e)
    | inr past ↦
        let count = count_is asked in
        let none = get_or_past (tables_of asked) number [] (omega (arith, count, past)) in
        let at = ap (λ (l : List (List Cell)). slice_get l i) none in
        absurd (let h : ⊥ = cc in h)
  ]
