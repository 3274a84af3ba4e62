-- The rows of MethodDef of a built file, read back, and with them the bodies: each row's body is that of the method, and the checks 50
-- and 51 pass.
use Rattle.std.proofs.Common.{◌≡◌, ◌≤◌, ◌<◌, ◌+◌, ◌%◌, ◌^◌, ◌==◌, ◌&&◌, ◌∙◌, ℕ, zero, suc, Bool, true, false, cond}
use Rattle.std.proofs.Common.{List, [], ◌∷◌, length, map, get_or, Option, Some, None, refl, sym, ap, arith, inl, inr}
use Rattle.std.specs.Prelude.{if◌then◌else◌, not, slice_get}
use Rattle.std.specs.List.{range_with_len}
use Rattle.std.specs.Option.{option_map}
use Rattle.std.proofs.lemmas.Bool.{cases_Bool, ne_eqb}
use Rattle.std.proofs.lemmas.List.FromFn.{get_or-map-range_with_len, length-map-range_with_len}
use Rattle.std.proofs.lemmas.List.{ext_get_or, get_or-map}
use Rattle.rtr_bytes.specs.Checks.{check, fault_or, first_fault}
use Rattle.metadata.specs.Checks.{first_of, or_else}
use Rattle.metadata.specs.Schema.{columns_of, table_number}
use Rattle.metadata.specs.Tables.{Layout, column_at, layout_of, rows_of}
use Rattle.metadata.specs.declared.schema.Table.{Table}
use Rattle.metadata.specs.declared.schema.Table.TheVariants as tables
use Rattle.cli_assembly.specs.Assemblies.{bodies_in, body_in, placed_in}
use Rattle.cli_assembly.specs.declared.body.Body.{Body}
use Rattle.cli_assembly.specs.Bodies.{MethodBody, body_at, has_cil, placed_body, with_code}
use Rattle.cli_assembly.specs.Checks.{body_checks, first_in_methods, has_cil_body, malformed_header, method_column}
use Rattle.cli_assembly.specs.Checks.{method_rva, place_if_malformed, place_if_unplaced, unplaced_body}
use Rattle.asm_builder.specs.declared.asked.Method.{Method}
use Rattle.asm_builder.specs.declared.content.Content.{Content}
use Rattle.asm_builder.specs.Asked.{Asked}
use Rattle.asm_builder.specs.Cells.{Cell, bodies_rva, body_size, cells_of, is_empty, method_cells, method_rows, rva_of, tables_of}
use Rattle.asm_builder.specs.Content.{Heaps, all_numbers, bodies_from, content_of, locals_token, no_heaps, row_after}
use Rattle.asm_builder.specs.Content.{row_numbers, spelled_all, table_after, table_numbers}
use Rattle.asm_builder.specs.File.{file_of, sized}
use Rattle.asm_builder.proofs.Sizes.{content_layout}
use Rattle.asm_builder.specs.Sound.{IsSound}
use Rattle.asm_builder.proofs.BodiesBack.{body_back, locals_before, rva_before}
use Rattle.asm_builder.proofs.Counts.{cells_are}
use Rattle.asm_builder.proofs.MetadataBack.{layout_is, span_in}
use Rattle.asm_builder.proofs.PeBack.{IsShort, metadata_stands}
use Rattle.asm_builder.proofs.Rows.{is_spelled}
use Rattle.asm_builder.proofs.TablesBack.{length-widths, number_is}

-- ---- what is spelled at an index, with heaps that went before

spelled_in : {X Y : Type 0} (after : Heaps → X → Heaps) (spelled : Heaps → X → Y) (d : X) (e : Y) → ((h : Heaps) → spelled h d ≡ e)
    → (heaps : Heaps) (xs : List X) (i : ℕ) → (h : Heaps) × (get_or (spelled_all after spelled heaps xs) i e ≡ spelled h (get_or xs i d))
spelled_in after spelled d e none heaps [] i = (heaps, sym (none heaps))
spelled_in after spelled d e none heaps (x ∷ xs) zero = (heaps, refl)
spelled_in after spelled d e none heaps (x ∷ xs) (suc i) = spelled_in after spelled d e none (after heaps x) xs i

length-spelled : {X Y : Type 0} (after : Heaps → X → Heaps) (spelled : Heaps → X → Y) (heaps : Heaps) (xs : List X)
    → length (spelled_all after spelled heaps xs) ≡ length xs
length-spelled after spelled heaps [] = refl
length-spelled after spelled heaps (x ∷ xs) = let later = length-spelled after spelled (after heaps x) xs in omega (arith, later)

table_in : (heaps : Heaps) (tables : List (List (List Cell))) (t : ℕ)
    → (h : Heaps) × (get_or (all_numbers heaps tables) t [] ≡ table_numbers h (get_or tables t []))
unfolding all_numbers
table_in heaps tables t = spelled_in table_after table_numbers [] [] (λ h. refl) heaps tables t

row_in : (heaps : Heaps) (rows : List (List Cell)) (i : ℕ)
    → (h : Heaps) × (get_or (table_numbers heaps rows) i [] ≡ row_numbers h (get_or rows i []))
row_in heaps rows i = spelled_in row_after row_numbers [] [] (λ h. refl) heaps rows i

-- ---- methods by index

method_at : (at : ℕ) (ms : List Method) (i : ℕ) (m : Method) → slice_get ms i ≡ Some m
    → get_or (method_rows at ms) i [] ≡ method_cells (rva_before at ms i) m
method_at at [] i m e = absurd (let x : ⊥ = cc in x)
method_at at (n ∷ ms) zero m e = let same : n ≡ m = cc in ap (method_cells at) same
method_at at (n ∷ ms) (suc i) m e = method_at (at + body_size n) ms i m e

length-methods : (at : ℕ) (ms : List Method) → length (method_rows at ms) ≡ length ms
length-methods at [] = refl
length-methods at (m ∷ ms) = let later = length-methods (at + body_size m) ms in omega (arith, later)

method_within : (ms : List Method) (i : ℕ) (m : Method) → slice_get ms i ≡ Some m → i < length ms
method_within [] i m e = absurd (let x : ⊥ = cc in x)
method_within (n ∷ ms) zero m e = omega arith
method_within (n ∷ ms) (suc i) m e = let later = method_within ms i m e in omega (arith, later)

method_there : (ms : List Method) (i : ℕ) → i < length ms → (m : Method) × (slice_get ms i ≡ Some m)
method_there [] i less = absurd (omega arith)
method_there (m ∷ ms) zero less = (m, refl)
method_there (m ∷ ms) (suc i) less = method_there ms i (omega arith)

rva_up : (at : ℕ) (ms : List Method) (i : ℕ) → at ≤ rva_before at ms i
rva_up at [] i = omega arith
rva_up at (m ∷ ms) zero = omega arith
rva_up at (m ∷ ms) (suc i) = let later = rva_up (at + body_size m) ms i in omega (arith, later)

-- ---- the table of what was asked

cells_spelled : (asked : Asked) (table : Table) → (h : Heaps)
    × (get_or (content_of asked).tables (table_number table) [] ≡ table_numbers h (cells_of asked table))
unfolding content_of
cells_spelled asked table =
    let found = table_in no_heaps (tables_of asked) (table_number table) in
    (found.0, found.1 ∙ ap (table_numbers found.0) (cells_are asked table))

-- each table has as many rows as were asked for
pub length-cells : (asked : Asked) (table : Table)
    → length (get_or (content_of asked).tables (table_number table) []) ≡ length (cells_of asked table)
length-cells asked table =
    let found = cells_spelled asked table in
    ap (λ (r : List (List ℕ)). length r) found.1 ∙ length-spelled row_after row_numbers found.0 (cells_of asked table)

pub length-methods_table : (asked : Asked)
    → length (get_or (content_of asked).tables (table_number tables.MethodDef) []) ≡ length asked.methods
length-methods_table asked = length-cells asked tables.MethodDef ∙ length-methods bodies_rva asked.methods

pub method_row : (asked : Asked) (i : ℕ) (m : Method) → slice_get asked.methods i ≡ Some m
    → (h : Heaps) × (get_or (get_or (content_of asked).tables (table_number tables.MethodDef) []) i []
    ≡ row_numbers h (method_cells (rva_before bodies_rva asked.methods i) m))
method_row asked i m e =
    let found = cells_spelled asked tables.MethodDef in
    let row = row_in found.0 (method_rows bodies_rva asked.methods) i in
    (row.0, ap (λ (r : List (List ℕ)). get_or r i []) found.1 ∙ row.1 ∙ ap (row_numbers row.0) (method_at bodies_rva asked.methods i m e))

six_columns : length (columns_of (table_number tables.MethodDef)) ≡ 6
unfolding columns_of
six_columns = refl

first_none : (answer : ℕ → Option ℕ) (from n : ℕ) → ((i : ℕ) → i < n → answer (from + i) ≡ None) → first_of answer from n ≡ None
unfolding first_of
first_none answer from zero each = refl
first_none answer from (suc n) each =
    let here : answer from ≡ None = ap answer (let e : from ≡ from + 0 = omega arith in e) ∙ each 0 (omega arith) in
    let later = first_none answer (from + 1) n
    (λ i less. ap answer (let e : from + 1 + i ≡ from + suc i = omega arith in e) ∙ each (suc i) (omega arith)) in
    ap (λ (o : Option ℕ). or_else o (first_of answer (from + 1) n)) here ∙ later

-- ---- the bodies

-- a method's body, where it has one
abbrev pub body_of_method : ℕ → Method → Option MethodBody
body_of_method before m =
    if is_empty m.code then None
    else Some (record { max_stack = m.max_stack; locals = locals_token before m; code = m.code; more = false })

no_cil : (rva impl : ℕ) → rva ≡ 0 → has_cil rva impl ≡ false
no_cil rva impl e = ap (λ (r : ℕ). not (r == 0) && impl % 8 == 0) e

some_cil : (rva impl : ℕ) → 0 < rva → impl ≡ 0 → has_cil rva impl ≡ true
some_cil rva impl some e =
    let other : (rva == 0) ≡ false = ne_eqb rva 0 (λ same. omega (arith, same, some)) in
    ap (λ (b : Bool). not b && impl % 8 == 0) other ∙ ap (λ (n : ℕ). n % 8 == 0) e

module _ (asked : Asked) (entry : ℕ) (sound : IsSound asked) (short : IsShort (content_of asked)) (small : entry < 2 ^ 32) where
  abbrev content : Content
  content = content_of asked

  abbrev bytes : List ℕ
  bytes = file_of (content_of asked) entry

  abbrev layout : Layout
  layout = content_layout (content_of asked)

  abbrev MethodDef : ℕ
  MethodDef = table_number tables.MethodDef

  column_is : (i : ℕ) (m : Method) (column : ℕ) → slice_get asked.methods i ≡ Some m → column < 6
      → (h : Heaps) ×
      (method_column bytes layout (i + 1) column ≡ get_or (row_numbers h (method_cells (rva_before bodies_rva asked.methods i) m)) column 0)
  column_is i m column e less =
      let there = metadata_stands (content_of asked) entry short small in
      let row = method_row asked i m e in
      let count = length-methods_table asked in
      let within = method_within asked.methods i m e in
      let size = length-widths (sized content) MethodDef in
      let six = six_columns in (
        row.0,
        number_is bytes content (is_spelled asked sound) short there.0 there.1 MethodDef i column (omega arith)
            (omega (arith, count, within)) (omega (arith, size, six, less))
            ∙ ap (λ (r : List ℕ). get_or r column 0) row.1,
      )

  rva_is : (i : ℕ) (m : Method) → slice_get asked.methods i ≡ Some m
      → method_rva bytes layout (i + 1) ≡ rva_of (rva_before bodies_rva asked.methods i) m
  rva_is i m e = (column_is i m 0 e (omega arith)).1

  flags_is : (i : ℕ) (m : Method) → slice_get asked.methods i ≡ Some m → method_column bytes layout (i + 1) 1 ≡ 0
  flags_is i m e = (column_is i m 1 e (omega arith)).1

  abbrev place_of_method : ℕ → ℕ
  place_of_method i = rva_before bodies_rva asked.methods i

  abbrev AnswersAs : ℕ → Method → Type 0
  AnswersAs i m =
      (body_in bytes layout (i + 1) ≡ body_of_method (locals_before 0 asked.methods i) m)
      × (unplaced_body bytes layout (i + 1) ≡ None) × (malformed_header bytes layout (i + 1) ≡ None)

  without : (i : ℕ) (m : Method) → slice_get asked.methods i ≡ Some m → is_empty m.code ≡ true → AnswersAs i m
  unfolding placed_in unplaced_body malformed_header
  without i m e empty =
      let row = i + 1 in
      let rva : method_rva bytes layout row ≡ 0 = rva_is i m e ∙ ap (λ (b : Bool). if b then 0 else place_of_method i) empty in
      let cil : has_cil_body bytes layout row ≡ false = no_cil (method_rva bytes layout row) (method_column bytes layout row 1) rva in
      let at = body_at bytes (method_rva bytes layout row) in
      let body : MethodBody =
      record { max_stack = m.max_stack; locals = locals_token (locals_before 0 asked.methods i) m; code = m.code; more = false } in (
        ap (λ (b : Bool). option_map (with_code bytes) (if b then placed_body at else None)) cil
            ∙ sym (ap (λ (b : Bool). cond {A = Option MethodBody} b None (Some body)) empty),
        ap (λ (b : Bool). if b then place_if_unplaced (column_at layout MethodDef row 0) at else None) cil,
        ap (λ (b : Bool). if b then place_if_malformed at else None) cil,
      )

  bodies_in_content : (content_of asked).bodies ≡ bodies_from 0 asked.methods
  unfolding content_of
  bodies_in_content = refl

  with_body : (i : ℕ) (m : Method) → slice_get asked.methods i ≡ Some m → is_empty m.code ≡ false → AnswersAs i m
  unfolding placed_in unplaced_body malformed_header
  with_body i m e some =
      let row = i + 1 in
      let back = body_back (content_of asked) entry short small asked.methods sound.methods bodies_in_content i m e some in
      let rva : method_rva bytes layout row ≡ place_of_method i = rva_is i m e
      ∙ ap (λ (b : Bool). if b then 0 else place_of_method i) some in
      let up = rva_up bodies_rva asked.methods i in
      let cil : has_cil_body bytes layout row ≡ true =
      some_cil (method_rva bytes layout row) (method_column bytes layout row 1) (omega (arith, rva, up)) (flags_is i m e) in
      let at = body_at bytes (method_rva bytes layout row) in
      let body : MethodBody =
      record { max_stack = m.max_stack; locals = locals_token (locals_before 0 asked.methods i) m; code = m.code; more = false } in (
        ap (λ (b : Bool). option_map (with_code bytes) (if b then placed_body at else None)) cil
            ∙ ap (λ (r : ℕ). option_map (with_code bytes) (placed_body (body_at bytes r))) rva
            ∙ ap (λ (o : Option Body). option_map (with_code bytes) o) back.1
            ∙ ap (λ (x : MethodBody). Some x) back.4
            ∙ sym (ap (λ (b : Bool). cond {A = Option MethodBody} b None (Some body)) some),
        ap (λ (b : Bool). if b then place_if_unplaced (column_at layout MethodDef row 0) at else None) cil
            ∙ ap (λ (r : ℕ). place_if_unplaced (column_at layout MethodDef row 0) (body_at bytes r)) rva
            ∙ back.2 (column_at layout MethodDef row 0),
        ap (λ (b : Bool). if b then place_if_malformed at else None) cil ∙ ap (λ (r : ℕ). place_if_malformed (body_at bytes r)) rva
            ∙ back.3,
      )

  -- what is read at the row of a method
  pub method_back : (i : ℕ) (m : Method) → slice_get asked.methods i ≡ Some m → AnswersAs i m
  method_back i m e = elim (cases_Bool (is_empty m.code)) [
    | inl empty ↦ without i m e empty
    | inr some ↦ with_body i m e some
  ]

  rows_is : rows_of layout MethodDef ≡ length asked.methods
  unfolding content_layout
  rows_is =
      let spelled = is_spelled asked sound in
      let count = spelled.count in
      get_or-map (λ (r : List (List ℕ)). length r) (content_of asked).tables MethodDef [] 0 (omega (arith, count))
      ∙ length-methods_table asked

  -- all bodies are those of a list that has each method's
  pub bodies_back : (bodies : List (Option MethodBody)) → length bodies ≡ length asked.methods
      → ((i : ℕ) (m : Method) → slice_get asked.methods i ≡ Some m
      → get_or bodies i None ≡ body_of_method (locals_before 0 asked.methods i) m)
      → bodies_in bytes layout ≡ bodies
  unfolding bodies_in
  bodies_back bodies same each =
      let n = rows_of layout MethodDef in
      let read = map (body_in bytes layout) (range_with_len 1 n) in
      let size : length read ≡ n = length-map-range_with_len (body_in bytes layout) 1 n in
      let rows = rows_is in
      ext_get_or None read bodies (omega (arith, size, rows, same)) (λ i below.
      let less : i < n = omega (arith, below, size) in
      let found = method_there asked.methods i (omega (arith, less, rows)) in
      get_or-map-range_with_len (body_in bytes layout) 1 n i (i + 1) None less (omega arith)
      ∙ (method_back i found.0 found.1).0 ∙ sym (each i found.0 found.1))

  none_first : (answer : ℕ → Option ℕ) → ((i : ℕ) (m : Method) → slice_get asked.methods i ≡ Some m → answer (i + 1) ≡ None)
      → first_in_methods layout answer ≡ None
  none_first answer each =
      let rows = rows_is in
      first_none answer 1 (rows_of layout MethodDef) (λ i less.
      let found = method_there asked.methods i (omega (arith, less, rows)) in
      ap answer (let e : 1 + i ≡ i + 1 = omega arith in e) ∙ each i found.0 found.1)

  pub unplaced_is : first_in_methods layout (unplaced_body bytes layout) ≡ None
  unplaced_is = none_first (unplaced_body bytes layout) (λ i m e. (method_back i m e).1)

  pub malformed_is : first_in_methods layout (malformed_header bytes layout) ≡ None
  malformed_is = none_first (malformed_header bytes layout) (λ i m e. (method_back i m e).2)

  -- the checks 50 and 51
  pub bodies_pass : first_fault (body_checks (span_in (content_of asked))) bytes ≡ None
  bodies_pass =
      let there = metadata_stands (content_of asked) entry short small in
      let is = layout_is bytes content (is_spelled asked sound) short there.0 there.1 in
      let first : first_in_methods (layout_of bytes (span_in content)) (unplaced_body bytes (layout_of bytes (span_in content))) ≡ None =
      ap (λ (l : Layout). first_in_methods l (unplaced_body bytes l)) is ∙ unplaced_is in
      let second : first_in_methods (layout_of bytes (span_in content)) (malformed_header bytes (layout_of bytes (span_in content)))
      ≡ None =
      ap (λ (l : Layout). first_in_methods l (malformed_header bytes l)) is ∙ malformed_is in
      ap (λ (o : Option ℕ). fault_or 50 o
      (first_fault
      (check 51
      (λ bytes. first_in_methods (layout_of bytes (span_in content)) (malformed_header bytes (layout_of bytes (span_in content)))) ∷ [])
      bytes)) first
      ∙ ap (λ (o : Option ℕ). fault_or 51 o None) second
