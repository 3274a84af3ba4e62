-- Tables, rows and columns at their places.
use Rattle.std.proofs.Common.{◌≡◌, ℕ, zero, suc, ◌+◌, ◌-◌, ◌*◌, ◌^◌, ◌<◌, ◌≤◌, ◌⊎◌, inl, inr, Bool, true, false, cond}
use Rattle.std.proofs.Common.{List, [], ◌∷◌, ◌++◌, length, take, get_or, map, Option, Some, None, Ok, Err, not, ◌&&◌}
use Rattle.std.proofs.Common.{refl, sym, ap, ◌∙◌, subst, arith, length-append}
use Rattle.std.specs.Prelude.{sum_by, slice_get, nat_le, nat_lt, unwrap_or}
use Rattle.std.proofs.lemmas.Bool.{le-leb, lt-leb}
use Rattle.std.proofs.lemmas.List.Sums.{sum_by-cons}
use Rattle.std.proofs.Math.Nat.{mul-le-mul, mul-le-mul_right, suc-mul}
use Rattle.rtr_bytes.specs.declared.fault.Span.{Span}
use Rattle.metadata.specs.declared.layout.ColumnLayout.{ColumnLayout}
use Rattle.metadata.specs.declared.layout.TableLayout.{TableLayout}
use Rattle.metadata.specs.declared.schema.ColumnKind.{ColumnKind}
use Rattle.metadata.specs.declared.schema.ColumnKind.TheVariants as columns
use Rattle.rtr_bytes.specs.declared.fault.Fault.{Fault}
use Rattle.rtr_bytes.specs.Checks.{holds_or}
use Rattle.rtr_bytes.specs.Field.{field_at}
use Rattle.metadata.specs.Checks.{bad_column, fallen_column, falls, is_list, kind_of, or_else}
use Rattle.metadata.specs.Heaps.{is_valid}
use Rattle.metadata.specs.Kept.{AreTables, AreTablesSoFar, IsJudged, IsTable, column_layouts, falls_from, fit_fault, size_of_columns}
use Rattle.metadata.specs.Schema.{columns_of}
use Rattle.metadata.specs.Streams.{end_of}
use Rattle.metadata.specs.Tables.{Layout, column_at, is_wide, number_of, row_size, rows_of, table_at, table_size, width}
use Rattle.metadata.specs.Tables.{width_of, widths_of}
use Rattle.metadata.proofs.Layouts.{table_at_first, table_at_more, table_at_up}

pub product : (a b : ℕ) → a < 2 ^ 24 → b ≤ 2 ^ 18 → a * b ≤ 2 ^ 42
product a b few small = let most : a * b ≤ 2 ^ 24 * 2 ^ 18 =
    mul-le-mul {n₁ = a} {m₁ = b} {n₂ = 2 ^ 24} {m₂ = 2 ^ 18} (omega arith) small in omega (arith, most)

-- ---- tables, one more

get_push : (xs : List TableLayout) (y : TableLayout) (n : ℕ) (t : TableLayout) → slice_get (xs ++ y ∷ []) n ≡ Some t
    → (slice_get xs n ≡ Some t) ⊎ ((n ≡ length xs) × (y ≡ t))
get_push [] y zero t e = let same : y ≡ t = cc in inr (refl, same)
get_push [] y (suc n) t e = absurd (let x : ⊥ = cc in x)
get_push (x ∷ xs) y zero t e = inl e
get_push (x ∷ xs) y (suc n) t e =
    elim (get_push xs y n t e) [ inl before ↦ inl before | inr (last, same) ↦ inr (ap (λ k. suc k) last, same) ]

-- the first tables are kept, and the rows of the next one begin at a place
pub record Placed (layout : Layout) (stream : Span) (n at : ℕ) (tables : List TableLayout) : Type 0 where
  pub count : length tables ≡ n
  pub so_far : AreTablesSoFar layout tables
  pub at_is : at ≡ table_at layout n
  pub fits : 0 < n → at ≤ end_of stream
  pub narrow : at < 2 ^ 32

pub placed_none : (layout : Layout) (stream : Span) (at : ℕ) → at ≡ layout.rows_at → at < 2 ^ 32 → Placed layout stream 0 at []
placed_none layout stream at e narrow = record {
  narrow = narrow;
  count = refl;
  so_far = λ n t h. absurd (let x : ⊥ = cc in x);
  at_is = e ∙ sym (table_at_first layout);
  fits = λ some. absurd (omega (arith, some));
}

pub placed_more : (layout : Layout) (stream : Span) (n at next : ℕ) (tables : List TableLayout) (table : TableLayout)
    → Placed layout stream n at tables → end_of stream ≤ 2 ^ 31 → next ≡ at + table.rows * table.row.size
    → next ≤ end_of stream → table.number ≡ n → table.at ≡ at → table.rows ≡ rows_of layout n
    → table.row.size ≡ row_size layout n → table.row.columns.items ≡ column_layouts layout 0 (columns_of n)
    → Placed layout stream (n + 1) next (tables ++ table ∷ [])
placed_more layout stream n at next tables table p small next_is fits number at_is rows size columns =
    let more = table_at_more layout n in
    let here = p.at_is in
    let product_is : table.rows * table.row.size ≡ table_size layout n = ap (λ r. r * table.row.size) rows
    ∙ ap (λ s. rows_of layout n * s) size in
    let this : IsTable layout n table =
    record {
      number = number;
      at = at_is ∙ here;
      rows = rows;
      row_size = size;
      columns = columns;
      inside = omega (arith, more, here, product_is);
    } in
    let count = p.count in
    record {
      count = length-append tables (table ∷ []) ∙ (let e : length tables + 1 ≡ n + 1 = omega arith in e);
      so_far = λ k t h. elim (get_push tables table k t h) [
        | inl before ↦ p.so_far k t before
        | inr (last, same) ↦ subst (λ t. IsTable layout k t) same (subst (λ j. IsTable layout j table) (sym (last ∙ count)) this)
      ];
      at_is = omega (arith, more, here, product_is);
      fits = λ some. fits;
      narrow = omega (arith, small, fits);
    }

pub placed_all : (layout : Layout) (stream : Span) (at : ℕ) (tables : List TableLayout)
    → Placed layout stream 64 at tables → AreTables layout tables
placed_all layout stream at tables p = record { all = p.count; each = p.so_far }

fit_test : (b : Bool) (layout : Layout) (stream : Span) → nat_le (table_at layout 64) (end_of stream) ≡ b
    → fit_fault stream layout ≡ cond b None (Some (record { check = 40; place = stream.start }))
fit_test true layout stream e = rw e refl
fit_test false layout stream e = rw e refl

pub all_fit : (layout : Layout) (stream : Span) (at : ℕ) (tables : List TableLayout) → Placed layout stream 64 at tables
    → fit_fault stream layout ≡ None
all_fit layout stream at tables p =
    let fits = p.fits (omega arith) in
    let here = p.at_is in
    fit_test true layout stream (le-leb _ _ (omega (arith, fits, here)))

pub one_too_long : (layout : Layout) (stream : Span) (n at : ℕ) (tables : List TableLayout) (rows size : ℕ) → n < 64
    → Placed layout stream n at tables → rows ≡ rows_of layout n → size ≡ row_size layout n
    → end_of stream < at + rows * size → fit_fault stream layout ≡ Some (record { check = 40; place = stream.start })
one_too_long layout stream n at tables rows size below p rows_is size_is long =
    let more = table_at_more layout n in
    let here = p.at_is in
    let product_is : rows * size ≡ table_size layout n = ap (λ r. r * size) rows_is ∙ ap (λ s. rows_of layout n * s) size_is in
    let rest : n + 1 + (63 - n) ≡ 64 = omega arith in
    let up = table_at_up layout (63 - n) (n + 1) in
    let last = ap (table_at layout) rest in
    fit_test false layout stream (lt-leb _ _ (omega (arith, more, here, product_is, up, last, long)))

-- ---- the columns of a row

record At (layout : Layout) (kinds : List ColumnKind) (start c : ℕ) (column : ColumnLayout) : Type 0 where
  kind : column.kind ≡ get_or kinds c columns.UInt16
  wide : column.wide ≡ is_wide layout (get_or kinds c columns.UInt16)
  size : width column.wide ≡ get_or (map (width_of layout) kinds) c 0
  offset : column.offset ≡ start + sum_by (λ w. w) (take c (map (width_of layout) kinds))
  inside : column.offset + width column.wide ≤ start + size_of_columns layout kinds

at_first : (layout : Layout) (kind : ColumnKind) (kinds : List ColumnKind) (start : ℕ)
    → At layout (kind ∷ kinds) start 0 (record { kind = kind; wide = is_wide layout kind; offset = start })
at_first layout kind kinds start =
    let sum = sum_by-cons (λ w. w) (width_of layout kind) (map (width_of layout) kinds) in
    record { kind = refl; wide = refl; size = refl; offset = omega arith; inside = omega (arith, sum) }

at_of : (layout : Layout) (kinds : List ColumnKind) (start c : ℕ) (d : ColumnLayout)
    → c < length (column_layouts layout start kinds) → At layout kinds start c (get_or (column_layouts layout start kinds) c d)
at_of layout [] start c d h = absurd (let x : ⊥ = omega arith in x)
at_of layout (kind ∷ kinds) start zero d h = at_first layout kind kinds start
at_of layout (kind ∷ kinds) start (suc c) d h =
    let a = at_of layout kinds (start + width_of layout kind) c d (omega arith) in
    let part = sum_by-cons (λ w. w) (width_of layout kind) (take c (map (width_of layout) kinds)) in
    let sum = sum_by-cons (λ w. w) (width_of layout kind) (map (width_of layout) kinds) in
    let offset = a.offset in
    let inside = a.inside in
    record { kind = a.kind; wide = a.wide; size = a.size; offset = omega (arith, part, offset); inside = omega (arith, sum, inside) }

-- a column of a table, by its number
pub record IsColumn (layout : Layout) (n c : ℕ) (column : ColumnLayout) : Type 0 where
  pub kind : column.kind ≡ kind_of n c
  pub size : width column.wide ≡ get_or (widths_of layout n) c 0
  pub offset : column.offset ≡ sum_by (λ w. w) (take c (widths_of layout n))
  pub inside : column.offset ≤ row_size layout n

column_by : (layout : Layout) (n c : ℕ) (column : ColumnLayout) → At layout (columns_of n) 0 c column → IsColumn layout n c column
unfolding widths_of row_size
column_by layout n c column a =
    let offset = a.offset in
    let inside = a.inside in
    record { kind = a.kind; size = a.size; offset = omega (arith, offset); inside = omega (arith, inside) }

pub column_of_table : (layout : Layout) (n : ℕ) (table : TableLayout) (c : ℕ) (d : ColumnLayout)
    → IsTable layout n table → c < length table.row.columns.items → IsColumn layout n c (get_or table.row.columns.items c d)
column_of_table layout n table c d t lt =
    let below : c < length (column_layouts layout 0 (columns_of n)) = subst (λ l. c < length l) t.columns lt in
    column_by layout n c _ (subst (λ l. At layout (columns_of n) 0 c (get_or l c d)) (sym t.columns)
    (at_of layout (columns_of n) 0 c d below))

layouts_length : (layout : Layout) (kinds : List ColumnKind) (start : ℕ) → length (column_layouts layout start kinds) ≡ length kinds
layouts_length layout [] start = refl
layouts_length layout (kind ∷ kinds) start = ap (λ n. suc n) (layouts_length layout kinds (start + width_of layout kind))

pub columns_length : (layout : Layout) (n : ℕ) (table : TableLayout) → IsTable layout n table
    → length table.row.columns.items ≡ length (columns_of n)
columns_length layout n table t = ap length t.columns ∙ layouts_length layout (columns_of n) 0

-- ---- its place

pub rows_inside : (layout : Layout) (n : ℕ) (table : TableLayout) → IsTable layout n table → table.at + table.rows * table.row.size ≤ 2 ^ 31
rows_inside layout n table t =
    let at = t.at in
    let inside = t.inside in
    let product_is : table.rows * table.row.size ≡ table_size layout n = ap (λ r. r * table.row.size) t.rows
    ∙ ap (λ s. rows_of layout n * s) t.row_size in
    omega (arith, at, inside, product_is)

pub row_inside : (at rows size row : ℕ) → 1 ≤ row → row ≤ rows → at + rows * size ≤ 2 ^ 31 → at + (row - 1) * size + size ≤ 2 ^ 31
row_inside at rows size row some last inside =
    let less : row - 1 + 1 ≤ rows = omega arith in
    let most = mul-le-mul_right {m = row - 1 + 1} {n = rows} size less in
    let whole : suc (row - 1) * size ≡ (row - 1) * size + size = suc-mul (row - 1) size in
    let same : (row - 1 + 1) * size ≡ suc (row - 1) * size = ap (λ k. k * size) (omega arith) in
    omega (arith, most, whole, same)

pub place_is : (layout : Layout) (n : ℕ) (table : TableLayout) (row c : ℕ) (column : ColumnLayout) (place : ℕ)
    → IsTable layout n table → IsColumn layout n c column
    → place ≡ table.at + (row - 1) * table.row.size + column.offset → place ≡ column_at layout n row c
unfolding column_at
place_is layout n table row c column place t is e =
    let at = t.at in
    let offset = is.offset in
    let product_is : (row - 1) * table.row.size ≡ (row - 1) * row_size layout n = ap (λ s. (row - 1) * s) t.row_size in
    omega (arith, e, at, offset, product_is)

-- ---- its number

pub number_is : (bytes : List ℕ) (layout : Layout) (n row c : ℕ) (column : ColumnLayout) (place number : ℕ)
    → IsColumn layout n c column → place ≡ column_at layout n row c
    → number ≡ unwrap_or (field_at (width column.wide) bytes place) 0 → number ≡ number_of bytes layout n row c
unfolding number_of
number_is bytes layout n row c column place number is at e =
    e ∙ ap (λ w. unwrap_or (field_at w bytes place) 0) is.size
    ∙ ap (λ p. unwrap_or (field_at (get_or (widths_of layout n) c 0) bytes p) 0) at

pub column_bad : (bytes : List ℕ) (layout : Layout) (n row c : ℕ) (kind : ColumnKind) (number place : ℕ) (fault : Fault)
    (falls before : Option ℕ) → kind ≡ kind_of n c → number ≡ number_of bytes layout n row c
    → place ≡ column_at layout n row c → is_valid bytes layout kind number ≡ false
    → fault ≡ record { check = 42; place = place } → IsJudged (bad_column bytes layout n row c) falls before (Err fault)
column_bad bytes layout n row c kind number place fault falls before kind_is number_same place_same bad e =
    let here : is_valid bytes layout (kind_of n c) (number_of bytes layout n row c) ≡ false =
    ap (λ k. is_valid bytes layout k (number_of bytes layout n row c)) (sym kind_is)
    ∙ ap (is_valid bytes layout kind) (sym number_same) ∙ bad in (
      ap (λ f. f.check) e,
      ap (λ b. holds_or b (column_at layout n row c)) here ∙ ap Some (sym place_same) ∙ ap (λ f. Some f.place) (sym e),
    )

pub column_good : (bytes : List ℕ) (layout : Layout) (n row c : ℕ) (table : TableLayout) (column : ColumnLayout)
    (number place : ℕ) (fell : Bool) (before after : Option ℕ) → IsTable layout n table → IsColumn layout n c column
    → number ≡ number_of bytes layout n row c → place ≡ column_at layout n row c
    → is_valid bytes layout column.kind number ≡ true
    → fell ≡ falls_from bytes table.at table.row.size row column number
    → after ≡ or_else before (holds_or (not fell) place)
    → IsJudged (bad_column bytes layout n row c) (fallen_column bytes layout n row c) before (Ok after)
column_good bytes layout n row c table column number place fell before after t is number_same place_same good fell_is after_is =
    let here : is_valid bytes layout (kind_of n c) (number_of bytes layout n row c) ≡ true =
    ap (λ k. is_valid bytes layout k (number_of bytes layout n row c)) (sym is.kind)
    ∙ ap (is_valid bytes layout column.kind) (sym number_same) ∙ good in
    let earlier : unwrap_or (field_at (width column.wide) bytes
    (table.at + (row - 1 - 1) * table.row.size + column.offset)) 0 ≡ number_of bytes layout n (row - 1) c =
    number_is bytes layout n (row - 1) c column (table.at + (row - 1 - 1) * table.row.size + column.offset) _ is
    (place_is layout n table (row - 1) c column _ t is refl) refl in
    let same : fell ≡ ((is_list (kind_of n c) && nat_lt 1 row) && falls bytes layout n row c) =
    fell_is
    ∙ ap (λ k. (is_list k && nat_lt 1 row)
    && nat_lt number (unwrap_or
    (field_at (width column.wide) bytes (table.at + (row - 1 - 1) * table.row.size + column.offset)) 0)) is.kind
    ∙ ap (λ m. (is_list (kind_of n c) && nat_lt 1 row) && nat_lt number m) earlier
    ∙ ap (λ m. (is_list (kind_of n c) && nat_lt 1 row) && nat_lt m (number_of bytes layout n (row - 1) c)) number_same in (
      ap (λ b. holds_or b (column_at layout n row c)) here,
      after_is ∙ ap (λ b. or_else before (holds_or (not b) place)) same
          ∙ ap (λ p. or_else before (holds_or (not ((is_list (kind_of n c) && nat_lt 1 row) && falls bytes layout n row c)) p)) place_same,
    )
