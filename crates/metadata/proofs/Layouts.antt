-- The columns and the tables by place.
use Rattle.std.proofs.Common.{◌≡◌, ℕ, zero, suc, ◌+◌, ◌*◌, ◌<◌, ◌≤◌, ◌==◌, Bool, true, false, cond, List, [], ◌∷◌, ◌++◌}
use Rattle.std.proofs.Common.{length, drop, get_or, map, refl, sym, ap, ◌∙◌, arith, append_assoc, append-nil, drop-cons}
use Rattle.std.specs.Prelude.{sum_by, filter}
use Rattle.std.specs.List.{range_with_len}
use Rattle.std.proofs.lemmas.List.{drop_all}
use Rattle.std.proofs.lemmas.List.Sums.{sum_by-cons, sum_by_push}
use Rattle.metadata.specs.declared.layout.ColumnLayout.{ColumnLayout}
use Rattle.metadata.specs.declared.schema.Column.{Column}
use Rattle.metadata.specs.declared.schema.ColumnKind.{ColumnKind}
use Rattle.metadata.specs.Kept.{column_layouts, size_of_columns}
use Rattle.metadata.specs.Schema.{columns_in, table_number}
use Rattle.metadata.specs.Tables.{Layout, is_wide, table_at, table_size, width_of}

-- ---- tables one after the other

range_more : (a n : ℕ) → range_with_len a (suc n) ≡ range_with_len a n ++ (a + n) ∷ []
range_more a zero = ap (λ k. k ∷ []) (omega arith)
range_more a (suc n) =
    let next : a + 1 + n ≡ a + suc n = omega arith in
    ap (λ l. a ∷ l) (range_more (a + 1) n ∙ ap (λ k. range_with_len (a + 1) n ++ k ∷ []) next)

pub table_at_more : (layout : Layout) (n : ℕ) → table_at layout (n + 1) ≡ table_at layout n + table_size layout n
unfolding table_at
table_at_more layout n =
    let more : n + 1 ≡ suc n = omega arith in
    let grown = ap (λ k. sum_by (table_size layout) (range_with_len 0 k)) more
    ∙ ap (λ l. sum_by (table_size layout) l) (range_more 0 n) ∙ sum_by_push (table_size layout) (range_with_len 0 n) (0 + n) in
    let here : table_size layout (0 + n) ≡ table_size layout n = ap (table_size layout) (omega arith) in
    omega (arith, grown, here)

pub table_at_first : (layout : Layout) → table_at layout 0 ≡ layout.rows_at
unfolding table_at
table_at_first layout = omega arith

pub table_at_up : (layout : Layout) (k n : ℕ) → table_at layout n ≤ table_at layout (n + k)
table_at_up layout zero n = let same = ap (table_at layout) (let e : n + 0 ≡ n = omega arith in e) in omega (arith, same)
table_at_up layout (suc k) n =
    let ih = table_at_up layout k n in
    let more = table_at_more layout (n + k) in
    let same : table_at layout (n + k + 1) ≡ table_at layout (n + suc k) = ap (table_at layout) (omega arith) in
    omega (arith, ih, more, same)

-- ---- the columns of a row one after the other

kinds_or : (b : Bool) (c : Column) (rest : List Column)
    → map (λ c. c.kind) (cond b (c ∷ rest) rest) ≡ cond b (c.kind ∷ map (λ c. c.kind) rest) (map (λ c. c.kind) rest)
kinds_or true c rest = refl
kinds_or false c rest = refl

columns_left : (columns : List Column) (i table : ℕ) (d : Column) → i < length columns →
    columns_in (drop i columns) table
    ≡ cond (table_number (get_or columns i d).table == table)
    ((get_or columns i d).kind ∷ columns_in (drop (i + 1) columns) table) (columns_in (drop (i + 1) columns) table)
columns_left columns i table d lt =
    let next : suc i ≡ i + 1 = omega arith in
    ap (λ l. columns_in l table) (drop-cons columns i d lt)
    ∙ kinds_or (table_number (get_or columns i d).table == table) (get_or columns i d)
    (filter (λ c. table_number c.table == table) (drop (suc i) columns))
    ∙ ap (λ k. cond (table_number (get_or columns i d).table == table)
    ((get_or columns i d).kind ∷ columns_in (drop k columns) table) (columns_in (drop k columns) table)) next

-- some columns of a row and their size, and what is left of it
pub record Rowed (layout : Layout) (columns : List Column) (table i : ℕ) (list : List ColumnLayout) (size : ℕ) : Type 0 where
  pub list_is : list ++ column_layouts layout size (columns_in (drop i columns) table) ≡ column_layouts layout 0 (columns_in columns table)
  pub size_is : size + size_of_columns layout (columns_in (drop i columns) table) ≡ size_of_columns layout (columns_in columns table)
  pub few : size ≤ 4 * i

pub rowed_none : (layout : Layout) (columns : List Column) (table : ℕ) → Rowed layout columns table 0 [] 0
rowed_none layout columns table = record { list_is = refl; size_is = omega arith; few = omega arith }

pub rowed_other : (layout : Layout) (columns : List Column) (table i : ℕ) (list : List ColumnLayout) (size : ℕ)
    (d : Column) → i < length columns → (table_number (get_or columns i d).table == table) ≡ false
    → Rowed layout columns table i list size → Rowed layout columns table (i + 1) list size
rowed_other layout columns table i list size d lt other r =
    let kinds = columns_in (drop (i + 1) columns) table in
    let left : columns_in (drop i columns) table ≡ kinds = columns_left columns i table d lt
    ∙ ap (λ b. cond b ((get_or columns i d).kind ∷ kinds) kinds) other in
    let size_is = r.size_is in
    let left_size = ap (size_of_columns layout) left in
    let few = r.few in
    record {
      list_is = ap (λ ks. list ++ column_layouts layout size ks) (sym left) ∙ r.list_is;
      size_is = omega (arith, size_is, left_size);
      few = omega (arith, few);
    }

width_few : (layout : Layout) (kind : ColumnKind) → width_of layout kind ≤ 4
width_few layout kind = bound (is_wide layout kind)
  where
    bound : (b : Bool) → cond b 4 2 ≤ 4
    bound true = omega arith
    bound false = omega arith

pub rowed_more : (layout : Layout) (columns : List Column) (table i : ℕ) (list : List ColumnLayout) (size : ℕ)
    (d : Column) → i < length columns → (table_number (get_or columns i d).table == table) ≡ true
    → Rowed layout columns table i list size
    → Rowed layout columns table (i + 1)
    (list ++ record { kind = (get_or columns i d).kind; wide = is_wide layout (get_or columns i d).kind; offset = size }
    ∷ []) (size + width_of layout (get_or columns i d).kind)
rowed_more layout columns table i list size d lt same r =
    let kinds = columns_in (drop (i + 1) columns) table in
    let kind = (get_or columns i d).kind in
    let left : columns_in (drop i columns) table ≡ kind ∷ kinds = columns_left columns i table d lt
    ∙ ap (λ b. cond b (kind ∷ kinds) kinds) same in
    let size_is = r.size_is in
    let left_size = ap (size_of_columns layout) left ∙ sum_by-cons (λ w. w) (width_of layout kind) (map (width_of layout) kinds) in
    let few = r.few in
    let narrow = width_few layout kind in
    record {
      list_is =
          append_assoc list (record { kind = kind; wide = is_wide layout kind; offset = size } ∷ [])
          (column_layouts layout (size + width_of layout kind) kinds)
          ∙ ap (λ ks. list ++ column_layouts layout size ks) (sym left)
          ∙ r.list_is;
      size_is = omega (arith, size_is, left_size);
      few = omega (arith, few, narrow);
    }

pub rowed_all : (layout : Layout) (columns : List Column) (table i : ℕ) (list : List ColumnLayout) (size : ℕ)
    → length columns ≤ i → Rowed layout columns table i list size
    → (list ≡ column_layouts layout 0 (columns_in columns table)) × (size ≡ size_of_columns layout (columns_in columns table))
rowed_all layout columns table i list size all r =
    let none : columns_in (drop i columns) table ≡ [] = ap (λ l. columns_in l table) (drop_all i columns all) in
    let size_is = r.size_is in
    let left_size = ap (size_of_columns layout) none in
    (sym (ap (λ ks. list ++ column_layouts layout size ks) none ∙ append-nil list) ∙ r.list_is, omega (arith, size_is, left_size))
