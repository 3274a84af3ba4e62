-- The lists of types ascend, and end in the listed table.
use Rattle.std.proofs.Common.{◌≡◌, ℕ, zero, suc, ◌+◌, ◌-◌, ◌<◌, ◌≤◌, ◌&&◌, ⊎_elim, Bool, true, false, cond, List, [], length, get_or}
use Rattle.std.proofs.Common.{refl, sym, ap, ◌∙◌, arith}
use Rattle.std.specs.Prelude.{nat_lt, not}
use Rattle.std.proofs.lemmas.Bool.{cases_lt, le-ltb, leb-true, lt-ltb, ltb-false}
use Rattle.std.proofs.lemmas.List.{get_or_past}
use Rattle.metadata.specs.declared.schema.Table.{Table}
use Rattle.metadata.specs.declared.schema.Table.TheVariants as tables
use Rattle.metadata.specs.declared.schema.ColumnKind.{ColumnKind}
use Rattle.metadata.specs.declared.schema.ColumnKind.TheVariants as columns
use Rattle.metadata.specs.Checks.{fallen_column, falls, is_list, kind_of}
use Rattle.metadata.specs.Schema.{columns_of}
use Rattle.metadata.specs.Tables.{Layout, column_at, number_of, rows_of}
use Rattle.cli_assembly.specs.Assemblies.{Assembly, assembly_by, assembly_of, column, fields_of, list_end, list_start}
use Rattle.cli_assembly.specs.Assemblies.{methods_of, row_count, rows_between, table_in}
use Rattle.cli_assembly.specs.Kept.{file_layout}
use Rattle.cli_assembly.specs.Named.{AreNamed, Ascends, IsWellFormed, ListsAscend, is_named}
use Rattle.cli_assembly.proofs.Coded.{few}
use Rattle.cli_assembly.proofs.Named.{columns_named, of_file}
use Rattle.cli_assembly.proofs.Passed.{Passes, each_column, holds}
use Rattle.cli_assembly.proofs.Records.{column_is, rows_are}

-- ---- the rows of a list, by its ends

pub fields_between : (assembly : Assembly) (row start end : ℕ) → start ≡ list_start assembly row 4
    → end ≡ list_end assembly tables.Field row 4 → rows_between start end ≡ fields_of assembly row
unfolding fields_of
fields_between assembly row start end e f = rw (e, f) refl

pub methods_between : (assembly : Assembly) (row start end : ℕ) → start ≡ list_start assembly row 5
    → end ≡ list_end assembly tables.MethodDef row 5 → rows_between start end ≡ methods_of assembly row
unfolding methods_of
methods_between assembly row start end e f = rw (e, f) refl

-- ---- where there is no row

no_row : (assembly : Assembly) (table : Table) (row n : ℕ) → row_count assembly table ≤ row → column assembly table (suc row) n ≡ 0
unfolding column
no_row assembly table row n past = ap (λ (l : List ℕ). get_or l n 0) (get_or_past (table_in assembly table) row [] past)

first_row : (assembly : Assembly) (table : Table) (n : ℕ) → column assembly table zero n ≡ 0
unfolding column
first_row assembly table n = refl

-- ---- a list begins in the listed table, or at its end

abbrev AreInside : Assembly → Table → ℕ → Type 0
AreInside assembly listed n = (row : ℕ) → 1 ≤ row → row ≤ row_count assembly tables.TypeDef
    → column assembly tables.TypeDef row n ≤ row_count assembly listed + 1

is_inside : (assembly : Assembly) (kind : ColumnKind) (listed : Table) (value : ℕ) → kind ≡ columns.List listed
    → is_named assembly kind value ≡ true → value ≤ row_count assembly listed + 1
is_inside assembly kind listed value is named =
    leb-true value (row_count assembly listed + 1) (sym (ap (λ k. is_named assembly k value) is) ∙ named)

inside : (assembly : Assembly) (listed : Table) (n : ℕ) → AreNamed assembly → n < length (columns_of 2) → kind_of 2 n ≡ columns.List listed
    → AreInside assembly listed n
inside assembly listed n named below is row first last =
    is_inside assembly (kind_of 2 n) listed (column assembly tables.TypeDef row n) is (named tables.TypeDef row n first last below)

start_inside : (assembly : Assembly) (listed : Table) (n row : ℕ) → AreInside assembly listed n
    → list_start assembly row n ≤ row_count assembly listed + 1
start_inside assembly listed n zero all = omega (arith, first_row assembly tables.TypeDef n)
start_inside assembly listed n (suc row) all =
    ⊎_elim (λ lt. let here = all (suc row) (omega arith) (omega (arith, lt)) in omega (arith, here))
    (λ past. omega (arith, no_row assembly tables.TypeDef row n past))
    (cases_lt row (row_count assembly tables.TypeDef))

-- ---- a list doesn't begin before the one of the row before

stays : (a b c : Bool) → a ≡ true → b ≡ true → not ((a && b) && c) ≡ true → c ≡ false
stays true true true e f g = absurd (let x : ⊥ = cc in x)
stays true true false e f g = refl
stays true false c e f g = absurd (let x : ⊥ = cc in x)
stays false b c e f g = absurd (let x : ⊥ = cc in x)

not_fallen : (bytes : List ℕ) (layout : Layout) (row n : ℕ) → Passes bytes layout → n < length (columns_of 2)
    → is_list (kind_of 2 n) ≡ true → 1 ≤ row → row < rows_of layout 2
    → number_of bytes layout 2 row n ≤ number_of bytes layout 2 (row + 1) n
not_fallen bytes layout row n p below list first last =
    let fallen : Bool = falls bytes layout 2 (row + 1) n in
    let up : not ((is_list (kind_of 2 n) && nat_lt 1 (row + 1)) && fallen) ≡ true =
    holds _ (column_at layout 2 (row + 1) n)
    (each_column layout (fallen_column bytes layout) 2 (row + 1) n p.ascends (omega arith) (omega arith) (omega (arith, last)) below) in
    let later : nat_lt 1 (row + 1) ≡ true = lt-ltb 1 (row + 1) (omega (arith, first)) in
    let before : row + 1 - 1 ≡ row = omega arith in
    let same : number_of bytes layout 2 (row + 1 - 1) n ≡ number_of bytes layout 2 row n = ap (λ r. number_of bytes layout 2 r n) before in
    let not_less = ltb-false (number_of bytes layout 2 (row + 1) n) (number_of bytes layout 2 (row + 1 - 1) n)
    (stays (is_list (kind_of 2 n)) (nat_lt 1 (row + 1)) fallen list later up) in
    omega (arith, not_less, same)

abbrev AreInOrder : Assembly → ℕ → Type 0
AreInOrder assembly n = (row : ℕ) → suc row < row_count assembly tables.TypeDef
    → column assembly tables.TypeDef (suc row) n ≤ column assembly tables.TypeDef (suc row + 1) n

in_order : (bytes : List ℕ) (layout : Layout) (n : ℕ) → Passes bytes layout → n < length (columns_of 2) → is_list (kind_of 2 n) ≡ true
    → AreInOrder (assembly_by bytes layout) n
in_order bytes layout n p below list row lt =
    let rows : row_count (assembly_by bytes layout) tables.TypeDef ≡ rows_of layout 2 =
    rows_are bytes layout tables.TypeDef (few tables.TypeDef) in
    let here = column_is bytes layout tables.TypeDef row n (few tables.TypeDef) (omega (arith, lt, rows)) below in
    let next = column_is bytes layout tables.TypeDef (suc row) n (few tables.TypeDef) (omega (arith, lt, rows)) below in
    let up = not_fallen bytes layout (row + 1) n p below list (omega arith) (omega (arith, lt, rows)) in
    let a : suc row + 1 ≡ suc (suc row) = omega arith in
    let b : suc row + 1 ≡ row + 1 + 1 = omega arith in
    let after : column (assembly_by bytes layout) tables.TypeDef (suc row + 1) n ≡ number_of bytes layout 2 (row + 1 + 1) n =
    ap (λ r. column (assembly_by bytes layout) tables.TypeDef r n) a ∙ next ∙ ap (λ r. number_of bytes layout 2 r n) b in
    omega (arith, here, after, up)

-- ---- both, for each row

end_by : (assembly : Assembly) (listed : Table) (row n : ℕ) (b : Bool) → nat_lt row (row_count assembly tables.TypeDef) ≡ b
    → list_end assembly listed row n ≡ cond b (list_start assembly (row + 1) n) (row_count assembly listed + 1)
end_by assembly listed row n b e = ap (λ c. cond c (list_start assembly (row + 1) n) (row_count assembly listed + 1)) e

ascends_in : (assembly : Assembly) (listed : Table) (n row : ℕ) → AreInside assembly listed n → AreInOrder assembly n
    → row < row_count assembly tables.TypeDef → list_start assembly row n ≤ list_start assembly (row + 1) n
ascends_in assembly listed n zero all order lt = omega (arith, first_row assembly tables.TypeDef n)
ascends_in assembly listed n (suc row) all order lt = let up = order row lt in omega (arith, up)

ascends : (assembly : Assembly) (listed : Table) (n : ℕ) → AreInside assembly listed n → AreInOrder assembly n → Ascends assembly listed n
ascends assembly listed n all order row =
    ⊎_elim
    (λ lt. let end = end_by assembly listed row n true (lt-ltb row (row_count assembly tables.TypeDef) lt) in
    let up = ascends_in assembly listed n row all order lt in
    let last = start_inside assembly listed n (row + 1) all in
    (omega (arith, end, up), omega (arith, end, last)))
    (λ past. let end = end_by assembly listed row n false (le-ltb row (row_count assembly tables.TypeDef) past) in
    let first = start_inside assembly listed n row all in
    (omega (arith, end, first), omega (arith, end)))
    (cases_lt row (row_count assembly tables.TypeDef))

file_order : (bytes : List ℕ) (n : ℕ) → IsWellFormed bytes → n < length (columns_of 2) → is_list (kind_of 2 n) ≡ true
    → AreInOrder (assembly_of bytes) n
unfolding assembly_of
file_order bytes n e below list = in_order bytes (file_layout bytes) n (of_file bytes e) below list

pub lists_ascend : (bytes : List ℕ) → IsWellFormed bytes → ListsAscend (assembly_of bytes)
unfolding columns_of
lists_ascend bytes e =
    let assembly = assembly_of bytes in
    let named = columns_named bytes e in
    record {
      fields = ascends assembly tables.Field 4 (inside assembly tables.Field 4 named (omega arith) refl)
          (file_order bytes 4 e (omega arith) refl);
      methods = ascends assembly tables.MethodDef 5 (inside assembly tables.MethodDef 5 named (omega arith) refl)
          (file_order bytes 5 e (omega arith) refl);
    }
