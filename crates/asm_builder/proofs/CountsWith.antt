-- The counts of rows, by number, with one row more.
use Rattle.std.proofs.Common.{◌≡◌, ◌≤◌, ◌<◌, ◌+◌, ◌/◌, ◌%◌, ◌^◌, ℕ, Bool, List, [], length, get_or, sym, ap, ◌∙◌}
use Rattle.std.proofs.Common.{inl, inr, subst, arith}
use Rattle.std.specs.Prelude.{◌&&◌, ◌==◌, nat_le, nat_lt, if◌then◌else◌}
use Rattle.std.proofs.lemmas.Bool.{cases_Bool, eqb-true, eqb-false}
use Rattle.std.proofs.lemmas.List.{get_or_past, length-map}
use Rattle.std.proofs.lemmas.List.{get_or-map}
use Rattle.metadata.specs.declared.schema.Table.{Table}
use Rattle.metadata.specs.Schema.{table_number}
use Rattle.asm_builder.specs.Asked.{Asked}
use Rattle.asm_builder.specs.Cells.{Cell, cells_of, method_rows, tables_of}
use Rattle.asm_builder.specs.declared.asked.Method.{Method}
use Rattle.asm_builder.specs.Room.{rows_in}
use Rattle.asm_builder.specs.Sound.{is_row, rows_asked}
use Rattle.asm_builder.specs.Tested.{one_more, rows_with}
use Rattle.asm_builder.proofs.Counts.{cells_at, count_is, in_built, length-method_rows, table_below}
use Rattle.asm_builder.proofs.OneRow.{more_other, more_same}

pub count_in : (a : Asked) (n : ℕ) → n < 64 → get_or (rows_asked (tables_of a)) n 0 ≡ length (rows_in a n)
unfolding rows_in
count_in a n small =
    let all = count_is a in
    get_or-map (λ (t : List (List Cell)). length t) (tables_of a) n [] 0 (omega (arith, all, small))
    ∙ ap (λ (t : List (List Cell)). length t) (cells_at a n small)

pub count_past : (a : Asked) (n : ℕ) → 64 ≤ n → get_or (rows_asked (tables_of a)) n 0 ≡ 0
count_past a n past =
    let all = count_is a in
    let same = length-map (tables_of a) (λ (t : List (List Cell)). length t) in
    get_or_past (rows_asked (tables_of a)) n 0 (omega (arith, all, same, past))

pub rows_in_is : (a : Asked) (table : Table) → length (rows_in a (table_number table)) ≡ length (cells_of a table)
unfolding rows_in
rows_in_is a table = ap (λ (t : List (List Cell)). length t) (in_built a table)

count_with : (a : Asked) (table : Table) (n : ℕ)
    → get_or (rows_with a table) n 0 ≡ get_or (rows_asked (tables_of a)) n 0 + (if n == table_number table then 1 else 0)
unfolding rows_with
count_with a table n = elim (cases_Bool (n == table_number table)) [
  | inl holds ↦
      let same = eqb-true n (table_number table) holds in
      let all = count_is a in
      let length_is = length-map (tables_of a) (λ (t : List (List Cell)). length t) in
      let small = table_below table in
      let more = more_same (table_number table) (rows_asked (tables_of a)) (omega (arith, all, length_is, small)) in
      subst (λ (b : Bool). get_or (one_more (table_number table) (rows_asked (tables_of a))) n 0
      ≡ get_or (rows_asked (tables_of a)) n 0 + (if b then 1 else 0)) (sym holds)
      (subst (λ (k : ℕ). get_or (one_more (table_number table) (rows_asked (tables_of a))) k 0
      ≡ get_or (rows_asked (tables_of a)) k 0 + 1) (sym same) more)
  | inr fails ↦
      let more = more_other (table_number table) n (rows_asked (tables_of a)) (eqb-false n (table_number table) fails) in
      subst (λ (b : Bool). get_or (one_more (table_number table) (rows_asked (tables_of a))) n 0
      ≡ get_or (rows_asked (tables_of a)) n 0 + (if b then 1 else 0)) (sym fails) (omega (arith, more))
]

pub row_is_with : (a : Asked) (table : Table) (token count : ℕ) (own : Bool) → count ≡ get_or (rows_asked (tables_of a)) (token / 2 ^ 24) 0
    → own ≡ (token / 2 ^ 24 == table_number table)
    → (nat_lt 0 (token % 2 ^ 24) && nat_le (token % 2 ^ 24) (count + (if own then 1 else 0))) ≡ is_row (rows_with a table) token
row_is_with a table token count own e o =
    let with_one = count_with a table (token / 2 ^ 24) in
    let same : count + (if own then 1 else 0) ≡ get_or (rows_with a table) (token / 2 ^ 24) 0 =
    ap (λ (n : ℕ). n + (if own then 1 else 0)) e
    ∙ ap (λ (b : Bool). get_or (rows_asked (tables_of a)) (token / 2 ^ 24) 0 + (if b then 1 else 0)) o ∙ sym with_one in
    ap (λ (n : ℕ). nat_lt 0 (token % 2 ^ 24) && nat_le (token % 2 ^ 24) n) same

pub method_rows_len : (at : ℕ) (ms : List Method) → length (method_rows at ms) ≡ length ms
method_rows_len at ms = length-method_rows at ms
