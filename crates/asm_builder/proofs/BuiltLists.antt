-- The rows of a type's own: after those before it, up to those before the next.
use Rattle.std.proofs.Common.{◌≡◌, ◌+◌, ◌-◌, ℕ, true, false, cond, List}
use Rattle.std.proofs.Common.{length, map, get_or, Some, inl, inr, sym, ap, ◌∙◌, arith}
use Rattle.std.specs.Prelude.{max, nat_lt, slice_get}
use Rattle.std.specs.List.{range_with_len}
use Rattle.std.proofs.lemmas.Bool.{cases_lt, le-ltb, lt-ltb}
use Rattle.std.proofs.lemmas.List.{get_or-map, get_or_past, length-map}
use Rattle.std.proofs.lemmas.Option.{slice_get-get_or, slice_get_within, get_or_from_slice_get}
use Rattle.metadata.specs.declared.schema.Table.{Table}
use Rattle.metadata.specs.declared.schema.Table.TheVariants as tables
use Rattle.cli_assembly.specs.Assemblies.{Assembly, column, list_end, list_rows, list_start, row_count}
use Rattle.asm_builder.specs.Built.{own_rows}

max_one : (n : ℕ) → max 1 (n + 1) ≡ n + 1
max_one n = omega arith

-- the columns of all types say so many rows, and one more, of which the listed table has `all`
module _ {X : Type 0} (a : Assembly) (listed : Table) (n : ℕ) (before : X → ℕ) (types : List X) (all : ℕ)
    (count : row_count a tables.TypeDef ≡ length types) (last : row_count a listed ≡ all)
    (starts : (i : ℕ) (t : X) → slice_get types i ≡ Some t → column a tables.TypeDef (i + 1) n ≡ before t + 1) where
  start_is : (i : ℕ) (t : X) → slice_get types i ≡ Some t → list_start a (i + 1) n ≡ before t + 1
  start_is i t e = ap (λ k. max 1 k) (starts i t e) ∙ max_one (before t)

  before_is : (i : ℕ) (t : X) (d : ℕ) → slice_get types i ≡ Some t → get_or (map before types) i d ≡ before t
  before_is i t d e = get_or-map before types i t d (slice_get_within types i t e) ∙ ap before (get_or_from_slice_get types i t t e)

  end_is : (i : ℕ) (t : X) → slice_get types i ≡ Some t → list_end a listed (i + 1) n ≡ get_or (map before types) (i + 1) all + 1
  end_is i t e = elim (cases_lt (i + 1) (length types)) [
    | inl more ↦
        let there : nat_lt (i + 1) (row_count a tables.TypeDef) ≡ true = lt-ltb _ _ (omega (arith, more, count)) in
        let next = slice_get-get_or types (i + 1) t more in
        ap (λ b. cond b (list_start a (i + 1 + 1) n) (row_count a listed + 1)) there
        ∙ start_is (i + 1) (get_or types (i + 1) t) next
        ∙ ap (λ k. k + 1) (sym (before_is (i + 1) (get_or types (i + 1) t) all next))
    | inr past ↦
        let gone : nat_lt (i + 1) (row_count a tables.TypeDef) ≡ false = le-ltb _ _ (omega (arith, past, count)) in
        let size = length-map types before in
        ap (λ b. cond b (list_start a (i + 1 + 1) n) (row_count a listed + 1)) gone
        ∙ ap (λ k. k + 1) (last ∙ sym (get_or_past (map before types) (i + 1) all (omega (arith, size, past))))
  ]

  pub own_are : (i : ℕ) (t : X) → slice_get types i ≡ Some t → list_rows a listed (i + 1) n ≡ own_rows (map before types) all i
  own_are i t e =
      let start = start_is i t e in
      let first = before_is i t 0 e in
      let end = end_is i t e in
      let from : list_start a (i + 1) n ≡ get_or (map before types) i 0 + 1 = start ∙ ap (λ k. k + 1) (sym first) in
      let size : list_end a listed (i + 1) n - list_start a (i + 1) n
      ≡ get_or (map before types) (i + 1) all - get_or (map before types) i 0 = omega (arith, end, from) in
      ap (λ k. range_with_len k (list_end a listed (i + 1) n - list_start a (i + 1) n)) from
      ∙ ap (range_with_len (get_or (map before types) i 0 + 1)) size
