-- The tables of what was asked: by table and by number.
use Rattle.std.proofs.Common.{◌≡◌, ◌<◌, ◌+◌, ◌^◌, ℕ, zero, suc, List, [], ◌∷◌, length, get_or}
use Rattle.std.proofs.Common.{refl, ◌∙◌, subst, arith}
use Rattle.std.specs.Prelude.{nat_lt, IsTrue}
use Rattle.std.proofs.lemmas.Bool.{and_parts, ltb-true}
use Rattle.std.proofs.lemmas.List.{length-map}
use Rattle.std.proofs.lemmas.List.FromFn.{get_or-map-range_with_len, length-map-range_with_len}
use Rattle.metadata.specs.declared.schema.Table.{Table}
use Rattle.metadata.specs.declared.schema.Table.TheVariants as tables
use Rattle.metadata.specs.Schema.{table_number}
use Rattle.asm_builder.specs.declared.asked.Method.{Method}
use Rattle.asm_builder.specs.Asked.{Asked}
use Rattle.asm_builder.specs.Cells.{Cell, assembly_ref_cells, attribute_cells, body_size, built_tables, cells_in}
use Rattle.asm_builder.specs.Cells.{cells_of, field_cells, member_ref_cells, method_rows, tables_of, type_def_cells}
use Rattle.asm_builder.specs.Cells.{type_ref_cells, bodies_rva}
use Rattle.asm_builder.specs.Sound.{IsSound, are_few, rows_asked}

-- each table is one of 64
pub table_below : (table : Table) → table_number table < 64
table_below tables.Module = omega arith
table_below table = omega arith

-- by cases on the table, each by computation
pub in_built : (asked : Asked) (table : Table) → cells_in built_tables asked (table_number table) ≡ cells_of asked table
in_built asked tables.Module = refl
in_built asked table = refl

pub cells_at : (asked : Asked) (number : ℕ) → number < 64 → get_or (tables_of asked) number [] ≡ cells_in built_tables asked number
unfolding tables_of
cells_at asked number small = get_or-map-range_with_len (cells_in built_tables asked) 0 64 number number [] small (omega arith)

pub cells_are : (asked : Asked) (table : Table) → get_or (tables_of asked) (table_number table) [] ≡ cells_of asked table
cells_are asked table = cells_at asked (table_number table) (table_below table) ∙ in_built asked table

pub count_is : (asked : Asked) → length (tables_of asked) ≡ 64
unfolding tables_of
count_is asked = length-map-range_with_len (cells_in built_tables asked) 0 64

-- ---- how many rows there are

counted : (rows : List (List (List Cell))) (n : ℕ) → IsTrue (are_few rows) → length (get_or rows n []) < 2 ^ 24
counted [] n ok = omega arith
counted (t ∷ rows) zero ok = ltb-true (length t) (2 ^ 24) (and_parts (nat_lt (length t) (2 ^ 24)) (are_few rows) ok).0
counted (t ∷ rows) (suc n) ok = counted rows n (and_parts (nat_lt (length t) (2 ^ 24)) (are_few rows) ok).1

pub few_rows : (asked : Asked) → IsSound asked → (table : Table) → length (cells_of asked table) < 2 ^ 24
few_rows asked sound table =
    subst (λ (l : List (List Cell)). length l < 2 ^ 24) (cells_are asked table) (counted (tables_of asked) (table_number table) sound.few)

pub length-method_rows : (at : ℕ) (ms : List Method) → length (method_rows at ms) ≡ length ms
length-method_rows at [] = refl
length-method_rows at (m ∷ ms) = let rest = length-method_rows (at + body_size m) ms in omega (arith, rest)

pub counted_few : (rows : List (List (List Cell))) (n : ℕ) → IsTrue (are_few rows) → get_or (rows_asked rows) n 0 < 2 ^ 24
counted_few [] n ok = omega arith
counted_few (t ∷ rows) zero ok = ltb-true (length t) (2 ^ 24) (and_parts (nat_lt (length t) (2 ^ 24)) (are_few rows) ok).0
counted_few (t ∷ rows) (suc n) ok = counted_few rows n (and_parts (nat_lt (length t) (2 ^ 24)) (are_few rows) ok).1

module _ (asked : Asked) (sound : IsSound asked) (n : ℕ) where
  pub few_assembly_refs : n ≡ length asked.assembly_refs → n < 2 ^ 24
  few_assembly_refs e = let all = few_rows asked sound tables.AssemblyRef in let same =
      length-map asked.assembly_refs assembly_ref_cells in omega (arith, all, same, e)

  pub few_type_refs : n ≡ length asked.type_refs → n < 2 ^ 24
  few_type_refs e = let all = few_rows asked sound tables.TypeRef in let same =
      length-map asked.type_refs type_ref_cells in omega (arith, all, same, e)

  pub few_type_defs : n ≡ length asked.type_defs → n < 2 ^ 24
  few_type_defs e = let all = few_rows asked sound tables.TypeDef in let same =
      length-map asked.type_defs type_def_cells in omega (arith, all, same, e)

  pub few_fields : n ≡ length asked.fields → n < 2 ^ 24
  few_fields e = let all = few_rows asked sound tables.Field in let same =
      length-map asked.fields field_cells in omega (arith, all, same, e)

  pub few_member_refs : n ≡ length asked.member_refs → n < 2 ^ 24
  few_member_refs e = let all = few_rows asked sound tables.MemberRef in let same =
      length-map asked.member_refs member_ref_cells in omega (arith, all, same, e)

  pub few_attributes : n ≡ length asked.attributes → n < 2 ^ 24
  few_attributes e = let all = few_rows asked sound tables.CustomAttribute in let same =
      length-map asked.attributes attribute_cells in omega (arith, all, same, e)

  pub few_methods : n ≡ length asked.methods → n < 2 ^ 24
  few_methods e = let all = few_rows asked sound tables.MethodDef in let same =
      length-method_rows bodies_rva asked.methods in omega (arith, all, same, e)
