-- Numbers of the names of types: names with different numbers differ, so that few names are read in a search.
use Rattle.std.specs.Prelude.{ℕ, ◌+◌, ◌*◌, ◌%◌, List, [], ◌∷◌, map, if◌then◌else◌}
use Rattle.metadata.specs.declared.schema.Table.TheVariants as tables
use Rattle.cli_assembly.specs.Assemblies.{Assembly, column, row_count}
use Rattle.std.specs.List.{range_with_len}
use Rattle.std.specs.Prelude.{Bool}
use Rattle.type_world.specs.Resolution.{is_nested}
use Rattle.type_world.specs.World.{World, rows_in, text_at}

-- the bytes as digits of base 31, by a prime
abbrev pub number_from : ℕ → List ℕ → ℕ
number_from number [] = number
number_from number (byte ∷ bytes) = number_from ((number * 31 + byte) % 16777213) bytes

-- of a namespace and a name; it is not 0
unfoldable pub outermost_number : List ℕ → List ℕ → ℕ
outermost_number namespace name = number_from (number_from 0 namespace) name + 1

-- of a name in an enclosing type
unfoldable pub nested_number : ℕ → List ℕ → ℕ
nested_number enclosing name = number_from (enclosing % 16777213) name

-- of a row of TypeDef: 0 where it is nested
abbrev pub outermost_by : Bool → Assembly → ℕ → ℕ
outermost_by nested assembly row =
    if nested then 0 else outermost_number (text_at assembly tables.TypeDef row 2) (text_at assembly tables.TypeDef row 1)

-- of a row of NestedClass, by the types that it names
abbrev pub number_of_nesting : Assembly → ℕ → ℕ
number_of_nesting assembly nesting =
    nested_number (column assembly tables.NestedClass nesting 1)
    (text_at assembly tables.TypeDef (column assembly tables.NestedClass nesting 0) 1)

-- which rows of TypeDef are nested, from row 0, which is none
unfoldable pub nested_rows : Assembly → List Bool
nested_rows assembly = map (is_nested assembly) (range_with_len 0 (row_count assembly tables.TypeDef + 1))

-- the numbers of an assembly, by row
unfoldable pub outermost_numbers : Assembly → List ℕ
outermost_numbers assembly = map (λ row. outermost_by (is_nested assembly row) assembly row) (rows_in assembly tables.TypeDef)

unfoldable pub nesting_numbers : Assembly → List ℕ
nesting_numbers assembly = map (number_of_nesting assembly) (rows_in assembly tables.NestedClass)

pub record TypeNumbers : Type 0 where
  pub outermost : List ℕ
  pub nestings : List ℕ

abbrev pub type_numbers : Assembly → TypeNumbers
type_numbers assembly = record { outermost = outermost_numbers assembly; nestings = nesting_numbers assembly }

-- and of all assemblies, by position
unfoldable pub world_numbers : World → List TypeNumbers
world_numbers world = map type_numbers world
