-- Rows by their place among those of all assemblies, and the types that every world has, by their numbers.
use Rattle.std.specs.Prelude.{ℕ, List, [], ◌∷◌, map, find, Option}
use Rattle.metadata.specs.declared.schema.Table.{Table}
use Rattle.cli_assembly.specs.declared.element.TheConstants.{ELEMS}
use Rattle.type_world.specs.declared.identity.TypeId.{TypeId}
use Rattle.type_world.specs.declared.identity.TypeId.TheVariants as types
use Rattle.type_world.specs.World.{World}
use Rattle.type_world.specs.Numbers.{is_number, place_among, rows_of_all, type_number}

-- the first row of a table that has a place among those of all assemblies, after the position of its assembly
unfoldable pub row_placed : World → Table → ℕ → Option (ℕ × ℕ)
row_placed world table place =
    find (λ at. is_number place (place_among world table at.0 at.1)) (rows_of_all world table (λ asm row. (asm, row)))

-- the types that are no rows: the built-in ones, and arrays
abbrev pub fixed_types : List TypeId
fixed_types = types.Object ∷ types.Str ∷ types.Console ∷ map types.Array ELEMS

-- the one of a number
unfoldable pub fixed_type : ℕ → Option TypeId
fixed_type n = find (λ of. is_number n (type_number [] of)) fixed_types
