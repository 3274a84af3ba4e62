-- Worlds: assemblies with distinct simple names (ECMA-335 II.6.2). Position 0 is the assembly that is run or compiled.
use Rattle.std.specs.Prelude.{◌≡◌, ◌≤◌, ◌<◌, ℕ, zero, suc, ◌+◌, ◌/◌, ◌%◌, ◌^◌, ◌==◌, ◌&&◌, Bool, false, List, []}
use Rattle.std.specs.Prelude.{length, take, sum_by, position, find, Option, Some, None, if◌then◌else◌, get_or}
use Rattle.std.specs.Option.{option_map_or}
use Rattle.std.specs.List.{range_with_len}
use Rattle.std.specs.Str.{bytes_eq}
use Rattle.metadata.specs.declared.schema.Table.{Table}
use Rattle.metadata.specs.Schema.{table_number}
use Rattle.cli_assembly.specs.Assemblies.{Assembly, assembly_name, column, has_row, row_count, string_at}

abbrev pub World : Type 0
World = List Assembly

-- an assembly without rows, so that nothing is found at a position that a world lacks
abbrev pub no_assembly : Assembly
no_assembly = record { tables = []; strings = []; user_strings = []; guids = []; blobs = []; bodies = []; flags = 0; entry_token = 0 }

unfoldable pub assembly_in : World → ℕ → Assembly
assembly_in world asm = get_or world asm no_assembly

-- ---- names are equal byte for byte

abbrev pub is_text : List ℕ → Option (List ℕ) → Bool
is_text text found = option_map_or (bytes_eq text) found false

-- a column of a row names a text of the heap of strings
unfoldable pub has_text : Assembly → Table → ℕ → ℕ → List ℕ → Bool
has_text assembly table row n text = is_text text (string_at assembly (column assembly table row n))

-- the text of a column; empty where there is none
unfoldable pub text_at : Assembly → Table → ℕ → ℕ → List ℕ
text_at assembly table row n = option_map_or (λ text. text) (string_at assembly (column assembly table row n)) []

-- ---- rows and tokens

-- the rows of a table, from 1
abbrev pub rows_in : Assembly → Table → List ℕ
rows_in assembly table = range_with_len 1 (row_count assembly table)

-- a column of a row, and the rows of a table, of the assembly at a position
abbrev pub column_in : World → ℕ → Table → ℕ → ℕ → ℕ
column_in world asm table row n = column (assembly_in world asm) table row n

abbrev pub rows_at : World → ℕ → Table → List ℕ
rows_at world asm table = rows_in (assembly_in world asm) table

-- the row of a token of a table, where it is there (II.22)
abbrev pub row_of : Assembly → Table → ℕ → Option ℕ
row_of assembly table token =
    if token / 2 ^ 24 == table_number table && has_row assembly table (token % 2 ^ 24) then Some (token % 2 ^ 24) else None

-- ---- assemblies by name, whatever their version

unfoldable pub assembly_named : World → List ℕ → Option ℕ
assembly_named world name = position (λ assembly. is_text name (assembly_name assembly)) world

-- the simple name of the assembly at a position; empty where there is none
unfoldable pub name_in : World → ℕ → List ℕ
name_in world asm = option_map_or (λ name. name) (assembly_name (assembly_in world asm)) []

-- ---- what a list of assemblies has to be

-- the first position before another one that has the same name
abbrev pub earlier_name : World → ℕ → Option ℕ
earlier_name world j = find (λ i. bytes_eq (name_in world j) (name_in world i)) (range_with_len 0 j)

-- the least position whose name an earlier one has, and the first that has it: (earlier, later)
abbrev pub duplicate_from : World → ℕ → ℕ → Option (ℕ × ℕ)
duplicate_from world j zero = None
duplicate_from world j (suc n) = option_map_or (λ i. Some (i, j)) (earlier_name world j) (duplicate_from world (j + 1) n)

unfoldable pub first_duplicate : World → Option (ℕ × ℕ)
first_duplicate world = duplicate_from world 0 (length world)

pub record IsWorld (world : World) : Type 0 where
  pub some : 0 < length world
  pub few : length world ≤ 64
  pub distinct : first_duplicate world ≡ None

-- ---- how many rows a table has in all assemblies, or in those before a position

unfoldable pub rows_of_world : World → Table → ℕ
rows_of_world world table = sum_by (λ assembly. row_count assembly table) world

unfoldable pub rows_before : World → Table → ℕ → ℕ
rows_before world table asm = rows_of_world (take asm world) table
