-- What the functions that spell rows need: indexes and counts that fit their types.
use Rattle.std.specs.Prelude.{ℕ, ◌<◌, ◌^◌, ◌&&◌, Bool, List, length, nat_lt}
use Rattle.asm_builder.specs.declared.asked.TypeDef.{TypeDef}
use Rattle.asm_builder.specs.Asked.{Asked}
use Rattle.asm_builder.specs.Cells.{Cell, built_tables, cells_in}
use Rattle.asm_builder.specs.Content.{Heaps}

-- an index into either heap, and the length of each blob, is below 2^29
abbrev pub AreShort : Heaps → Type 0
AreShort heaps = (length heaps.strings < 2 ^ 29) × (length heaps.blobs < 2 ^ 29)

-- the numbers of a type's first field and method are one more than these
abbrev pub begins_early : TypeDef → Bool
begins_early t = nat_lt t.fields_before (2 ^ 24) && nat_lt t.methods_before (2 ^ 24)

-- the rows of a table, by its number
unfoldable pub rows_in : Asked → ℕ → List (List Cell)
rows_in asked number = cells_in built_tables asked number
