-- The methods that the rows of MemberRef name, as they are kept: for each row what the definitions answer.
use Rattle.std.specs.Prelude.{ℕ, List, Option, length, map}
use Rattle.std.specs.List.{range_with_len}
use Rattle.metadata.specs.declared.schema.Table.TheVariants as tables
use Rattle.type_world.specs.declared.identity.MethodId.{MethodId}
use Rattle.type_world.specs.World.{World, rows_at}
use Rattle.type_world.specs.Members.{member_method}

-- of one assembly, by row
unfoldable pub member_methods_of : World → ℕ → List (Option MethodId)
member_methods_of world asm = map (member_method world asm) (rows_at world asm tables.MemberRef)

-- of all, by position
abbrev pub member_methods_in : World → List (List (Option MethodId))
member_methods_in world = map (member_methods_of world) (range_with_len 0 (length world))
