-- What a world keeps of each of its assemblies, resolved as it is made: for each row what the definitions answer.
use Rattle.std.specs.Prelude.{ℕ, List, Option, length, map}
use Rattle.std.specs.List.{range_with_len}
use Rattle.metadata.specs.declared.schema.Table.TheVariants as tables
use Rattle.std.specs.Option.{option_or}
use Rattle.cli_assembly.specs.Kept.{answer_of}
use Rattle.type_world.specs.declared.identity.TypeId.{TypeId}
use Rattle.type_world.specs.World.{World, rows_at}
use Rattle.type_world.specs.Resolution.{by_scope, method_class, resolve_ref}

-- of one assembly
pub record Kept : Type 0 where
  -- the type that each row of TypeRef names
  pub type_refs : List (Option TypeId)
  -- the type that declares each row of MethodDef
  pub method_classes : List (Option TypeId)

unfoldable pub kept_of : World → ℕ → Kept
kept_of world asm = record {
  type_refs = map (resolve_ref world asm) (rows_at world asm tables.TypeRef);
  method_classes = map (method_class world asm) (rows_at world asm tables.MethodDef);
}

-- of all, by position
abbrev pub kept_in : World → List Kept
kept_in world = map (kept_of world) (range_with_len 0 (length world))

-- one more round over the rows of TypeRef: a row that has an answer keeps it, and another one is resolved by the answers so far
abbrev pub next_ref : World → ℕ → List (Option TypeId) → ℕ → Option TypeId
next_ref world asm known row = option_or (answer_of known row) (by_scope world asm (answer_of known) row)
