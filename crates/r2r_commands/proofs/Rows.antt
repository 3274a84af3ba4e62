-- An entry is a row of the assembly at position 0.
use Rattle.std.proofs.Common.{◌≡◌, ◌<◌, ℕ, List, Option, Some, None, sym, subst, arith}
use Rattle.std.specs.Prelude.{IfSome, option_map}
use Rattle.metadata.specs.declared.schema.Table.TheVariants as tables
use Rattle.type_world.specs.declared.identity.MethodId.{MethodId}
use Rattle.type_world.specs.World.{World, assembly_in, row_of}
use Rattle.type_world.specs.Members.{method_id}
use Rattle.type_world.specs.Entries.{entry_named, entry_point}

of_row : (row : Option ℕ) → IfSome (option_map (method_id 0) row) (λ entry. entry.asm < 64)
of_row None = tt
of_row (Some row) = omega arith

point_row : (world : World) → IfSome (entry_point world) (λ entry. entry.asm < 64)
unfolding entry_point
point_row world = of_row (row_of (assembly_in world 0) tables.MethodDef (assembly_in world 0).entry_token)

named_row : (world : World) (class name : List ℕ) → IfSome (entry_named world class name) (λ entry. entry.asm < 64)
unfolding entry_named
named_row world class name = of_row _

pub point_found : (world : World) (found : Option MethodId) → found ≡ entry_point world → IfSome found (λ entry. entry.asm < 64)
point_found world found e = subst (λ (one : Option MethodId). IfSome one (λ entry. entry.asm < 64)) (sym e) (point_row world)

pub named_found : (world : World) (class name : List ℕ) (found : Option MethodId) → found ≡ entry_named world class name
    → IfSome found (λ entry. entry.asm < 64)
named_found world class name found e =
    subst (λ (one : Option MethodId). IfSome one (λ entry. entry.asm < 64)) (sym e) (named_row world class name)
