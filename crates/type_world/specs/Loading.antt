-- Worlds of files: what the bytes of some files stand for, and why a list of files is no world.
use Rattle.std.specs.Prelude.{◌≡◌, ◌≤◌, ◌<◌, ℕ, List, length, map, false, Some}
use Rattle.cli_assembly.specs.Assemblies.{assembly_of}
use Rattle.type_world.specs.declared.refusal.WorldRefusal.{WorldRefusal}
use Rattle.type_world.specs.declared.refusal.WorldRefusal.TheVariants as refusals
use Rattle.type_world.specs.declared.lookups.ProfileMethod.{ProfileMethod}
use Rattle.type_world.specs.World.{World, first_duplicate}
use Rattle.type_world.specs.Profile.{Method}

unfoldable pub world_of : List (List ℕ) → World
world_of files = map assembly_of files

-- there are too many of them, or two have one simple name; want of memory is left free
abbrev pub IsRefused : List (List ℕ) → WorldRefusal → Type 0
IsRefused files (refusals.TooMany n) = (64 < length files) × (n ≡ length files)
IsRefused files (refusals.DuplicateName earlier later) = (length files ≤ 64) × (first_duplicate (world_of files) ≡ Some (earlier, later))
IsRefused files refusals.NoMemory = Unit {0}

-- a method as the Rust type has it
abbrev pub as_method : ProfileMethod → Method
as_method m = record { id = m.id; shape = m.shape.now; locals = m.locals.now; max_stack = m.max_stack; code = m.code.now; more = false }
