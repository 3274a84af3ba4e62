-- What refuses a run of files that have no fault, in the order in which it is asked.
use Rattle.std.specs.Prelude.{ℕ, ◌+◌, ◌||◌, ℤ, Bool, List, [], ◌∷◌, ◌++◌, Option, Some, None, if◌then◌else◌}
use Rattle.cli_assembly.specs.Assemblies.{Assembly, assembly_of}
use Rattle.cli_assembly.specs.Flags.{has_flag}
use Rattle.type_world.specs.declared.identity.MethodId.{MethodId}
use Rattle.type_world.specs.World.{World, first_duplicate}
use Rattle.type_world.specs.Entries.{can_start, entry_named, entry_point}
use Rattle.type_world.specs.Loading.{world_of}
use Rattle.r2r_commands.specs.RunWords.{Entry, Run}
use Rattle.r2r_commands.specs.Refusals.{Refusal, of_each, DuplicateName, NotIlOnly, NoEntry, BadArguments}

-- ---- the files

-- two files have one simple name
abbrev pub duplicate_names : Option (ℕ × ℕ) → List Refusal
duplicate_names None = []
duplicate_names (Some pair) = DuplicateName pair.0 pair.1 ∷ []

-- it has no code but CIL, or is such a library in a ReadyToRun image: COMIMAGE_FLAGS_ILONLY 1 and COMIMAGE_FLAGS_IL_LIBRARY 4 of the
-- CLI header (ECMA-335 II.25.3.3.1; ReadyToRun format)
abbrev pub is_il_only : Assembly → Bool
is_il_only assembly = has_flag assembly.flags 1 || has_flag assembly.flags 4

abbrev pub not_il_only_by : List ℕ → List ℕ → List Refusal
not_il_only_by name bytes = if is_il_only (assembly_of bytes) then [] else NotIlOnly name ∷ []

-- of each file in its order
abbrev pub not_il_only : List (List ℕ) → List (List ℕ) → List Refusal
not_il_only names files = of_each not_il_only_by names files

-- ---- the entry and the workers

-- the method that is named, or the entry point of the image
abbrev pub entry_in : World → Option Entry → Option MethodId
entry_in world None = entry_point world
entry_in world (Some entry) = entry_named world entry.type_name entry.method

abbrev pub bad_arguments_by : World → MethodId → ℕ → List ℤ → List Refusal
bad_arguments_by world entry worker numbers = if can_start world entry numbers then [] else BadArguments worker ∷ []

-- of each worker in its order, the first of which has this number
abbrev pub bad_arguments : World → MethodId → ℕ → List (List ℤ) → List Refusal
bad_arguments world entry worker [] = []
bad_arguments world entry worker (numbers ∷ workers) =
    bad_arguments_by world entry worker numbers ++ bad_arguments world entry (worker + 1) workers

abbrev pub not_started : World → List (List ℤ) → Option MethodId → List Refusal
not_started world workers None = NoEntry ∷ []
not_started world workers (Some entry) = bad_arguments world entry 0 workers

-- ---- all of it

abbrev pub file_refusals : List (List ℕ) → List (List ℕ) → List Refusal
file_refusals names files = duplicate_names (first_duplicate (world_of files)) ++ not_il_only names files

abbrev pub start_refusals : Run → World → List Refusal
start_refusals run world = not_started world run.workers (entry_in world run.entry)

unfoldable pub run_refusals : Run → List (List ℕ) → List Refusal
run_refusals run files = file_refusals (run.image ∷ run.refs) files ++ start_refusals run (world_of files)
