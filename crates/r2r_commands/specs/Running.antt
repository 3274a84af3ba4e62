-- What a run prints, and the status that goes with it: each worker's lines and ending are those of the run of its CIL.
use Rattle.std.specs.Prelude.{◌≡◌, ℕ, ℤ, Bool, true, false, List, map, Option, Some, if◌then◌else◌}
use Rattle.std.specs.List.{list_all}
use Rattle.std.specs.Option.{option_map_or}
use Rattle.cli_assembly.specs.declared.signature.TypeSig.{TypeSig}
use Rattle.cli_assembly.specs.declared.signature.TypeSig.TheVariants as sigs
use Rattle.cil_meaning.specs.declared.ending.Ending.{Ending}
use Rattle.cil_meaning.specs.declared.ending.Ending.TheVariants as endings
use Rattle.type_world.specs.declared.identity.MethodId.{MethodId}
use Rattle.type_world.specs.World.{World}
use Rattle.type_world.specs.Members.{signature_of}
use Rattle.type_world.specs.Loading.{world_of}
use Rattle.rtr_runner.specs.Workers.{Ended, Job, ends_as}
use Rattle.r2r_commands.specs.RunWords.{Run}
use Rattle.r2r_commands.specs.RunRefusals.{entry_in}
use Rattle.r2r_commands.specs.RunText.{workers_text}

abbrev pub job_of : MethodId → ℕ → List ℤ → Job
job_of entry ticks numbers = record { entry = entry; numbers = numbers; ticks = ticks }

-- what each worker's run comes to
abbrev pub runs_of : World → MethodId → ℕ → List (List ℤ) → List (Option Ended)
runs_of world entry ticks workers = map (λ numbers. ends_as world (job_of entry ticks numbers)) workers

-- the type of the result of a method
abbrev pub result_of : World → MethodId → TypeSig
result_of world entry = option_map_or (λ sig. sig.ret) (signature_of world entry) sigs.Void

abbrev pub is_return : Ending → Bool
is_return (endings.Return word) = true
is_return ending = false

-- 0 where each worker returned
abbrev pub status_of_runs : List Ended → ℕ
status_of_runs all = if list_all (λ ended. is_return ended.ending) all then 0 else 6

pub record IsRunText (run : Run) (files : List (List ℕ)) (status : ℕ) (text : List ℕ) : Type 0 where
  pub entry : MethodId
  pub is_entry : entry_in (world_of files) run.entry ≡ Some entry
  -- each worker's run of its CIL is over, and came to this
  pub ended : List Ended
  pub ran : runs_of (world_of files) entry run.ticks run.workers ≡ map (λ one. Some one) ended
  pub is_status : status ≡ status_of_runs ended
  pub is_text : text ≡ workers_text (result_of (world_of files) entry) 0 ended
