-- A run before its first worker starts, and how the functions that end it answer.
use Rattle.std.specs.Prelude.{◌≡◌, ℕ, List, [], ◌⊎◌, Option, Some}
use Rattle.type_world.specs.declared.identity.MethodId.{MethodId}
use Rattle.type_world.specs.Loading.{world_of}
use Rattle.cil_interp.specs.Table.{IsTable}
use Rattle.r2rdump.specs.Dump.{IsUntouched}
use Rattle.r2r_commands.specs.declared.run_file.Ready.{Ready}
use Rattle.r2r_commands.specs.Command.{Command}
use Rattle.r2r_commands.specs.RunWords.{Run}
use Rattle.r2r_commands.specs.Reading.{AllRead}
use Rattle.r2r_commands.specs.RunRefusals.{bad_arguments, entry_in}
use Rattle.r2r_commands.specs.Running.{IsRunText, result_of}
use Rattle.r2r_commands.specs.Loaded.{new_workers}
use Rattle.r2r_commands.specs.Ending.{Reply, Answers, IsReply, Prints, calls_of}

-- the run of some files, with its entry
pub record IsReadyRun (run : Run) (files : List (List ℕ)) (ready : Ready) : Type 0 where
  pub entry : MethodId
  pub is_entry : entry_in (world_of files) run.entry ≡ Some entry
  pub starts : bad_arguments (world_of files) entry 0 run.workers ≡ []
  pub world : ready.world ≡ files
  pub table : IsTable (world_of files) ready.bodies
  pub ret : ready.ret ≡ result_of (world_of files) entry
  pub workers : ready.workers.items ≡ new_workers entry run.ticks 0 run.workers

-- a text of the run was printed
pub record PrintsRun {S : Type 0} (written : S → Option (List ℕ)) (faults : S → ℕ) (run : Run) (files : List (List ℕ)) (old new : S)
    (status : ℕ) : Type 0 where
  pub whole : ℕ
  pub text : List ℕ
  pub is : IsRunText run files whole text
  pub printed : Prints written faults (Answers whole text) old new status

-- the reply to files that were read was printed
pub record PrintsOne {S : Type 0} (written : S → Option (List ℕ)) (faults : S → ℕ) (command : Command) (files : List (List ℕ))
    (old new : S) (status : ℕ) : Type 0 where
  pub reply : Reply
  pub is : IsReply command (AllRead files) reply
  pub calls : calls_of reply ≡ []
  pub printed : Prints written faults reply old new status

-- or there was no memory, and nothing was printed
abbrev pub PrintsReply : {S : Type 0} → (S → Option (List ℕ)) → (S → ℕ) → Command → List (List ℕ) → S → S → ℕ → Type 0
PrintsReply written faults command files old new status =
    PrintsOne written faults command files old new status ⊎ ((status ≡ 7) × IsUntouched written faults old new)
