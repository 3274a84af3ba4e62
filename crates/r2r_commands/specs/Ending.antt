-- How a command ends: what it comes to, what is printed, and the status.
use Rattle.std.specs.Prelude.{◌≡◌, ℕ, List, [], ◌∷◌, ◌++◌, ◌⊎◌, Contains, Option, Some, None}
use Rattle.rtr_bytes.specs.declared.fault.Fault.{Fault}
use Rattle.rtr_outside.specs.Files.{Call, Read, Write}
use Rattle.rtr_outside.specs.Sink.{Appends}
use Rattle.r2rdump.specs.Dump.{dump_text, file_fault, IsUntouched}
use Rattle.r2r_commands.specs.Command.{Command, Dump, Run, inputs, out_file}
use Rattle.r2r_commands.specs.Outside.{Outside, written_of, faults_of, CutsShort, PrintsText, TakesNothing}
use Rattle.r2r_commands.specs.Reading.{Reading, OverMost, Failed, OverLimit, AllRead, ComesTo}
use Rattle.r2r_commands.specs.RunRefusals.{run_refusals}
use Rattle.r2r_commands.specs.Running.{IsRunText}
use Rattle.r2r_commands.specs.Refusals.{Refusal, of_each, TooMany, ReadFailed, TooLong, Malformed, status_of, line_of}
use Rattle.r2r_commands.specs.Refusals.{failed_calls, write_failed_line}

-- ---- what refuses a command

-- the first fault of a file, where it has one
abbrev pub malformed_by : List ℕ → Option Fault → List Refusal
malformed_by name None = []
malformed_by name (Some fault) = Malformed name fault ∷ []

-- of each file in its order
abbrev pub malformed : List (List ℕ) → List (List ℕ) → List Refusal
malformed names files = of_each (λ name bytes. malformed_by name (file_fault bytes)) names files

-- the conditions of a command on files that have no fault
abbrev pub conditions : Command → List (List ℕ) → List Refusal
conditions (Dump name) files = []
conditions (Run run) files = run_refusals run files

-- All that refuses a command, in the order in which it is asked. The first decides.
abbrev pub refusals : Command → Reading → List Refusal
refusals command (OverMost n) = TooMany n ∷ []
refusals command (Failed name) = ReadFailed name ∷ []
refusals command (OverLimit name) = TooLong name ∷ []
refusals command (AllRead files) = malformed (inputs command) files ++ conditions command files

-- ---- what a command prints

-- a text that a command may print of its files where nothing refuses it, and the status that goes with it
abbrev pub IsText : Command → List (List ℕ) → ℕ → List ℕ → Type 0
IsText (Dump name) (bytes ∷ []) status text = (status ≡ 0) × (text ≡ dump_text name bytes)
IsText (Dump name) _ status text = ⊥
IsText (Run run) files status text = IsRunText run files status text

-- what a command comes to
pub data Reply : Type 0 where
  -- it is refused
  Refuses : Refusal → Reply
  -- it prints a text, and ends with this status where the text was written whole
  Answers : ℕ → List ℕ → Reply
  -- the write of its file, which has this name, failed
  FailsToWrite : List ℕ → Reply

-- what a command may come to where nothing refuses it
abbrev pub IsAnswer : Command → Reading → Reply → Type 0
IsAnswer command (AllRead files) (Answers status text) = IsText command files status text
IsAnswer command (AllRead files) (FailsToWrite name) = out_file command ≡ Some name
IsAnswer command _ _ = ⊥

-- the first refusal decides, and where there is none the reply is an answer
abbrev pub Decides : List Refusal → Type 0 → Reply → Type 0
Decides [] IsAnswer reply = IsAnswer
Decides (refusal ∷ later) IsAnswer reply = reply ≡ Refuses refusal

abbrev pub IsReply : Command → Reading → Reply → Type 0
IsReply command reading reply = Decides (refusals command reading) (IsAnswer command reading reply) reply

-- ---- how it is printed, and what the program ends with

-- A line may be cut short, and the status stays. A text that is cut short is a write fault.
abbrev pub Prints : {S : Type 0} → (S → Option (List ℕ)) → (S → ℕ) → Reply → S → S → ℕ → Type 0
Prints written faults (Refuses refusal) old new status = (status ≡ status_of refusal) × PrintsText written faults (line_of refusal) old new
Prints written faults (Answers whole text) old new status =
    ((status ≡ whole) × Appends text (written old) (written new)) ⊎ ((status ≡ 5) × CutsShort written faults text old new)
Prints written faults (FailsToWrite name) old new status = (status ≡ 5) × PrintsText written faults (write_failed_line name) old new

-- the reply was printed, or there was no memory for it, and nothing was printed
abbrev pub PrintsIfMemory : {S : Type 0} → (S → Option (List ℕ)) → (S → ℕ) → Reply → S → S → ℕ → Type 0
PrintsIfMemory written faults reply old new status =
    Prints written faults reply old new status ⊎ ((status ≡ 7) × IsUntouched written faults old new)

-- the calls that fail for a reply
abbrev pub calls_of : Reply → List Call
calls_of (Refuses refusal) = failed_calls refusal
calls_of (Answers status text) = []
calls_of (FailsToWrite name) = Write name ∷ []

-- the read of an input of the command, or the write of the file that it writes
abbrev pub IsCallOf : Command → Call → Type 0
IsCallOf command (Read name) = Contains (inputs command) name
IsCallOf command (Write name) = out_file command ≡ Some name

-- the failed calls gained nothing, or one of the command's
abbrev pub GainsAtMostOne : Command → List Call → List Call → Type 0
GainsAtMostOne command old new = (new ≡ old) ⊎ ((call : Call) × IsCallOf command call × (new ≡ old ++ call ∷ []))

pub data Ends (command : Command) (before after : Outside) (status : ℕ) : Type 0 where
  -- the inputs were read, which came to this reply, and it was printed
  Replies : (reading : Reading) → (reply : Reply) → ComesTo before.contents (inputs command) reading → IsReply command reading reply
      → after.failed ≡ before.failed ++ calls_of reply → Prints written_of faults_of reply before after status
      → Ends command before after status
  -- there was no memory, and nothing was printed
  FindsNoMemory : status ≡ 7 → TakesNothing before after → GainsAtMostOne command before.failed after.failed
      → Ends command before after status
