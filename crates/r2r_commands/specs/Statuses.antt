-- When each status of a command comes, and what is its cause.
use Rattle.std.specs.Prelude.{◌≡◌, ℕ, ◌==◌, List, [], ◌∷◌, ◌++◌, ◌⊎◌, IsTrue, Option, Some}
use Rattle.std.specs.List.{list_any}
use Rattle.rtr_bytes.specs.declared.fault.Fault.{Fault}
use Rattle.rtr_outside.specs.Files.{Contents, Call, Read, Write}
use Rattle.rtr_outside.specs.Sink.{Rose}
use Rattle.r2r_commands.specs.Command.{Command, inputs, out_file}
use Rattle.r2r_commands.specs.Outside.{Outside, Takes, TakesWhole, TakesFront, TakesNothing}
use Rattle.r2r_commands.specs.Reading.{Reading, AllRead, Failed, ComesTo, IsReached, exposed_reading}
use Rattle.r2r_commands.specs.Refusals.{Refusal, ReadFailed, Malformed, status_of, line_of, write_failed_line}
use Rattle.r2r_commands.specs.Ending.{refusals, IsText, IsCallOf}

abbrev pub IsOneOf : List ℕ → ℕ → Type 0
IsOneOf statuses result = IsTrue (list_any (λ status. status == result) statuses)

-- the inputs were read, and this is the first that refuses the command
pub record IsRefused (command : Command) (contents : Option Contents) (refusal : Refusal) : Type 0 where
  pub reading : Reading
  pub read : ComesTo contents (inputs command) reading
  pub later : List Refusal
  pub first : refusals command reading ≡ refusal ∷ later

-- each input was read, and nothing refuses the command
pub record IsUnrefused (command : Command) (contents : Option Contents) : Type 0 where
  pub files : List (List ℕ)
  pub read : ComesTo contents (inputs command) (AllRead files)
  pub unrefused : refusals command (AllRead files) ≡ []

-- each input was read, nothing refuses the command, and this is a text of it, with the status that goes with it
pub record HasText (command : Command) (contents : Option Contents) (status : ℕ) (text : List ℕ) : Type 0 where
  pub files : List (List ℕ)
  pub read : ComesTo contents (inputs command) (AllRead files)
  pub unrefused : refusals command (AllRead files) ≡ []
  pub text_of : IsText command files status text

-- what a command may end with, by what refuses it: want of memory is always among it
abbrev pub allowed : List Refusal → List ℕ
allowed [] = 0 ∷ 5 ∷ 6 ∷ 7 ∷ []
allowed (refusal ∷ later) = status_of refusal ∷ 7 ∷ []

pub record Statuses (command : Command) (before after : Outside) (status : ℕ) : Type 0 where
  pub known : IsOneOf (0 ∷ 2 ∷ 3 ∷ 4 ∷ 5 ∷ 6 ∷ 7 ∷ []) status
  -- 0 and 6: the whole text was written, and the status is that of the text
  pub written : (status ≡ 0) ⊎ (status ≡ 6) → (text : List ℕ) × HasText command before.contents status text × TakesWhole text before after
  -- 2: the read of an input failed, each before it was read, and the line names it
  pub read_failed : status ≡ 2 → (name : List ℕ) × IsReached before.contents (inputs command) name
      × (after.failed ≡ before.failed ++ Read name ∷ []) × Takes (line_of (ReadFailed name)) before after
  -- 3: each input was read, and the line names the first that has a fault, and its first fault
  pub malformed : status ≡ 3 → (name : List ℕ) × (fault : Fault) × IsRefused command before.contents (Malformed name fault)
      × Takes (line_of (Malformed name fault)) before after
  -- 4: a named condition holds, and it is the first that refuses the command
  pub refused : status ≡ 4 → (refusal : Refusal) × (status_of refusal ≡ 4) × IsRefused command before.contents refusal
      × Takes (line_of refusal) before after
  -- 5: the output had a fault while a text was written, and took a prefix of it; or the write of the command's file failed, and the
  -- line names it
  pub write_fault : status ≡ 5
      → (Rose before.faults after.faults
      × ((whole : ℕ) × (text : List ℕ) × HasText command before.contents whole text × TakesFront text before after))
      ⊎ ((name : List ℕ) × (out_file command ≡ Some name) × IsUnrefused command before.contents
      × (after.failed ≡ before.failed ++ Write name ∷ []) × Takes (write_failed_line name) before after)
  -- 7: nothing was written, and the output had no fault
  pub no_memory : status ≡ 7 → TakesNothing before after
  -- the failed calls gain at most one, and then the status says so: the read of an input, or the write of the file that is written
  pub failed_calls : (after.failed ≡ before.failed)
      ⊎ ((call : Call) × IsCallOf command call × (after.failed ≡ before.failed ++ call ∷ []) × IsOneOf (2 ∷ 5 ∷ 7 ∷ []) status)
  -- where the files expose their bytes and no call failed, those of the inputs decide
  pub exposed : (contents : Contents) → before.contents ≡ Some contents → after.failed ≡ before.failed
      → IsOneOf (allowed (refusals command (exposed_reading contents (inputs command)))) status
  -- where they expose that an input is not there, and each before it is within the limit
  pub missing : (contents : Contents) → before.contents ≡ Some contents
      → (name : List ℕ) → exposed_reading contents (inputs command) ≡ Failed name → IsOneOf (2 ∷ 7 ∷ []) status
