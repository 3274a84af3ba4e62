-- What the statuses say of a dump.
use Rattle.std.specs.Prelude.{◌≡◌, ℕ, List, [], ◌∷◌, ◌++◌, ◌⊎◌, length, nat_lt, Option, Some, None, if◌then◌else◌}
use Rattle.rtr_bytes.specs.declared.fault.Fault.{Fault}
use Rattle.rtr_outside.specs.Files.{Contents, Read, IsKnownLonger, file_limit}
use Rattle.rtr_outside.specs.Sink.{Rose}
use Rattle.r2rdump.specs.Dump.{dump_text, file_fault}
use Rattle.r2r_commands.specs.Command.{Command, Dump, Run}
use Rattle.r2r_commands.specs.Outside.{Outside, Takes, TakesWhole, TakesFront, TakesNothing}
use Rattle.r2r_commands.specs.Reading.{IsRead}
use Rattle.r2r_commands.specs.Refusals.{ReadFailed, TooLong, Malformed, line_of}
use Rattle.r2r_commands.specs.Ending.{Reply, Refuses, Answers}
use Rattle.r2r_commands.specs.Statuses.{IsOneOf}

-- where the words are a dump of a file, this holds of its name
abbrev pub IfDump : Option Command → (List ℕ → Type 0) → Type 0
IfDump None P = Unit {0}
IfDump (Some (Dump name)) P = P name
IfDump (Some (Run run)) P = Unit {0}

-- what a dump of a file's bytes comes to, by their first fault
abbrev pub dump_reply : List ℕ → List ℕ → Option Fault → Reply
dump_reply name bytes None = Answers 0 (dump_text name bytes)
dump_reply name bytes (Some fault) = Refuses (Malformed name fault)

-- the file was read, and this holds of its bytes
abbrev pub OfBytes : Option Contents → List ℕ → (List ℕ → Type 0) → Type 0
OfBytes contents name P = (bytes : List ℕ) × IsRead contents name bytes × P bytes

-- the files expose that the name has these bytes; that there is no such name
abbrev pub Exposes : Option Contents → List ℕ → List ℕ → Type 0
Exposes None name bytes = ⊥
Exposes (Some files) name bytes = files name ≡ Some bytes

abbrev pub ExposesNone : Option Contents → List ℕ → Type 0
ExposesNone None name = ⊥
ExposesNone (Some files) name = files name ≡ None

-- what a dump of a file with these bytes may end with, where no read fails: want of memory is always among it
abbrev pub statuses_by_fault : Option Fault → List ℕ
statuses_by_fault None = 0 ∷ 5 ∷ 7 ∷ []
statuses_by_fault (Some fault) = 3 ∷ 7 ∷ []

abbrev pub statuses_of : List ℕ → List ℕ
statuses_of bytes = if nat_lt file_limit (length bytes) then 4 ∷ 7 ∷ [] else statuses_by_fault (file_fault bytes)

pub record DumpStatuses (name : List ℕ) (before after : Outside) (result : ℕ) : Type 0 where
  pub status : IsOneOf (0 ∷ 2 ∷ 3 ∷ 4 ∷ 5 ∷ 7 ∷ []) result
  -- 0: no check fails, and the whole text was written
  pub dumped : result ≡ 0 → OfBytes before.contents name (λ bytes.
      (file_fault bytes ≡ None) × TakesWhole (dump_text name bytes) before after)
  -- 2: the failed calls gained the read of this file
  pub read_failed : result ≡ 2 → (after.failed ≡ before.failed ++ Read name ∷ []) × Takes (line_of (ReadFailed name)) before after
  -- 3: a check fails, and the line names the first fault
  pub malformed : result ≡ 3 → OfBytes before.contents name (λ bytes.
      (fault : Fault) × (file_fault bytes ≡ Some fault)
      × Takes (line_of (Malformed name fault)) before after)
  -- 4: the file is above the limit
  pub too_long : result ≡ 4 → IsKnownLonger file_limit before.contents name × Takes (line_of (TooLong name)) before after
  -- 5: the output had a fault while the text was written, and took a prefix of it
  pub write_fault : result ≡ 5 → Rose before.faults after.faults × OfBytes before.contents name (λ bytes.
      (file_fault bytes ≡ None) × TakesFront (dump_text name bytes) before after)
  -- 7: nothing was written, and the output had no fault
  pub no_memory : result ≡ 7 → TakesNothing before after
  -- where the files expose their bytes and no read failed, those of the file decide
  pub exposed : (bytes : List ℕ) → Exposes before.contents name bytes → after.failed ≡ before.failed
      → IsOneOf (statuses_of bytes) result
  pub missing : ExposesNone before.contents name → IsOneOf (2 ∷ 7 ∷ []) result
  -- the failed calls gain nothing, or this read, and then the status says so
  pub failed_calls : (after.failed ≡ before.failed)
      ⊎ ((after.failed ≡ before.failed ++ Read name ∷ []) × IsOneOf (2 ∷ 7 ∷ []) result)
