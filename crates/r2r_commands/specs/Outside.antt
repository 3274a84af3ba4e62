-- What is seen of the outside at one moment, and what the output takes between two.
use Rattle.std.specs.Prelude.{◌≡◌, ℕ, List, ◌⊎◌, Option, Some, None}
use Rattle.rtr_outside.specs.Files.{Contents, Call, LeavesOthers}
use Rattle.rtr_outside.specs.Sink.{Appends, PrintsFront, Rose}
use Rattle.r2rdump.specs.Dump.{IsUntouched}

pub record Outside : Type 0 where
  -- the bytes of each file, where the files expose them
  pub contents : Option Contents
  -- the calls of the files that failed, in their order
  pub failed : List Call
  -- the bytes that the output has taken, where it exposes them
  pub written : Option (List ℕ)
  -- how many faults the output has had
  pub faults : ℕ

-- what is seen of these files and this output
abbrev pub seen : {F S : Type 0} → (F → Option Contents) → (F → List Call) → (S → Option (List ℕ)) → (S → ℕ) → F → S → Outside
seen contents failed written faults files out =
    record { contents = contents files; failed = failed files; written = written out; faults = faults out }

-- ---- the output, before and after

-- it had a fault and took a prefix of the text
abbrev pub CutsShort : {S : Type 0} → (S → Option (List ℕ)) → (S → ℕ) → List ℕ → S → S → Type 0
CutsShort written faults text old new = Rose (faults old) (faults new) × PrintsFront written text old new

-- it took the text whole, or had a fault and took a prefix of it
abbrev pub PrintsText : {S : Type 0} → (S → Option (List ℕ)) → (S → ℕ) → List ℕ → S → S → Type 0
PrintsText written faults text old new = Appends text (written old) (written new) ⊎ CutsShort written faults text old new

-- the same, as it is seen
abbrev pub written_of : Outside → Option (List ℕ)
written_of outside = outside.written

abbrev pub faults_of : Outside → ℕ
faults_of outside = outside.faults

abbrev pub TakesWhole : List ℕ → Outside → Outside → Type 0
TakesWhole text before after = Appends text before.written after.written

abbrev pub TakesFront : List ℕ → Outside → Outside → Type 0
TakesFront text before after = CutsShort written_of faults_of text before after

abbrev pub Takes : List ℕ → Outside → Outside → Type 0
Takes text before after = PrintsText written_of faults_of text before after

abbrev pub TakesNothing : Outside → Outside → Type 0
TakesNothing before after = IsUntouched written_of faults_of before after

-- ---- the files, before and after

-- no file has other bytes than before, but the one that is written
abbrev pub ChangesOnly : Option (List ℕ) → Option Contents → Option Contents → Type 0
ChangesOnly None old new = new ≡ old
ChangesOnly (Some name) old new = LeavesOthers name old new
