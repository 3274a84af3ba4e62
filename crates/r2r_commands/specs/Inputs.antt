-- How the functions that read a command's inputs answer.
use Rattle.std.specs.Prelude.{◌≡◌, ℕ, List, ◌++◌, map, Option, Result, Ok, Err, Vec, vec_items}
use Rattle.std.specs.Global.{Global}
use Rattle.rtr_outside.specs.Files.{Contents, Call, IsKnownLonger, file_limit}
use Rattle.r2r_commands.specs.declared.refusals.Stop.{Stop}
use Rattle.r2r_commands.specs.declared.refusals.Stop.TheVariants as stops
use Rattle.r2r_commands.specs.Reading.{OverMost, Failed, OverLimit, AllRead, ComesTo, IsRead}
use Rattle.r2r_commands.specs.Refusals.{Refusal, TooMany, ReadFailed, TooLong, failed_calls, meaning}

-- ---- one file

-- the read of the file came to this refusal
abbrev pub IsInputRefusal : Option Contents → List ℕ → Refusal → Type 0
IsInputRefusal contents name (ReadFailed read) = read ≡ name
IsInputRefusal contents name (TooLong read) = (read ≡ name) × IsKnownLonger file_limit contents name
IsInputRefusal contents name _ = ⊥

abbrev pub IsInputAnswer : Option Contents → List Call → List Call → List ℕ → Result (Vec ℕ Global) Stop → Type 0
IsInputAnswer contents old new name (Ok bytes) = (new ≡ old) × IsRead contents name bytes.items
IsInputAnswer contents old new name (Err (stops.Refused refusal)) =
    (new ≡ old ++ failed_calls (meaning refusal)) × IsInputRefusal contents name (meaning refusal)
IsInputAnswer contents old new name (Err stops.NoMemory) = new ≡ old

-- ---- files in their order

-- the reading of files of these names came to this refusal
abbrev pub IsStoppedBy : Option Contents → List (List ℕ) → Refusal → Type 0
IsStoppedBy contents names (TooMany n) = ComesTo contents names (OverMost n)
IsStoppedBy contents names (ReadFailed name) = ComesTo contents names (Failed name)
IsStoppedBy contents names (TooLong name) = ComesTo contents names (OverLimit name)
IsStoppedBy contents names _ = ⊥

abbrev pub IsReadAnswer : Option Contents → List Call → List Call → List (List ℕ) → Result (Vec (Vec ℕ Global) Global) Stop → Type 0
IsReadAnswer contents old new names (Ok files) = (new ≡ old) × ComesTo contents names (AllRead (map vec_items files.items))
IsReadAnswer contents old new names (Err (stops.Refused refusal)) =
    (new ≡ old ++ failed_calls (meaning refusal)) × IsStoppedBy contents names (meaning refusal)
IsReadAnswer contents old new names (Err stops.NoMemory) = new ≡ old
