-- Why a command is refused. Each refusal has a status, a line that is printed, and the call that failed, where one did.
use Rattle.std.specs.Prelude.{ℕ, List, [], ◌∷◌, ◌++◌, codes, decimal}
use Rattle.rtr_bytes.specs.declared.fault.Fault.{Fault}
use Rattle.rtr_outside.specs.Files.{Call, Read}
use Rattle.rtr_outside.specs.Text.{printed_name, newline}
use Rattle.r2r_commands.specs.declared.refusals.Refusal.{Refusal as Raised}
use Rattle.r2r_commands.specs.declared.refusals.Refusal.TheVariants as raised

pub data Refusal : Type 0 where
  -- so many files are named
  TooMany : ℕ → Refusal
  -- the read of this file failed
  ReadFailed : List ℕ → Refusal
  -- this file is above the limit
  TooLong : List ℕ → Refusal
  -- this file has this fault
  Malformed : List ℕ → Fault → Refusal
  -- the files of these numbers have one simple name
  DuplicateName : ℕ → ℕ → Refusal
  -- this file has neither CLI flag 1 nor 4
  NotIlOnly : List ℕ → Refusal
  -- the image has no such entry
  NoEntry : Refusal
  -- the worker of this number has arguments that the entry does not take
  BadArguments : ℕ → Refusal

-- the number that the process ends with
abbrev pub status_of : Refusal → ℕ
status_of (TooMany n) = 4
status_of (ReadFailed name) = 2
status_of (TooLong name) = 4
status_of (Malformed name fault) = 3
status_of (DuplicateName i j) = 4
status_of (NotIlOnly name) = 4
status_of NoEntry = 4
status_of (BadArguments worker) = 4

-- the line that is printed
abbrev pub line_of : Refusal → List ℕ
line_of (TooMany n) = codes "refused: TooMany " ++ decimal n ++ newline
line_of (ReadFailed name) = codes "read failed: " ++ printed_name name ++ newline
line_of (TooLong name) = codes "refused: TooLong " ++ printed_name name ++ newline
line_of (Malformed name fault) =
    codes "malformed: " ++ printed_name name ++ codes " check " ++ decimal fault.check ++ codes " at " ++ decimal fault.place ++ newline
line_of (DuplicateName i j) = codes "refused: DuplicateName " ++ decimal i ++ codes " " ++ decimal j ++ newline
line_of (NotIlOnly name) = codes "refused: NotIlOnly " ++ printed_name name ++ newline
line_of NoEntry = codes "refused: NoEntry" ++ newline
line_of (BadArguments worker) = codes "refused: BadArguments " ++ decimal worker ++ newline

-- the call that failed, where one did
abbrev pub failed_calls : Refusal → List Call
failed_calls (ReadFailed name) = Read name ∷ []
failed_calls _ = []

-- what is printed where the file that a command writes could not be written
abbrev pub write_failed_line : List ℕ → List ℕ
write_failed_line name = codes "write failed: " ++ printed_name name ++ newline

-- what is printed where the words are no command
abbrev pub usage_line : List ℕ
usage_line = codes "usage: r2r compile IN -o OUT [--ref F].. [--fields cell|burn] | run IMAGE [--ref F].. [--entry T::M] [--worker A,B].. [--ticks N] [--cells] | dump FILE | big N\n"

abbrev pub meaning : Raised → Refusal
meaning (raised.TooMany n) = TooMany n
meaning (raised.ReadFailed name) = ReadFailed name.now
meaning (raised.TooLong name) = TooLong name.now
meaning (raised.Malformed name fault) = Malformed name.now fault
meaning (raised.DuplicateName i j) = DuplicateName i j
meaning (raised.NotIlOnly name) = NotIlOnly name.now
meaning raised.NoEntry = NoEntry
meaning (raised.BadArguments worker) = BadArguments worker

-- what refuses each file by its name and its bytes, in their order
abbrev pub of_each : (List ℕ → List ℕ → List Refusal) → List (List ℕ) → List (List ℕ) → List Refusal
of_each by (name ∷ names) (bytes ∷ files) = by name bytes ++ of_each by names files
of_each by _ _ = []
