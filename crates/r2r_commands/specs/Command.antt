-- The commands, and the words that are each.
use Rattle.std.specs.Prelude.{ℕ, List, [], ◌∷◌, codes, Option, Some, None, option_map, if◌then◌else◌}
use Rattle.std.specs.Str.{bytes_eq}
use Rattle.r2r_commands.specs.declared.command.Command.{Command as Parsed}
use Rattle.r2r_commands.specs.declared.command.Command.TheVariants as parsed
use Rattle.r2r_commands.specs.Words.{is_positional}
use Rattle.r2r_commands.specs.RunWords.{Run as Asked, run_of}

-- what the words ask for; a file is named by the bytes of its name
pub data Command : Type 0 where
  Dump : List ℕ → Command
  Run : Asked → Command

-- `dump` takes one file
abbrev pub dump_of : List (List ℕ) → Option Command
dump_of (file ∷ []) = if is_positional file then Some (Dump file) else None
dump_of _ = None

-- `run` has words of its own
unfoldable pub run_command : List (List ℕ) → Option Command
run_command words = option_map Run (run_of words)

-- the command is the first word
abbrev pub command_of : List (List ℕ) → Option Command
command_of [] = None
command_of (command ∷ words) =
    if bytes_eq command (codes "dump") then dump_of words
    else if bytes_eq command (codes "run") then run_command words
    else None

-- the files that a command reads, in their order
abbrev pub inputs : Command → List (List ℕ)
inputs (Dump name) = name ∷ []
inputs (Run run) = run.image ∷ run.refs

-- the file that a command writes, where there is one
abbrev pub out_file : Command → Option (List ℕ)
out_file (Dump name) = None
out_file (Run run) = None

-- where the words are a command, this holds of it
abbrev pub IfCommand : Option Command → (Command → Type 0) → Type 0
IfCommand None P = Unit {0}
IfCommand (Some command) P = P command

abbrev pub meaning : Parsed → Option Command
meaning parsed.Usage = None
meaning (parsed.Dump file) = Some (Dump file.now)
meaning (parsed.Run words) = Some (Run words)
