-- What the top call promises, and what the program does with its arguments.
use Rattle.std.specs.Prelude.{◌≡◌, ◌↔◌, ℕ, ◌≤◌, List, map, drop, String, string_bytes, None, option_and_then}
use Rattle.std.specs.Global.{Global}
use Rattle.std.specs.declared.vec.IntoIter.{IntoIter}
use Rattle.std.specs.Vec.Iter.{into_iter_items}
use Rattle.r2r_commands.specs.Command.{command_of, out_file, IfCommand}
use Rattle.r2r_commands.specs.Outside.{Outside, Takes, TakesNothing, ChangesOnly}
use Rattle.r2r_commands.specs.Refusals.{usage_line}
use Rattle.r2r_commands.specs.Ending.{Ends}
use Rattle.r2r_commands.specs.Statuses.{Statuses}
use Rattle.r2r_commands.specs.Dump.{DumpStatuses, IfDump}

-- the words of the command line: the arguments without the program's name
abbrev pub words_of : IntoIter (String Global) Global → List (List ℕ)
words_of args = map string_bytes (drop 1 (into_iter_items args))

-- What the top call promises of these words: the status that the program ends with, the output and the files.
pub record Runs (words : List (List ℕ)) (before after : Outside) (status : ℕ) : Type 0 where
  -- 1, exactly where the words are no command: the usage line is printed, and no call failed
  pub usage : (status ≡ 1) ↔ (command_of words ≡ None)
  pub usage_line : status ≡ 1 → Takes usage_line before after × (after.failed ≡ before.failed)
  -- a command comes to a reply, which is printed, or finds no memory
  pub ends : IfCommand (command_of words) (λ command. Ends command before after status)
  -- when each other status comes, and what is its cause
  pub statuses : IfCommand (command_of words) (λ command. Statuses command before after status)
  -- the same of a dump
  pub dump : IfDump (command_of words) (λ name. DumpStatuses name before after status)
  -- no file changes but the one that the command writes
  pub contents : ChangesOnly (option_and_then out_file (command_of words)) before.contents after.contents
  -- the count of the output's faults never falls
  pub never_falls : before.faults ≤ after.faults

-- There was no memory for the words: nothing was read and nothing printed.
pub record FindsNoMemory (before after : Outside) (status : ℕ) : Type 0 where
  pub ends : status ≡ 7
  pub calls : after.failed ≡ before.failed
  pub contents : after.contents ≡ before.contents
  pub untouched : TakesNothing before after
