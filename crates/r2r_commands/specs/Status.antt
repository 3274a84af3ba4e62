-- The numbers of the statuses.
use Rattle.std.specs.Prelude.{ℕ}
use Rattle.r2r_commands.specs.declared.status.Status.{Status}
use Rattle.r2r_commands.specs.declared.status.Status.TheVariants.{Done, Usage, ReadFailed, Malformed, Refused, WriteFault, NotReturned, NoMemory}

-- the number that the process ends with
abbrev pub code_of : Status → ℕ
code_of Done = 0
code_of Usage = 1
code_of ReadFailed = 2
code_of Malformed = 3
code_of Refused = 4
code_of WriteFault = 5
code_of NotReturned = 6
code_of NoMemory = 7
