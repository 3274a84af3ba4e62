-- Reading a whole file, writing one, and what the errors of the system are.
use Rattle.std.specs.Prelude.{◌≡◌, ◌==◌, ℕ, ◌≤◌, List, ◌++◌, length, Bool, true, false, Option, Result, Ok, Err, if◌then◌else◌}
use Rattle.std.specs.Io.KnownBytes.{Consumes}
use Rattle.std.specs.IoError.{error_kind}
use Rattle.std.specs.declared.io.Error.{Error}
use Rattle.std.specs.declared.io.ErrorKind.{ErrorKind}
use Rattle.std.specs.declared.io.ErrorKind.TheVariants.{OutOfMemory}
use Rattle.rtr_outside.specs.declared.files.FileRefusal.{FileRefusal}
use Rattle.rtr_outside.specs.declared.files.FileRefusal.TheVariants.{Failed, NoMemory}

-- n bytes were read from the reader, and are after those from before
abbrev pub AppendsRead : ℕ → List ℕ → List ℕ → Option (List ℕ) → Option (List ℕ) → Type 0
AppendsRead n before after left rest =
    (bytes : List ℕ) × (length bytes ≡ n) × (after ≡ before ++ bytes) × Consumes left rest bytes

-- at most this many bytes were read from the reader, where it exposes what it has left
abbrev pub ConsumesAtMost : ℕ → Option (List ℕ) → Option (List ℕ) → Type 0
ConsumesAtMost most left rest = (bytes : List ℕ) × (length bytes ≤ most) × Consumes left rest bytes

abbrev pub is_want_of_memory : ErrorKind → Bool
is_want_of_memory OutOfMemory = true
is_want_of_memory _ = false

-- what an error of this kind is to a call on a file
abbrev pub refusal_of : ErrorKind → FileRefusal
refusal_of kind = if is_want_of_memory kind then NoMemory else Failed

-- how many bytes a read gave, by its answer
abbrev pub read_of : Result ℕ Error → Result ℕ FileRefusal
read_of (Ok given) = Ok given
read_of (Err error) = Err (refusal_of (error_kind error))

-- how many bytes a write took, by its answer: one that took none is a failed call
abbrev pub taken_of : Result ℕ Error → Result ℕ FileRefusal
taken_of (Ok taken) = if taken == 0 then Err Failed else Ok taken
taken_of (Err error) = Err (refusal_of (error_kind error))
