-- What files are seen as: the bytes of each name, where they expose them, and the calls that failed.
use Rattle.std.specs.Prelude.{◌≡◌, ◌≢◌, ℕ, ◌<◌, List, [], ◌∷◌, ◌++◌, length, Option, Some, None, Result, Ok, Err}
use Rattle.rtr_outside.specs.declared.files.FileRefusal.{FileRefusal}
use Rattle.rtr_outside.specs.declared.files.FileRefusal.TheVariants.{Failed, TooLong, NoMemory}

-- the most bytes that a file may have: 16 MiB
abbrev pub file_limit : ℕ
file_limit = 16777216

-- a call, by the bytes of its file's name
pub data Call : Type 0 where
  Read : List ℕ → Call
  Write : List ℕ → Call

-- the bytes of each name, none for a name that isn't there
abbrev pub Contents : Type 0
Contents = List ℕ → Option (List ℕ)

-- the failed calls after this one gave its answer
abbrev pub calls_after : {T : Type 0} → Call → Result T FileRefusal → List Call → List Call
calls_after call (Ok x) calls = calls
calls_after call (Err Failed) calls = calls ++ call ∷ []
calls_after call (Err TooLong) calls = calls
calls_after call (Err NoMemory) calls = calls

-- where the files expose their bytes, the name has these
abbrev pub IsKnownAs : Option Contents → List ℕ → List ℕ → Type 0
IsKnownAs None name bytes = Unit {0}
IsKnownAs (Some files) name bytes = files name ≡ Some bytes

-- where the files expose their bytes, the name has more than this many
abbrev pub IsKnownLonger : ℕ → Option Contents → List ℕ → Type 0
IsKnownLonger limit None name = Unit {0}
IsKnownLonger limit (Some files) name = (bytes : List ℕ) × (files name ≡ Some bytes) × (limit < length bytes)

-- the files expose their bytes both before and after or neither, and every other name has what it had
abbrev pub LeavesOthers : List ℕ → Option Contents → Option Contents → Type 0
LeavesOthers name None None = Unit {0}
LeavesOthers name (Some old) (Some new) = (other : List ℕ) → other ≢ name → new other ≡ old other
LeavesOthers name None (Some new) = ⊥
LeavesOthers name (Some old) None = ⊥
