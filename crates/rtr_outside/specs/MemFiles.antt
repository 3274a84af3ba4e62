-- What files in memory are seen as, and when their calls fail.
use Rattle.std.specs.Prelude.{◌≡◌, ◌⊎◌, ℕ, List, Contains, None, Result, Ok, Err, refl}
use Rattle.std.specs.Coded.{Coded, code_by, coded×, coded⊎, coded_ℕ, coded_list}
use Rattle.std.proofs.Common.{inl, inr}
use Rattle.rtr_outside.specs.declared.files.FileRefusal.{FileRefusal}
use Rattle.rtr_outside.specs.declared.files.FileRefusal.TheVariants.{Failed, TooLong, NoMemory}
use Rattle.rtr_outside.specs.Files.{Call, Read, Write}
use Rattle.rtr_outside.specs.Counts.{one_more}
use Rattle.rtr_outside.specs.Named.{FileMap, file_map_code, bytes_of}

pub record FilesInMemory : Type 0 where
  -- the bytes of each name
  pub files : FileMap
  -- the numbers, from 0, of the calls that fail
  pub fails : List ℕ
  -- the number of the next call, which stays at 2^64 - 1 once it is there
  pub calls : ℕ
  -- the calls that failed, in their order
  pub failed : List Call

-- the next call is one of those that fail
abbrev pub IsToFail : FilesInMemory → Type 0
IsToFail m = Contains m.fails m.calls

-- a read of this name fails: it is one of the calls that fail, or there is no such name
abbrev pub ReadFails : FilesInMemory → List ℕ → Type 0
ReadFails m name = IsToFail m ⊎ (bytes_of m.files name ≡ None)

-- the number of the next call, where this one gave its answer: a call that finds no memory isn't counted
abbrev pub number_after : {T : Type 0} → Result T FileRefusal → ℕ → ℕ
number_after (Ok x) number = one_more number
number_after (Err Failed) number = one_more number
number_after (Err TooLong) number = one_more number
number_after (Err NoMemory) number = number

-- `Failed` is the answer exactly where this holds, but for want of memory
abbrev pub FailsExactlyWhere : {T : Type 0} → Type 0 → Result T FileRefusal → Type 0
FailsExactlyWhere P (Ok x) = ¬ P
FailsExactlyWhere P (Err Failed) = P
FailsExactlyWhere P (Err TooLong) = ¬ P
FailsExactlyWhere P (Err NoMemory) = Unit {0}

-- ---- how a proof stores a value

abbrev pub name_of : Call → List ℕ ⊎ List ℕ
name_of (Read name) = inl name
name_of (Write name) = inr name

abbrev pub call_of_name : List ℕ ⊎ List ℕ → Call
call_of_name (inl name) = Read name
call_of_name (inr name) = Write name

pub call_of_name-name_of : (call : Call) → call_of_name (name_of call) ≡ call
call_of_name-name_of (Read name) = refl
call_of_name-name_of (Write name) = refl

abbrev pub call_code : Coded Call
call_code =
    code_by (List ℕ ⊎ List ℕ) (coded⊎ (coded_list coded_ℕ) (coded_list coded_ℕ)) name_of call_of_name call_of_name-name_of

abbrev pub files_code : Coded FilesInMemory
files_code =
    code_by ((FileMap × List ℕ) × (ℕ × List Call))
    (coded× (coded× file_map_code (coded_list coded_ℕ)) (coded× coded_ℕ (coded_list call_code)))
    (λ m. ((m.files, m.fails), (m.calls, m.failed)))
    (λ p. record { files = p.0.0; fails = p.0.1; calls = p.1.0; failed = p.1.1 })
    (λ _. refl)
