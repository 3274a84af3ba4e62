-- A method's code as its instructions.
use Rattle.std.specs.Prelude.{◌≡◌, ◌<◌, ◌≤◌, ◌⊎◌, ℕ, ◌+◌, ◌^◌, ◌==◌, not, Bool, List, [], ◌∷◌, length, find, Option}
use Rattle.std.specs.Prelude.{Some, None, Result, Ok, Err, slice_index, get_or, false}
use Rattle.std.specs.Option.{option_map}
use Rattle.std.specs.List.{list_all, list_any}
use Rattle.std.specs.Global.{Vec}
use Rattle.cil_decode.specs.declared.instr.Arg.{Arg}
use Rattle.cil_decode.specs.declared.instr.Arg.TheVariants as args
use Rattle.cil_decode.specs.declared.instr.Instr.{Instr}
use Rattle.cil_decode.specs.declared.body.BodyRefusal.{BodyRefusal}
use Rattle.cil_decode.specs.declared.body.BodyRefusal.TheVariants as refusals
use Rattle.cil_decode.specs.Instructions.{instr_at, instr_size}

-- instructions one after the other, from an offset up to another
abbrev pub Follow : List ℕ → ℕ → List Instr → ℕ → Type 0
Follow code at [] end = at ≡ end
Follow code at (i ∷ is) end = (instr_at code at ≡ Ok i) × Follow code (at + instr_size i) is end

-- ---- targets

abbrev pub targets_of : Arg → List ℕ
targets_of (args.Target at) = at ∷ []
targets_of (args.Targets targets) = targets
targets_of arg = []

-- an offset at which one of the instructions begins
abbrev pub is_start : List Instr → ℕ → Bool
is_start list at = list_any (λ i. i.at == at) list

-- each target is such an offset
abbrev pub is_linked : List Instr → Instr → Bool
is_linked list i = list_all (is_start list) (targets_of i.arg)

-- the offset of the first of some instructions with another target
abbrev pub first_unlinked_of : List Instr → List Instr → Option ℕ
first_unlinked_of list some = option_map (λ i. i.at) (find (λ i. not (is_linked list i)) some)

abbrev pub first_unlinked : List Instr → Option ℕ
first_unlinked list = first_unlinked_of list list

-- ---- the whole

-- a code that has bytes is these instructions, from its first byte to its last
pub record IsCode (code : List ℕ) (list : List Instr) : Type 0 where
  pub some : 0 < length code
  pub follow : Follow code 0 list (length code)

-- and each of their targets is the offset of one of them
pub record IsBody (code : List ℕ) (list : List Instr) : Type 0 where
  pub code_is : IsCode code list
  pub linked : first_unlinked list ≡ None

-- An instruction that can't be read, after those that can. At the end of a code that has bytes none is read.
pub record Breaks (code : List ℕ) (e : BodyRefusal) : Type 0 where
  pub before : List Instr
  pub at : ℕ
  pub follow : Follow code 0 before at
  pub more : (at < length code) ⊎ (length code ≡ 0)
  pub broken : instr_at code at ≡ Err e

-- all can be read, and the first with a bad target is at an offset
pub record IsUnlinked (code : List ℕ) (at : ℕ) : Type 0 where
  pub list : List Instr
  pub code_is : IsCode code list
  pub first : first_unlinked list ≡ Some at

-- why a code is refused; want of memory is left free
abbrev pub IsRefused : List ℕ → BodyRefusal → Type 0
IsRefused code (refusals.Cut at) = Breaks code (refusals.Cut at)
IsRefused code (refusals.OutOfProfile at) = Breaks code (refusals.OutOfProfile at)
IsRefused code (refusals.BadTarget at) = IsUnlinked code at
IsRefused code refusals.NoMemory = Unit {0}

-- a refusal for the first bad target
abbrev pub IsUnlinkedBy : Option ℕ → BodyRefusal → Type 0
IsUnlinkedBy first (refusals.BadTarget at) = first ≡ Some at
IsUnlinkedBy first refusals.NoMemory = Unit {0}
IsUnlinkedBy first e = ⊥

-- ---- one answer

-- it is the list, or memory was refused
abbrev pub GivesBody : Result (Vec Instr) BodyRefusal → List Instr → Type 0
GivesBody (Ok v) list = v.items ≡ list
GivesBody (Err e) list = e ≡ refusals.NoMemory

-- it is the refusal, or memory was refused
abbrev pub IsFreely : BodyRefusal → BodyRefusal → Type 0
IsFreely refusals.NoMemory e = Unit {0}
IsFreely f e = (e ≡ refusals.NoMemory) ⊎ (f ≡ e)

abbrev pub GivesRefusal : Result (Vec Instr) BodyRefusal → BodyRefusal → Type 0
GivesRefusal (Ok v) e = e ≡ refusals.NoMemory
GivesRefusal (Err f) e = IsFreely f e

-- ---- written again

-- each number of the list is a byte
abbrev pub AreBytes : List ℕ → Type 0
AreBytes bytes = (i : ℕ) → slice_index bytes i < 256

-- some code of at most 2^31 bytes decodes to these instructions
pub record IsDecoded (list : List Instr) : Type 0 where
  pub code : List ℕ
  pub bytes : AreBytes code
  pub small : length code ≤ 2 ^ 31
  pub body : IsBody code list

-- which offsets are marked as starts
abbrev pub Marks : List Bool → List Instr → Type 0
Marks marks list = (at : ℕ) → get_or marks at false ≡ is_start list at
