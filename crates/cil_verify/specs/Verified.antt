-- Methods that verify, and why others do not.
use Rattle.std.specs.Prelude.{◌≡◌, ℕ, List, Option, Some, None, true, is_some, length}
use Rattle.std.specs.Option.{option_and_then}
use Rattle.cil_decode.specs.declared.instr.Instr.{Instr}
use Rattle.type_world.specs.declared.identity.MethodId.{MethodId}
use Rattle.type_world.specs.World.{World}
use Rattle.type_world.specs.Profile.{Method, instrs_of, profile_method}
use Rattle.cil_meaning.specs.Typing.{Typing, first_untyped, typing_of}
use Rattle.cil_meaning.specs.Laws.{HasTyping, IsFirstUntyped, IsLeast}
use Rattle.cil_verify.specs.declared.verifier.VerifyRefusal.{VerifyRefusal}
use Rattle.cil_verify.specs.declared.verifier.VerifyRefusal.TheVariants as refusals

-- what is seen of a method that verifies
pub record Verified : Type 0 where
  pub method : MethodId
  pub instrs : List Instr
  pub typing : Typing

-- ---- of a method that meets each condition of the profile but that it verifies: its instructions, its typing, and the least offset of
-- an instruction up to which it has none

abbrev pub instrs_in : World → MethodId → Option (List Instr)
instrs_in world id = option_and_then (λ m. instrs_of m.code) (profile_method world id)

abbrev pub typing_in : World → MethodId → Option Typing
typing_in world id = option_and_then (typing_of world) (profile_method world id)

abbrev pub first_untyped_in : World → MethodId → Option ℕ
first_untyped_in world id = option_and_then (first_untyped world) (profile_method world id)

-- ---- why a method has no typing; want of memory is left free

pub record IsUntyped (world : World) (id : MethodId) (k : ℕ) : Type 0 where
  pub in_profile : is_some (profile_method world id) ≡ true
  pub none : typing_in world id ≡ None
  pub first : first_untyped_in world id ≡ Some k

abbrev pub IsRefused : World → MethodId → VerifyRefusal → Type 0
IsRefused world id refusals.NotInProfile = profile_method world id ≡ None
IsRefused world id (refusals.NoTyping k) = IsUntyped world id k
IsRefused world id refusals.NoMemory = Unit {0}

-- the same of a method with its body
abbrev pub IsUntypedBy : World → Method → VerifyRefusal → Type 0
IsUntypedBy world m refusals.NotInProfile = ⊥
IsUntypedBy world m (refusals.NoTyping k) = (typing_of world m ≡ None) × (first_untyped world m ≡ Some k)
IsUntypedBy world m refusals.NoMemory = Unit {0}

-- ---- the same in the words of the laws of typings

-- its typing is the least one of its code
abbrev pub HasLeast : World → MethodId → Verified → Type 0
HasLeast world id typed =
    (method : Method) →
    profile_method world id ≡ Some method → IsLeast world method (length method.code) typed.instrs typed.typing

-- its code has none, and the offset is the first one up to which there is none
pub record IsUntypedCode (world : World) (method : Method) (instrs : List Instr) (k : ℕ) : Type 0 where
  pub none : HasTyping world method (length method.code) instrs → ⊥
  pub first : IsFirstUntyped world method instrs k

abbrev pub Lacks : World → MethodId → VerifyRefusal → Type 0
Lacks world id (refusals.NoTyping k) =
    (method : Method) (instrs : List Instr) →
    profile_method world id ≡ Some method → instrs_of method.code ≡ Some instrs → IsUntypedCode world method instrs k
Lacks world id e = Unit {0}
