-- What is answered, in the words of the laws of typings.
use Rattle.std.proofs.Common.{◌≡◌, ℕ, true, false, List, length, Some, None, Result, Ok, Err, option_and_then, is_some}
use Rattle.std.proofs.Common.{sym, ap, ◌∙◌}
use Rattle.std.specs.Prelude.{IfErr, IfOk}
use Rattle.cil_decode.specs.declared.instr.Instr.{Instr}
use Rattle.type_world.specs.declared.identity.MethodId.{MethodId}
use Rattle.type_world.specs.World.{World}
use Rattle.type_world.specs.Profile.{Method, instrs_of}
use Rattle.cil_meaning.specs.Typing.{first_untyped, least_typing, typing_by, typing_of}
use Rattle.cil_meaning.specs.Laws.{FirstUntypedIsFirst, HasTyping, RoundsFindTheLeast, RoundsFindTypings}
use Rattle.cil_verify.specs.declared.verifier.VerifyRefusal.{VerifyRefusal}
use Rattle.cil_verify.specs.declared.verifier.VerifyRefusal.TheVariants as refusals
use Rattle.cil_verify.specs.Verified.{HasLeast, IsRefused, Lacks, Verified, instrs_in, typing_in}

-- the typing of a method by that of its instructions
typed_by : (world : World) (method : Method) (instrs : List Instr) → instrs_of method.code ≡ Some instrs
    → typing_of world method ≡ least_typing world method (length method.code) instrs
unfolding typing_of
typed_by world method instrs code = ap (option_and_then (typing_by world method)) code

pub has_least : (world : World) (id : MethodId) → RoundsFindTheLeast → (r : Result Verified VerifyRefusal)
    → IfOk r (λ typed. instrs_in world id ≡ Some typed.instrs)
    → IfOk r (λ typed. typing_in world id ≡ Some typed.typing) → IfOk r (HasLeast world id)
has_least world id law (Err refusal) e t = e
has_least world id law (Ok typed) e t =
    λ method there.
    (let code : instrs_of method.code ≡ Some typed.instrs =
    sym (ap (option_and_then (λ (m : Method). instrs_of m.code)) there) ∙ e in
    let typing : typing_of world method ≡ Some typed.typing = sym (ap (option_and_then (typing_of world)) there) ∙ t in
    law world method (length method.code) typed.instrs typed.typing (sym (typed_by world method typed.instrs code) ∙ typing))

none_of : (world : World) (method : Method) (instrs : List Instr) (last : ℕ) → RoundsFindTypings
    → least_typing world method last instrs ≡ None → HasTyping world method last instrs → ⊥
none_of world method instrs last law e has =
    let some : is_some (least_typing world method last instrs) ≡ true = (law world method last instrs).0 has in
    let none : is_some (least_typing world method last instrs) ≡ false = ap is_some e in
    absurd (cc)

untyped_by : (world : World) (id : MethodId) → RoundsFindTypings → FirstUntypedIsFirst → (e : VerifyRefusal)
    → IsRefused world id e → Lacks world id e
untyped_by world id found first refusals.NotInProfile h = tt
untyped_by world id found first refusals.NoMemory h = tt
untyped_by world id found first (refusals.NoTyping k) h =
    λ method instrs there code.
    (let typing : typing_of world method ≡ None = sym (ap (option_and_then (typing_of world)) there) ∙ h.none in
    let at : first_untyped world method ≡ Some k = sym (ap (option_and_then (first_untyped world)) there) ∙ h.first in
    record {
      none = none_of world method instrs (length method.code) found (sym (typed_by world method instrs code) ∙ typing);
      first = first world method instrs k code at;
    })

pub lacks : (world : World) (id : MethodId) → RoundsFindTypings → FirstUntypedIsFirst → (r : Result Verified VerifyRefusal)
    → IfErr r (IsRefused world id) → IfErr r (Lacks world id)
lacks world id found first (Ok typed) h = h
lacks world id found first (Err e) h = untyped_by world id found first e h
