-- The typing of a method by that of its instructions.
use Rattle.std.proofs.Common.{◌≡◌, ℕ, ◌≤◌, ◌&&◌, not, Bool, true, false, List, length, nat_le, Option, Some, None}
use Rattle.std.specs.Option.{option_map}
use Rattle.std.specs.Prelude.{IfErr, IfOk}
use Rattle.std.proofs.Common.{Result, Ok, Err, option_and_then, is_some, refl, sym, ap, ◌∙◌, subst, leb-true, if◌then◌else◌}
use Rattle.cil_decode.specs.declared.instr.Instr.{Instr}
use Rattle.metadata.specs.declared.schema.Table.TheVariants as tables
use Rattle.type_world.specs.declared.identity.MethodId.{MethodId}
use Rattle.type_world.specs.World.{World}
use Rattle.type_world.specs.Members.{class_of_method}
use Rattle.type_world.specs.Profile.{Method, if_meets, instrs_of, is_abstract, is_generic, is_in_profile, meets_limits}
use Rattle.type_world.specs.Profile.{meets_profile, method_of}
use Rattle.type_world.specs.Profile.{profile_method, shape_in_profile}
use Rattle.cil_meaning.specs.Typing.{Typing, first_untyped, first_untyped_in, if_verifies, method_in_profile, typing_by, typing_of}
use Rattle.cil_verify.specs.declared.verifier.VerifyRefusal.{VerifyRefusal}
use Rattle.cil_verify.specs.declared.verifier.VerifyRefusal.TheVariants as refusals
use Rattle.cil_verify.specs.Verified.{IsRefused, Verified, typing_in}
use Rattle.cil_verify.specs.Subjects.{Subject, first_of, least_of, subject}
use Rattle.cil_verify.proofs.OperationTests.{both_left, both_right}

pub typing_is : (world : World) (method : Method) (instrs : List Instr) (s : Subject) (last : ℕ) → instrs_of method.code ≡ Some instrs
    → s ≡ subject world method instrs → last ≡ length method.code → typing_of world method ≡ least_of s last
unfolding typing_of
typing_is world method instrs s last code s_is last_is =
    ap (option_and_then (typing_by world method)) code ∙ ap (least_of (subject world method instrs)) (sym last_is)
    ∙ ap (λ t. least_of t last) (sym s_is)

pub first_is : (world : World) (method : Method) (instrs : List Instr) (s : Subject) → instrs_of method.code ≡ Some instrs
    → s ≡ subject world method instrs → first_untyped world method ≡ first_of s
unfolding first_untyped
first_is world method instrs s code s_is = ap (option_and_then (first_untyped_in world method)) code ∙ ap first_of (sym s_is)

-- ---- the code of a method of the profile is short

fourth : (a b c d e : Bool) → (a && b && c && d && e) ≡ true → d ≡ true
fourth a b c d e h = both_right (a && b && c) d (both_left (a && b && c && d) e h)

short_code : (m : Method) → meets_limits m ≡ true → length m.code ≤ 65536
short_code m h =
    leb-true (length m.code) 65536
    (fourth (not m.more) (nat_le (length m.locals) 128) (nat_le m.max_stack 128) (nat_le (length m.code) 65536)
    (is_some (instrs_of m.code)) h)

short_if : (world : World) (x m : Method) (b : Bool) → meets_profile world x ≡ b → (if b then Some x else None) ≡ Some m
    → length m.code ≤ 65536
short_if world x m true e h =
    let same : x ≡ m = cc in
    subst (λ (y : Method). length y.code ≤ 65536) same
    (short_code x
    (both_right
    (shape_in_profile world x.id && is_in_profile world (class_of_method world x.id) && not (is_abstract world x.id)
    && not (is_generic world x.id.asm tables.MethodDef x.id.row))
    (meets_limits x) e))
short_if world x m false e h = absurd (cc)

pub in_profile_short : (world : World) (id : MethodId) (m : Method) → profile_method world id ≡ Some m → length m.code ≤ 65536
unfolding profile_method
in_profile_short world id m e = by_method (method_of world id) e
  where
    by_method : (o : Option Method) → option_and_then (if_meets world) o ≡ Some m → length m.code ≤ 65536
    by_method None h = absurd (cc)
    by_method (Some x) h = short_if world x m (meets_profile world x) refl h

-- ---- a method is in the profile exactly where it has a typing

in_profile_by : (world : World) (t : Typing) (o : Option Method) → option_and_then (typing_of world) o ≡ Some t
    → option_and_then (if_verifies world) o ≡ o
in_profile_by world t None e = absurd (cc)
in_profile_by world t (Some m) e = ap (option_map (λ typing. m)) e

outside_by : (world : World) (o : Option Method) → option_and_then (typing_of world) o ≡ None
    → option_and_then (if_verifies world) o ≡ None
outside_by world None e = refl
outside_by world (Some m) e = ap (option_map (λ typing. m)) e

pub verified_in : (world : World) (id : MethodId) (r : Result Verified VerifyRefusal)
    → IfOk r (λ typed. typing_in world id ≡ Some typed.typing)
    → IfOk r (λ typed. method_in_profile world id ≡ profile_method world id)
unfolding method_in_profile
verified_in world id (Ok typed) e = in_profile_by world typed.typing (profile_method world id) e
verified_in world id (Err refusal) e = e

refused_by : (world : World) (id : MethodId) (e : VerifyRefusal) → IsRefused world id e → (e ≡ refusals.NoMemory → ⊥)
    → method_in_profile world id ≡ None
unfolding method_in_profile
refused_by world id refusals.NotInProfile h n = ap (option_and_then (if_verifies world)) h
refused_by world id (refusals.NoTyping k) h n = outside_by world (profile_method world id) h.none
refused_by world id refusals.NoMemory h n = absurd (n refl)

pub refused_outside : (world : World) (id : MethodId) (r : Result Verified VerifyRefusal) → IfErr r (IsRefused world id)
    → IfErr r (λ e. (e ≡ refusals.NoMemory → ⊥) → method_in_profile world id ≡ None)
refused_outside world id (Ok typed) h = h
refused_outside world id (Err e) h = λ n. refused_by world id e h n
