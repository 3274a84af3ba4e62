-- The signatures of the built-in methods, by row.
use Rattle.std.proofs.Common.{◌≡◌, ℕ, zero, suc, ◌<◌, true, [], ◌∷◌, Option, Some, None, refl, sym, ap, ◌∙◌, arith}
use Rattle.std.proofs.Common.{if◌then◌else◌, option_and_then, eq-eqb}
use Rattle.std.specs.Option.{option_map}
use Rattle.cli_assembly.specs.declared.element.Elem.TheVariants as elems
use Rattle.cli_assembly.specs.declared.signature.MethodSig.{MethodSig}
use Rattle.cli_assembly.specs.declared.signature.TypeSig.TheVariants as sigs
use Rattle.cli_assembly.specs.Assemblies.{method_signature}
use Rattle.cli_assembly.specs.Signatures.{method_sig}
use Rattle.type_world.specs.declared.identity.MethodId.{MethodId}
use Rattle.type_world.specs.declared.identity.TheConstants.{BUILT_IN}
use Rattle.type_world.specs.Members.{built_in, built_ins, signature_of, write_line}
use Rattle.type_world.specs.Profile.{shape_by, shape_of}
use Rattle.type_world.specs.World.{World, assembly_in}
use Rattle.type_world.proofs.Listed.{past_rows}

pub writes_line : (row : ℕ) → row ≡ 2 → Some (write_line []) ≡ built_in row
unfolding built_in
writes_line row e = ap built_in (sym e)

pub writes_int32 : (row : ℕ) → row ≡ 3 → Some (write_line (sigs.Int elems.I4 ∷ [])) ≡ built_in row
unfolding built_in
writes_int32 row e = ap built_in (sym e)

pub writes_uint32 : (row : ℕ) → row ≡ 4 → Some (write_line (sigs.Int elems.U4 ∷ [])) ≡ built_in row
unfolding built_in
writes_uint32 row e = ap built_in (sym e)

pub writes_int64 : (row : ℕ) → row ≡ 5 → Some (write_line (sigs.Int elems.I8 ∷ [])) ≡ built_in row
unfolding built_in
writes_int64 row e = ap built_in (sym e)

pub writes_uint64 : (row : ℕ) → row ≡ 6 → Some (write_line (sigs.Int elems.U8 ∷ [])) ≡ built_in row
unfolding built_in
writes_uint64 row e = ap built_in (sym e)

pub writes_string : (row : ℕ) → row ≡ 7 → Some (write_line (sigs.Str ∷ [])) ≡ built_in row
unfolding built_in
writes_string row e = ap built_in (sym e)

-- ---- signatures

abbrev sig_of : ℕ → Option MethodSig
sig_of row = option_map (λ b. b.sig) (built_in row)

pub first_sig : (row : ℕ) → row ≡ 1 → Some (method_sig true sigs.Void []) ≡ sig_of row
unfolding built_in
first_sig row e = ap sig_of (sym e)

pub last_sig : (row : ℕ) → row ≡ 8 → Some (method_sig true (sigs.Int elems.I4) []) ≡ sig_of row
unfolding built_in
last_sig row e = ap sig_of (sym e)

pub no_sig : (row : ℕ) → row < 1 → None ≡ sig_of row
unfolding built_in
no_sig zero l = refl
no_sig (suc row) l = absurd (omega arith)

pub past_sig : (row : ℕ) → 8 < row → None ≡ sig_of row
unfolding built_in
past_sig row l = sym (ap (option_map (λ b. b.sig)) (past_rows built_ins row l))

-- ---- shapes

built_in_signature : (world : World) (id : MethodId) → id.asm ≡ 64 → signature_of world id ≡ sig_of id.row
unfolding signature_of
built_in_signature world id e =
    ap (λ b. if b then sig_of id.row else method_signature (assembly_in world id.asm) id.row) (eq-eqb id.asm BUILT_IN e)

shape_by_signature : (world : World) (id : MethodId) (o : Option MethodSig) → o ≡ signature_of world id
    → option_and_then (shape_by world id) o ≡ shape_of world id
unfolding shape_of
shape_by_signature world id o e = ap (option_and_then (shape_by world id)) e

pub built_in_shape : (world : World) (id : MethodId) (o : Option MethodSig) → id.asm ≡ 64 → o ≡ sig_of id.row
    → option_and_then (shape_by world id) o ≡ shape_of world id
built_in_shape world id o e same = shape_by_signature world id o (same ∙ sym (built_in_signature world id e))
