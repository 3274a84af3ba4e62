-- Signatures of methods, fields and locals (ECMA-335 II.23.2.1, II.23.2.4 and II.23.2.6): what the bytes of a blob spell. There is
-- none where they are not of the form, or have bytes after its end.
use Rattle.std.specs.Prelude.{ℕ, ◌==◌, Bool, true, false, List, [], ◌∷◌, Option, Some, None, if◌then◌else◌}
use Rattle.std.specs.Option.{option_map, option_and_then}
use Rattle.cli_assembly.specs.declared.signature.TypeSig.{TypeSig}
use Rattle.cli_assembly.specs.declared.signature.MethodSig.{MethodSig}
use Rattle.rtr_bytes.specs.Compressed.{number_in}
use Rattle.cli_assembly.specs.Types.{type_in, types_in}

-- what was found, where no bytes are after it
abbrev pub whole : {X : Type 0} → Option (X × List ℕ) → Option X
whole None = None
whole (Some (x, [])) = Some x
whole (Some (x, b ∷ rest)) = None

-- a list of types after its compressed count
abbrev pub counted_types_in : List ℕ → Option (List TypeSig × List ℕ)
counted_types_in bytes = option_and_then (λ count. types_in count.0 count.1) (number_in bytes)

-- ---- methods

abbrev pub method_sig : Bool → TypeSig → List TypeSig → MethodSig
method_sig has_this ret params = record { has_this = has_this; params = params; ret = ret }

-- the convention's byte: the default one, without HASTHIS or with it; no other is of the form
abbrev pub has_this_of : ℕ → Option Bool
has_this_of convention = if convention == 0x00 then Some false else if convention == 0x20 then Some true else None

-- so many parameters after the type of the result
abbrev pub params_after : Bool → ℕ → TypeSig × List ℕ → Option (MethodSig × List ℕ)
params_after has_this count ret =
    option_map (λ params. (method_sig has_this ret.0 params.0, params.1)) (types_in count ret.1)

-- the count of the parameters, the type of the result, and the parameters
abbrev pub method_after : List ℕ → Bool → Option (MethodSig × List ℕ)
method_after bytes has_this =
    option_and_then (λ count. option_and_then (params_after has_this count.0) (type_in count.1)) (number_in bytes)

unfoldable pub method_sig_of : List ℕ → Option MethodSig
method_sig_of [] = None
method_sig_of (convention ∷ rest) = option_and_then (λ has_this. whole (method_after rest has_this)) (has_this_of convention)

-- ---- fields and locals

-- FIELD 06, and the type
unfoldable pub field_sig_of : List ℕ → Option TypeSig
field_sig_of [] = None
field_sig_of (first ∷ rest) = if first == 0x06 then whole (type_in rest) else None

-- LOCAL_SIG 07, and the types of the locals after their count
unfoldable pub local_sig_of : List ℕ → Option (List TypeSig)
local_sig_of [] = None
local_sig_of (first ∷ rest) = if first == 0x07 then whole (counted_types_in rest) else None
