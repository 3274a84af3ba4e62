-- A type that was written is read again, whatever follows it: the types without a token.
use Rattle.std.proofs.Common.{◌≡◌, ℕ, List, ◌++◌, Some, refl}
use Rattle.cli_assembly.specs.declared.element.Elem.{Elem}
use Rattle.cli_assembly.specs.declared.element.Elem.TheVariants as elems
use Rattle.cli_assembly.specs.declared.signature.TypeSig.TheVariants as types
use Rattle.cli_assembly.specs.Elements.{element_of}
use Rattle.cli_assembly.specs.Types.{after_type, after_type_within, type_in, type_of}
use Rattle.cli_assembly.specs.Shortest.{type_bytes}

pub void_again : (rest : List ℕ) → type_in (type_bytes types.Void ++ rest) ≡ Some (types.Void, rest)
unfolding type_in after_type after_type_within type_of
void_again rest = refl

pub string_again : (rest : List ℕ) → type_in (type_bytes types.Str ++ rest) ≡ Some (types.Str, rest)
unfolding type_in after_type after_type_within type_of
string_again rest = refl

pub object_again : (rest : List ℕ) → type_in (type_bytes types.Object ++ rest) ≡ Some (types.Object, rest)
unfolding type_in after_type after_type_within type_of
object_again rest = refl

pub integer_again : (elem : Elem) (rest : List ℕ) → type_in (type_bytes (types.Int elem) ++ rest) ≡ Some (types.Int elem, rest)
unfolding type_in after_type after_type_within type_of element_of
integer_again elems.Boolean rest = refl
integer_again elems.Char rest = refl
integer_again elems.I1 rest = refl
integer_again elems.U1 rest = refl
integer_again elems.I2 rest = refl
integer_again elems.U2 rest = refl
integer_again elems.I4 rest = refl
integer_again elems.U4 rest = refl
integer_again elems.I8 rest = refl
integer_again elems.U8 rest = refl

pub array_again : (elem : Elem) (rest : List ℕ) → type_in (type_bytes (types.Array elem) ++ rest) ≡ Some (types.Array elem, rest)
unfolding type_in after_type after_type_within type_of element_of
array_again elems.Boolean rest = refl
array_again elems.Char rest = refl
array_again elems.I1 rest = refl
array_again elems.U1 rest = refl
array_again elems.I2 rest = refl
array_again elems.U2 rest = refl
array_again elems.I4 rest = refl
array_again elems.U4 rest = refl
array_again elems.I8 rest = refl
array_again elems.U8 rest = refl
