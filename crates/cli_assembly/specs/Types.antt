-- The types of signatures (ECMA-335 II.23.2.4 to II.23.2.14), by the bytes that begin with one. One rule holds in each place of
-- a signature: what the standard allows before a parameter, a result, a field or a local alone is read before each type.
use Rattle.std.specs.Prelude.{ℕ, zero, suc, ◌+◌, ◌/◌, ◌%◌, ◌^◌, ◌==◌, ◌&&◌, ◌||◌, Bool, List, [], ◌∷◌, length}
use Rattle.std.specs.Prelude.{Option, Some, None, if◌then◌else◌, nat_le, nat_lt}
use Rattle.std.specs.Option.{option_map, option_map_or, option_and_then}
use Rattle.rtr_bytes.specs.Compressed.{compressed_in, number_in}
use Rattle.metadata.specs.declared.schema.CodedKind.TheVariants as kinds
use Rattle.metadata.specs.Schema.{table_number, tagged_table}
use Rattle.metadata.specs.Heaps.{token}
use Rattle.cli_assembly.specs.declared.signature.TypeSig.{TypeSig}
use Rattle.cli_assembly.specs.declared.signature.TypeSig.TheVariants as types
use Rattle.cli_assembly.specs.Elements.{element_of}

-- ---- what comes after: each answers the bytes after the item that bytes begin with, and none where they begin with no such item

-- a compressed number
abbrev pub after_number : List ℕ → Option (List ℕ)
after_number bytes = option_map (λ found. found.1) (number_in bytes)

-- so many items
unfoldable pub after_items : (List ℕ → Option (List ℕ)) → ℕ → List ℕ → Option (List ℕ)
after_items after_item zero bytes = Some bytes
after_items after_item (suc n) bytes = option_and_then (after_items after_item n) (after_item bytes)

-- a compressed count, and so many items
abbrev pub after_counted : (List ℕ → Option (List ℕ)) → List ℕ → Option (List ℕ)
after_counted after_item bytes = option_and_then (λ count. after_items after_item count.0 count.1) (number_in bytes)

-- the shape of an array: its rank, its sizes and its lower bounds (II.23.2.13)
abbrev pub after_shape : List ℕ → Option (List ℕ)
after_shape bytes = option_and_then (after_counted after_number) (option_and_then (after_counted after_number) (after_number bytes))

-- a generic instance after GENERICINST: CLASS or VALUETYPE, a coded type, and the arguments
abbrev pub after_instance : (List ℕ → Option (List ℕ)) → List ℕ → Option (List ℕ)
after_instance after_type [] = None
after_instance after_type (e ∷ rest) =
    if e == 0x12 || e == 0x11 then option_and_then (after_counted after_type) (after_number rest) else None

-- the signature of a method after FNPTR: its convention, with GENERIC a count of generic parameters, and a count of parameters
-- before the result and the parameters
abbrev pub after_result_and_params : (List ℕ → Option (List ℕ)) → List ℕ → Option (List ℕ)
after_result_and_params after_type bytes = option_and_then (λ count. after_items after_type (count.0 + 1) count.1) (number_in bytes)

abbrev pub after_method : (List ℕ → Option (List ℕ)) → List ℕ → Option (List ℕ)
after_method after_type [] = None
after_method after_type (convention ∷ rest) =
    option_and_then (after_result_and_params after_type) (if convention / 0x10 % 2 == 1 then after_number rest else Some rest)

-- ---- element types (II.23.1.16), by what follows them

-- nothing: VOID 01 to STRING 0E, TYPEDBYREF 16, I 18, U 19 and OBJECT 1C
abbrev pub is_alone : ℕ → Bool
is_alone e = nat_le 0x01 e && nat_le e 0x0E || e == 0x16 || e == 0x18 || e == 0x19 || e == 0x1C

-- a compressed number: VALUETYPE 11 and CLASS 12 have a coded type, VAR 13 and MVAR 1E the number of a generic parameter
abbrev pub is_numbered : ℕ → Bool
is_numbered e = e == 0x11 || e == 0x12 || e == 0x13 || e == 0x1E

-- a type: PTR 0F, BYREF 10, SZARRAY 1D, SENTINEL 41 and PINNED 45
abbrev pub is_prefix : ℕ → Bool
is_prefix e = e == 0x0F || e == 0x10 || e == 0x1D || e == 0x41 || e == 0x45

-- a coded type and a type: CMOD_REQD 1F and CMOD_OPT 20
abbrev pub is_modifier : ℕ → Bool
is_modifier e = e == 0x1F || e == 0x20

-- the others are ARRAY 14, GENERICINST 15 and FNPTR 1B
abbrev pub after_element : (List ℕ → Option (List ℕ)) → ℕ → List ℕ → Option (List ℕ)
after_element after_type e rest =
    if is_alone e then Some rest
    else if is_numbered e then after_number rest
    else if is_prefix e then after_type rest
    else if is_modifier e then option_and_then after_type (after_number rest)
    else if e == 0x14 then option_and_then after_shape (after_type rest)
    else if e == 0x15 then after_instance after_type rest
    else if e == 0x1B then after_method after_type rest
    else None

-- a type in which at most so many types are one in another
unfoldable pub after_type_within : ℕ → List ℕ → Option (List ℕ)
after_type_within zero bytes = None
after_type_within (suc depth) [] = None
after_type_within (suc depth) (e ∷ rest) = after_element (after_type_within depth) e rest

-- a type: each type in another one takes a byte, so that no type is deeper than the bytes are long
unfoldable pub after_type : List ℕ → Option (List ℕ)
after_type bytes = after_type_within (length bytes) bytes

-- ---- which type it is

-- the token of a coded TypeDefOrRef: TypeDef, TypeRef or TypeSpec, and a row of 24 bits; whether the row is there is not asked
unfoldable pub coded_type : ℕ → Option ℕ
coded_type value =
    if nat_lt (value / 4) (2 ^ 24)
    then option_map (λ table. token (table_number table) (value / 4)) (tagged_table kinds.TypeDefOrRef (value % 4))
    else None

-- after CLASS
abbrev pub class_in : List ℕ → TypeSig
class_in bytes = option_map_or types.Class (option_and_then (λ found. coded_type found.0) (compressed_in bytes)) types.Outside

-- after SZARRAY
abbrev pub array_in : List ℕ → TypeSig
array_in [] = types.Outside
array_in (e ∷ rest) = option_map_or types.Array (element_of e) types.Outside

-- the type that bytes begin with, where they begin with one: outside the profile unless it is one of these
unfoldable pub type_of : List ℕ → TypeSig
type_of [] = types.Outside
type_of (e ∷ rest) =
    if e == 0x01 then types.Void
    else if e == 0x0E then types.Str
    else if e == 0x1C then types.Object
    else if e == 0x12 then class_in rest
    else if e == 0x1D then array_in rest
    else option_map_or types.Int (element_of e) types.Outside

-- the type that bytes begin with, and the bytes after it
unfoldable pub type_in : List ℕ → Option (TypeSig × List ℕ)
type_in bytes = option_map (λ rest. (type_of bytes, rest)) (after_type bytes)

-- so many types, and the bytes after them
abbrev pub before : TypeSig → Option (List TypeSig × List ℕ) → Option (List TypeSig × List ℕ)
before type others = option_map (λ found. (type ∷ found.0, found.1)) others

unfoldable pub types_in : ℕ → List ℕ → Option (List TypeSig × List ℕ)
types_in zero bytes = Some ([], bytes)
types_in (suc n) bytes = option_and_then (λ found. before found.0 (types_in n found.1)) (type_in bytes)
