-- Entries of a run: the method that is named, or that the assembly has as its entry point, and the numbers that it is given.
use Rattle.std.specs.Prelude.{ℕ, ◌-◌, ◌^◌, ◌&&◌, not, Bool, true, false, ℤ, pos, neg_ℤ, List, [], ◌∷◌, ◌++◌, filter}
use Rattle.std.specs.Prelude.{find, codes, Option, Some, None, int_le, int_lt}
use Rattle.std.specs.Option.{option_map, option_map_or, option_and_then}
use Rattle.std.specs.Str.{bytes_eq}
use Rattle.std.specs.Cmp.Lexicographic.{pointwise}
use Rattle.metadata.specs.declared.schema.Table.TheVariants as tables
use Rattle.cli_assembly.specs.declared.element.Elem.{Elem}
use Rattle.cli_assembly.specs.declared.element.Elem.TheVariants as elems
use Rattle.cli_assembly.specs.declared.signature.TypeSig.{TypeSig}
use Rattle.cli_assembly.specs.declared.signature.TypeSig.TheVariants as sigs
use Rattle.cli_assembly.specs.declared.signature.MethodSig.{MethodSig}
use Rattle.cli_assembly.specs.declared.flags.TheConstants.{METHOD_STATIC}
use Rattle.cli_assembly.specs.Assemblies.{Assembly, methods_of}
use Rattle.type_world.specs.declared.identity.MethodId.{MethodId}
use Rattle.type_world.specs.World.{World, assembly_in, has_text, row_of, rows_in, text_at}
use Rattle.type_world.specs.Members.{method_id, signature_of}
use Rattle.type_world.specs.Profile.{method_flag}

-- ---- which method it is; it is always one of the assembly at position 0

-- the namespace, a dot and the name of a TypeDef; the name alone where the namespace is empty
abbrev pub dotted : List ℕ → List ℕ → List ℕ
dotted [] name = name
dotted namespace name = namespace ++ (codes "." ++ name)

abbrev pub full_name : Assembly → ℕ → List ℕ
full_name assembly row = dotted (text_at assembly tables.TypeDef row 2) (text_at assembly tables.TypeDef row 1)

-- the first type of a full name; a nested one has its own name
abbrev pub class_named : World → List ℕ → Option ℕ
class_named world name = find (λ row. bytes_eq name (full_name (assembly_in world 0) row)) (rows_in (assembly_in world 0) tables.TypeDef)

abbrev pub is_static_named : World → List ℕ → ℕ → Bool
is_static_named world name row =
    method_flag world (method_id 0 row) METHOD_STATIC && has_text (assembly_in world 0) tables.MethodDef row 3 name

-- one row, where there is no other
abbrev pub only : List ℕ → Option ℕ
only [] = None
only (row ∷ []) = Some row
only (row ∷ other ∷ rows) = None

-- the one static method of a name in that type
unfoldable pub entry_named : World → List ℕ → List ℕ → Option MethodId
entry_named world class name =
    option_map (method_id 0)
    (option_and_then (λ row. only (filter (is_static_named world name) (methods_of (assembly_in world 0) row))) (class_named world class))

-- the method of the entry point token (II.25.3.3.2)
unfoldable pub entry_point : World → Option MethodId
entry_point world = option_map (method_id 0) (row_of (assembly_in world 0) tables.MethodDef (assembly_in world 0).entry_token)

-- ---- what it is given: numbers in the ranges of its integer parameters

abbrev pub in_signed : ℕ → ℤ → Bool
in_signed bits z = int_le (neg_ℤ (pos (2 ^ (bits - 1)))) z && int_lt z (pos (2 ^ (bits - 1)))

abbrev pub in_unsigned : ℕ → ℤ → Bool
in_unsigned bits z = int_le (pos 0) z && int_lt z (pos (2 ^ bits))

unfoldable pub in_range : Elem → ℤ → Bool
in_range elems.Boolean z = in_unsigned 1 z
in_range elems.Char z = in_unsigned 16 z
in_range elems.I1 z = in_signed 8 z
in_range elems.U1 z = in_unsigned 8 z
in_range elems.I2 z = in_signed 16 z
in_range elems.U2 z = in_unsigned 16 z
in_range elems.I4 z = in_signed 32 z
in_range elems.U4 z = in_unsigned 32 z
in_range elems.I8 z = in_signed 64 z
in_range elems.U8 z = in_unsigned 64 z

abbrev pub takes_number : TypeSig → ℤ → Bool
takes_number (sigs.Int elem) z = in_range elem z
takes_number sig z = false

-- void or an integer
abbrev pub is_printable : TypeSig → Bool
is_printable sigs.Void = true
is_printable (sigs.Int elem) = true
is_printable sig = false

abbrev pub takes_numbers : MethodSig → List ℤ → Bool
takes_numbers sig numbers = not sig.has_this && is_printable sig.ret && pointwise takes_number sig.params numbers

-- a static method that takes these numbers
unfoldable pub can_start : World → MethodId → List ℤ → Bool
can_start world entry numbers =
    method_flag world entry METHOD_STATIC && option_map_or (λ sig. takes_numbers sig numbers) (signature_of world entry) false
