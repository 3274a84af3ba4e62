-- Examples of signatures and headers, computed by the definitions.
use Rattle.std.proofs.Common.{◌≡◌, ℕ, List, [], ◌∷◌, true, false, Some, None, refl}
use Rattle.cli_assembly.specs.declared.element.Elem.TheVariants as elems
use Rattle.cli_assembly.specs.declared.signature.TypeSig.TheVariants as types
use Rattle.metadata.specs.Schema.{tagged_table}
use Rattle.cli_assembly.specs.Elements.{element_of}
use Rattle.cli_assembly.specs.Types.{after_items, after_type, after_type_within, coded_type, type_in, type_of, types_in}
use Rattle.cli_assembly.specs.Signatures.{field_sig_of, local_sig_of, method_sig, method_sig_of}
use Rattle.cli_assembly.specs.Shortest.{local_sig_bytes, method_sig_bytes, type_tag}
use Rattle.cli_assembly.specs.Bodies.{fat_body, header_words}

-- int32(int32), both ways; instance void(); void(string, int64[])
int_of_int : method_sig_of (0x00 ∷ 0x01 ∷ 0x08 ∷ 0x08 ∷ []) ≡ Some (method_sig false (types.Int elems.I4) (types.Int elems.I4 ∷ []))
unfolding method_sig_of type_in after_type after_type_within after_items type_of types_in coded_type element_of tagged_table
int_of_int = refl

int_of_int_written : method_sig_bytes (method_sig false (types.Int elems.I4) (types.Int elems.I4 ∷ [])) ≡ 0x00 ∷ 0x01 ∷ 0x08 ∷ 0x08 ∷ []
unfolding method_sig_bytes
int_of_int_written = refl

instance_void : method_sig_of (0x20 ∷ 0x00 ∷ 0x01 ∷ []) ≡ Some (method_sig true types.Void [])
unfolding method_sig_of type_in after_type after_type_within after_items type_of types_in coded_type element_of tagged_table
instance_void = refl

references : method_sig_of (0x00 ∷ 0x02 ∷ 0x01 ∷ 0x0E ∷ 0x1D ∷ 0x0A ∷ [])
    ≡ Some (method_sig false types.Void (types.Str ∷ types.Array elems.I8 ∷ []))
unfolding method_sig_of type_in after_type after_type_within after_items type_of types_in coded_type element_of tagged_table
references = refl

-- a void parameter is read; a longer spelling of a count is read
void_parameter : method_sig_of (0x00 ∷ 0x80 ∷ 0x01 ∷ 0x01 ∷ 0x01 ∷ []) ≡ Some (method_sig false types.Void (types.Void ∷ []))
unfolding method_sig_of type_in after_type after_type_within after_items type_of types_in coded_type element_of tagged_table
void_parameter = refl

-- no readable signature: no bytes, bytes after the end, a parameter that is cut or no type, a generic method, another convention
unreadable :
    (method_sig_of [] ≡ None) × (method_sig_of (0x00 ∷ 0x00 ∷ 0x01 ∷ 0x00 ∷ []) ≡ None)
    × (method_sig_of (0x00 ∷ 0x01 ∷ 0x01 ∷ []) ≡ None) × (method_sig_of (0x00 ∷ 0x01 ∷ 0x01 ∷ 0x00 ∷ []) ≡ None)
    × (method_sig_of (0x10 ∷ 0x01 ∷ 0x00 ∷ 0x01 ∷ []) ≡ None) × (method_sig_of (0x05 ∷ 0x00 ∷ 0x01 ∷ []) ≡ None)
unfolding method_sig_of type_in after_type after_type_within after_items type_of types_in coded_type element_of tagged_table
unreadable = (refl, refl, refl, refl, refl, refl)

-- a generic instance is outside, and the parameter after it is read
instance_parameter : method_sig_of (0x00 ∷ 0x02 ∷ 0x01 ∷ 0x15 ∷ 0x12 ∷ 0x05 ∷ 0x02 ∷ 0x08 ∷ 0x0E ∷ 0x08 ∷ [])
    ≡ Some (method_sig false types.Void (types.Outside ∷ types.Int elems.I4 ∷ []))
unfolding method_sig_of type_in after_type after_type_within after_items type_of types_in coded_type element_of tagged_table
instance_parameter = refl

-- classes: a TypeRef, a TypeDef, and a coded index without a table
classes :
    (field_sig_of (0x06 ∷ 0x12 ∷ 0x09 ∷ []) ≡ Some (types.Class 0x01000002))
    × (field_sig_of (0x06 ∷ 0x12 ∷ 0x80 ∷ 0x84 ∷ []) ≡ Some (types.Class 0x02000021))
    × (field_sig_of (0x06 ∷ 0x12 ∷ 0x07 ∷ []) ≡ Some types.Outside)
unfolding field_sig_of type_in after_type after_type_within after_items type_of types_in coded_type element_of tagged_table
classes = (refl, refl, refl)

-- fields outside the profile: an array of strings, a value type, a volatile integer, a matrix, a function pointer
outside_fields :
    (field_sig_of (0x06 ∷ 0x1D ∷ 0x0E ∷ []) ≡ Some types.Outside)
    × (field_sig_of (0x06 ∷ 0x11 ∷ 0x05 ∷ []) ≡ Some types.Outside)
    × (field_sig_of (0x06 ∷ 0x1F ∷ 0x05 ∷ 0x08 ∷ []) ≡ Some types.Outside)
    × (field_sig_of (0x06 ∷ 0x14 ∷ 0x08 ∷ 0x02 ∷ 0x01 ∷ 0x03 ∷ 0x00 ∷ []) ≡ Some types.Outside)
    × (field_sig_of (0x06 ∷ 0x1B ∷ 0x00 ∷ 0x01 ∷ 0x01 ∷ 0x08 ∷ []) ≡ Some types.Outside)
unfolding field_sig_of type_in after_type after_type_within after_items type_of types_in coded_type element_of tagged_table
outside_fields = (refl, refl, refl, refl, refl)

-- a matrix whose shape is cut is no type
cut_shape : field_sig_of (0x06 ∷ 0x14 ∷ 0x08 ∷ 0x02 ∷ 0x01 ∷ 0x03 ∷ []) ≡ None
unfolding field_sig_of type_in after_type after_type_within after_items type_of types_in coded_type element_of tagged_table
cut_shape = refl

-- locals: an integer and a string that is pinned
locals : local_sig_of (0x07 ∷ 0x02 ∷ 0x08 ∷ 0x45 ∷ 0x0E ∷ []) ≡ Some (types.Int elems.I4 ∷ types.Outside ∷ [])
unfolding local_sig_of type_in after_type after_type_within after_items type_of types_in coded_type element_of tagged_table
locals = refl

locals_written : local_sig_bytes (types.Class 0x01000002 ∷ types.Object ∷ []) ≡ 0x07 ∷ 0x02 ∷ 0x12 ∷ 0x09 ∷ 0x1C ∷ []
unfolding local_sig_bytes type_tag
locals_written = refl

-- a fat header: InitLocals, a stack of 2, 5 bytes of code at 20, the locals of a token
fat_bytes : List ℕ
fat_bytes = 0x13 ∷ 0x30 ∷ 0x02 ∷ 0x00 ∷ 0x05 ∷ 0x00 ∷ 0x00 ∷ 0x00 ∷ 0x01 ∷ 0x00 ∷ 0x00 ∷ 0x11 ∷ []

fat : (header_words fat_bytes 0 ≡ 3)
    × (fat_body fat_bytes 0 8 ≡ record { max_stack = 2; locals = 0x11000001; code = record { start = 20; len = 5 }; more = false })
unfolding fat_bytes
fat = (refl, refl)
