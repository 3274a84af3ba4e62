-- A world of classes made by hand: bases, nested types, fields, what is in the profile, numbers and entries.
use Rattle.std.proofs.Common.{◌≡◌, ℕ, ◌==◌, true, false, List, [], ◌∷◌, map, Option, Some, None, refl}
use Rattle.std.specs.Prelude.{pos, codes, find}
use Rattle.std.specs.Option.{option_map_or}
use Rattle.std.specs.List.{range_with_len}
use Rattle.cli_assembly.specs.declared.element.Elem.TheVariants as elems
use Rattle.type_world.specs.declared.identity.TypeId.TheVariants as types
use Rattle.std.specs.Str.{chars, is_utf8}
use Rattle.std.specs.Char.{encode_utf8}
use Rattle.metadata.specs.Schema.{tagged_table}
use Rattle.metadata.specs.Heaps.{blob_in, text_in}
use Rattle.cil_decode.specs.Opcodes.{opcode_of, operand_of}
use Rattle.cil_decode.specs.Instructions.{instr_at, instr_size, operand_at}
use Rattle.cli_assembly.specs.Elements.{element_of}
use Rattle.cli_assembly.specs.Types.{after_items, after_type, after_type_within, coded_type, type_in, type_of, types_in}
use Rattle.cli_assembly.specs.Signatures.{field_sig_of, local_sig_of, method_sig_of}
use Rattle.cli_assembly.specs.Assemblies.{Assembly, assembly_name, blob_at, body_of, coded_token, column}
use Rattle.cli_assembly.specs.Assemblies.{field_signature, fields_of, local_signature, member_field_signature}
use Rattle.cli_assembly.specs.Assemblies.{member_method_signature, method_signature, methods_of, string_at}
use Rattle.cli_assembly.specs.Assemblies.{user_string_at}
use Rattle.type_world.specs.World.{World, assembly_in, assembly_named, first_duplicate, has_text, name_in, rows_before}
use Rattle.type_world.specs.World.{rows_of_world, text_at}
use Rattle.type_world.specs.Resolution.{base_of, built_in_type, chain_of, chain_within, field_class, fits, method_class}
use Rattle.type_world.specs.Resolution.{nested_named, resolve_ref_within, resolve_type, scope_of, type_named}
use Rattle.type_world.specs.Members.{built_in, class_of_member, class_of_method, field_id, field_in, field_type}
use Rattle.type_world.specs.Members.{member_field, member_method, member_parent, method_id, method_in, resolve_field}
use Rattle.type_world.specs.Members.{resolve_method, same_signature, signature_of}
use Rattle.type_world.specs.Profile.{class_within, field_in_profile, instrs_from, instrs_of, is_abstract, is_narrow}
use Rattle.type_world.specs.Profile.{method_of, place_of, places_of, profile_method, profile_shape, shape_in_profile}
use Rattle.type_world.specs.Profile.{shape_of, type_in_profile}
use Rattle.type_world.specs.Numbers.{method_number, method_numbered, static_number, string_number, texts_of, type_number, type_numbered}
use Rattle.type_world.specs.Entries.{can_start, entry_named, entry_point, in_range}
use Rattle.cli_assembly.specs.Bodies.{MethodBody}

-- The class Base over the built-in Object, Derived over Base, Cycle over itself, N nested in Base, and the interface I. Base has an
-- int32 X, a literal Lit, a static S and an instance method Get; Derived has the static methods Run and L.

abbrev rows_given : List (ℕ × List (List ℕ)) → ℕ → List (List ℕ)
rows_given given n = option_map_or (λ found. found.1) (find (λ found. found.0 == n) given) []

abbrev names : List ℕ
names = codes "\0B\0Base\0Derived\0Cycle\0N\0I\0System\0Object\0X\0Lit\0S\0Get\0Run\0L\0"

-- the signatures int32 of a field at 1, instance int32() at 4 and int32(int32) at 8
abbrev signatures : List ℕ
signatures = 0 ∷ 2 ∷ 6 ∷ 8 ∷ 3 ∷ 32 ∷ 0 ∷ 8 ∷ 4 ∷ 0 ∷ 1 ∷ 8 ∷ 8 ∷ []

abbrev tables : List (ℕ × List (List ℕ))
tables =
    (0, ((0 ∷ 1 ∷ 0 ∷ 0 ∷ 0 ∷ []) ∷ []))
    ∷ (
      1,
      ((6 ∷ 33 ∷ 26 ∷ [])
          ∷ (15 ∷ 22 ∷ 0 ∷ [])
          ∷ (4 ∷ 3 ∷ 0 ∷ [])
          ∷ (19 ∷ 22 ∷ 0 ∷ []) ∷ []),
    )
    ∷ (
      2,
      ((0 ∷ 3 ∷ 0 ∷ 5 ∷ 1 ∷ 1 ∷ [])
          ∷ (0 ∷ 8 ∷ 0 ∷ 4 ∷ 4 ∷ 2 ∷ [])
          ∷ (0 ∷ 16 ∷ 0 ∷ 12 ∷ 4 ∷ 4 ∷ [])
          ∷ (0 ∷ 22 ∷ 0 ∷ 0 ∷ 4 ∷ 4 ∷ [])
          ∷ (32 ∷ 24 ∷ 0 ∷ 0 ∷ 4 ∷ 4 ∷ []) ∷ []),
    )
    ∷ (
      4,
      ((0 ∷ 40 ∷ 1 ∷ [])
          ∷ (80 ∷ 42 ∷ 1 ∷ [])
          ∷ (16 ∷ 46 ∷ 1 ∷ []) ∷ []),
    )
    ∷ (
      6,
      ((8192 ∷ 0 ∷ 0 ∷ 48 ∷ 4 ∷ 1 ∷ [])
          ∷ (8192 ∷ 0 ∷ 16 ∷ 52 ∷ 8 ∷ 1 ∷ [])
          ∷ (8192 ∷ 0 ∷ 16 ∷ 56 ∷ 8 ∷ 1 ∷ []) ∷ []),
    )
    ∷ (
      10,
      ((16 ∷ 40 ∷ 1 ∷ [])
          ∷ (16 ∷ 42 ∷ 1 ∷ [])
          ∷ (16 ∷ 48 ∷ 4 ∷ []) ∷ []),
    )
    ∷ (32, ((0 ∷ 0 ∷ 0 ∷ 0 ∷ 0 ∷ 0 ∷ 0 ∷ 1 ∷ 0 ∷ []) ∷ []))
    ∷ (35, ((0 ∷ 0 ∷ 0 ∷ 0 ∷ 0 ∷ 0 ∷ 26 ∷ 0 ∷ 0 ∷ []) ∷ []))
    ∷ (41, ((4 ∷ 1 ∷ []) ∷ []))
    ∷ []

-- one text in the heap of user strings, at 1: the letter a
abbrev user_text : List ℕ
user_text = 0 ∷ 3 ∷ 97 ∷ 0 ∷ 0 ∷ []

abbrev body_of_code : List ℕ → Option MethodBody
body_of_code code = Some (record { max_stack = 8; locals = 0; code = code; more = false })

-- Get and Run return a constant and the argument; L loads a string first
abbrev b : Assembly
b = record {
  tables = map (rows_given tables) (range_with_len 0 64);
  strings = names;
  user_strings = user_text;
  guids = [];
  blobs = signatures;
  bodies =
      body_of_code (0x16 ∷ 0x2A ∷ []) ∷ body_of_code (0x02 ∷ 0x2A ∷ []) ∷ body_of_code
      (0x72 ∷ 1 ∷ 0 ∷ 0 ∷ 0x70 ∷ 0x26 ∷ 0x02 ∷ 0x2A ∷ []) ∷ [];
  flags = 1;
  entry_token = 0x06000002;
}

abbrev world : World
world = b ∷ []

-- by its enclosing type; a TypeRef that comes back to itself doesn't resolve; a nested type is not found by its name alone
nested :
    (resolve_type world 0 0x01000002 ≡ Some (types.Class 0 4))
    × (resolve_type world 0 0x01000004 ≡ None)
    × (type_named b [] (codes "N") ≡ None)
unfolding chars is_utf8 encode_utf8 tagged_table blob_in text_in opcode_of operand_of instr_at instr_size operand_at element_of
    after_items after_type after_type_within coded_type type_in type_of types_in field_sig_of local_sig_of method_sig_of
    assembly_name blob_at body_of coded_token column field_signature fields_of local_signature member_field_signature
    member_method_signature method_signature methods_of string_at user_string_at assembly_in assembly_named first_duplicate
    has_text name_in rows_before rows_of_world text_at base_of built_in_type chain_within field_class fits method_class
    nested_named resolve_ref_within resolve_type scope_of type_named built_in class_of_member class_of_method field_in field_type
    member_field member_method member_parent method_in resolve_field resolve_method same_signature signature_of class_within
    field_in_profile instrs_from instrs_of is_abstract is_narrow method_of place_of places_of profile_method profile_shape
    shape_of type_in_profile method_number method_numbered static_number string_number texts_of type_number type_numbered
    can_start entry_named entry_point in_range
nested = (refl, refl, refl)

bases :
    (chain_of world (types.Class 0 2) ≡ types.Class 0 2 ∷ types.Class 0 1 ∷ types.Object ∷ [])
    × (fits world (types.Class 0 2) (types.Class 0 1) ≡ true)
    × (fits world (types.Class 0 1) (types.Class 0 2) ≡ false)
    × (fits world (types.Class 0 3) types.Object ≡ true)
unfolding chars is_utf8 encode_utf8 tagged_table blob_in text_in opcode_of operand_of instr_at instr_size operand_at element_of
    after_items after_type after_type_within coded_type type_in type_of types_in field_sig_of local_sig_of method_sig_of
    assembly_name blob_at body_of coded_token column field_signature fields_of local_signature member_field_signature
    member_method_signature method_signature methods_of string_at user_string_at assembly_in assembly_named first_duplicate
    has_text name_in rows_before rows_of_world text_at base_of built_in_type chain_within field_class fits method_class
    nested_named resolve_ref_within resolve_type scope_of type_named built_in class_of_member class_of_method field_in field_type
    member_field member_method member_parent method_in resolve_field resolve_method same_signature signature_of class_within
    field_in_profile instrs_from instrs_of is_abstract is_narrow method_of place_of places_of profile_method profile_shape
    shape_of type_in_profile method_number method_numbered static_number string_number texts_of type_number type_numbered
    can_start entry_named entry_point in_range
bases = (refl, refl, refl, refl)

-- a chain that doesn't end and an interface are outside, and so are the built-in types
in_profile :
    (type_in_profile world (types.Class 0 1) ≡ true)
    × (type_in_profile world (types.Class 0 2) ≡ true)
    × (type_in_profile world (types.Class 0 3) ≡ false)
    × (type_in_profile world (types.Class 0 5) ≡ false)
    × (type_in_profile world types.Object ≡ false)
unfolding chars is_utf8 encode_utf8 tagged_table blob_in text_in opcode_of operand_of instr_at instr_size operand_at element_of
    after_items after_type after_type_within coded_type type_in type_of types_in field_sig_of local_sig_of method_sig_of
    assembly_name blob_at body_of coded_token column field_signature fields_of local_signature member_field_signature
    member_method_signature method_signature methods_of string_at user_string_at assembly_in assembly_named first_duplicate
    has_text name_in rows_before rows_of_world text_at base_of built_in_type chain_within field_class fits method_class
    nested_named resolve_ref_within resolve_type scope_of type_named built_in class_of_member class_of_method field_in field_type
    member_field member_method member_parent method_in resolve_field resolve_method same_signature signature_of class_within
    field_in_profile instrs_from instrs_of is_abstract is_narrow method_of place_of places_of profile_method profile_shape
    shape_of type_in_profile method_number method_numbered static_number string_number texts_of type_number type_numbered
    can_start entry_named entry_point in_range
in_profile = (refl, refl, refl, refl, refl)

-- up the base chain, by the kind that is asked for; a literal is passed over
fields :
    (resolve_field world 0 0x0A000001 false ≡ Some (field_id 0 1))
    × (resolve_field world 0 0x0A000001 true ≡ None)
    × (resolve_field world 0 0x0A000002 true ≡ None)
    × (resolve_field world 0 0x04000003 true ≡ Some (field_id 0 3))
    × (field_in_profile world (field_id 0 1) ≡ true)
unfolding chars is_utf8 encode_utf8 tagged_table blob_in text_in opcode_of operand_of instr_at instr_size operand_at element_of
    after_items after_type after_type_within coded_type type_in type_of types_in field_sig_of local_sig_of method_sig_of
    assembly_name blob_at body_of coded_token column field_signature fields_of local_signature member_field_signature
    member_method_signature method_signature methods_of string_at user_string_at assembly_in assembly_named first_duplicate
    has_text name_in rows_before rows_of_world text_at base_of built_in_type chain_within field_class fits method_class
    nested_named resolve_ref_within resolve_type scope_of type_named built_in class_of_member class_of_method field_in field_type
    member_field member_method member_parent method_in resolve_field resolve_method same_signature signature_of class_within
    field_in_profile instrs_from instrs_of is_abstract is_narrow method_of place_of places_of profile_method profile_shape
    shape_of type_in_profile method_number method_numbered static_number string_number texts_of type_number type_numbered
    can_start entry_named entry_point in_range
fields = (refl, refl, refl, refl, refl)

-- found in the base; the class of the token is its parent
members :
    (resolve_method world 0 0x0A000003 ≡ Some (method_id 0 1))
    × (class_of_member world 0 0x0A000003 ≡ Some (types.Class 0 2))
    × (class_of_member world 0 0x06000001 ≡ Some (types.Class 0 1))
unfolding chars is_utf8 encode_utf8 tagged_table blob_in text_in opcode_of operand_of instr_at instr_size operand_at element_of
    after_items after_type after_type_within coded_type type_in type_of types_in field_sig_of local_sig_of method_sig_of
    assembly_name blob_at body_of coded_token column field_signature fields_of local_signature member_field_signature
    member_method_signature method_signature methods_of string_at user_string_at assembly_in assembly_named first_duplicate
    has_text name_in rows_before rows_of_world text_at base_of built_in_type chain_within field_class fits method_class
    nested_named resolve_ref_within resolve_type scope_of type_named built_in class_of_member class_of_method field_in field_type
    member_field member_method member_parent method_in resolve_field resolve_method same_signature signature_of class_within
    field_in_profile instrs_from instrs_of is_abstract is_narrow method_of place_of places_of profile_method profile_shape
    shape_of type_in_profile method_number method_numbered static_number string_number texts_of type_number type_numbered
    can_start entry_named entry_point in_range
members = (refl, refl, refl)

-- a static method of integers is in the narrower profile; an instance method, one that loads a string and the line of a string are not
narrow :
    (shape_in_profile world (method_id 0 2) ≡ true)
    × (shape_in_profile world (method_id 0 1) ≡ false)
    × (shape_in_profile world (method_id 0 3) ≡ false)
    × (shape_in_profile world (method_id 64 3) ≡ true)
    × (shape_in_profile world (method_id 64 7) ≡ false)
unfolding chars is_utf8 encode_utf8 tagged_table blob_in text_in opcode_of operand_of instr_at instr_size operand_at element_of
    after_items after_type after_type_within coded_type type_in type_of types_in field_sig_of local_sig_of method_sig_of
    assembly_name blob_at body_of coded_token column field_signature fields_of local_signature member_field_signature
    member_method_signature method_signature methods_of string_at user_string_at assembly_in assembly_named first_duplicate
    has_text name_in rows_before rows_of_world text_at base_of built_in_type chain_within field_class fits method_class
    nested_named resolve_ref_within resolve_type scope_of type_named built_in class_of_member class_of_method field_in field_type
    member_field member_method member_parent method_in resolve_field resolve_method same_signature signature_of class_within
    field_in_profile instrs_from instrs_of is_abstract is_narrow method_of place_of places_of profile_method profile_shape
    shape_of type_in_profile method_number method_numbered static_number string_number texts_of type_number type_numbered
    can_start entry_named entry_point in_range
narrow = (refl, refl, refl, refl, refl)

numbers :
    (type_number world (types.Class 0 2) ≡ Some 17)
    × (type_numbered world 17 ≡ Some (types.Class 0 2))
    × (type_numbered world 8 ≡ Some (types.Array elems.I4))
    × (method_number world (method_id 0 2) ≡ Some 9)
    × (method_numbered world 9 ≡ Some (method_id 0 2))
    × (method_numbered world 2 ≡ Some (method_id 64 3))
    × (method_numbered world 11 ≡ None)
    × (static_number world (field_id 0 3) ≡ Some 0)
    × (static_number world (field_id 0 2) ≡ None)
    × (string_number world 0 1 ≡ Some 0)
    × (string_number world 0 5 ≡ None)
unfolding chars is_utf8 encode_utf8 tagged_table blob_in text_in opcode_of operand_of instr_at instr_size operand_at element_of
    after_items after_type after_type_within coded_type type_in type_of types_in field_sig_of local_sig_of method_sig_of
    assembly_name blob_at body_of coded_token column field_signature fields_of local_signature member_field_signature
    member_method_signature method_signature methods_of string_at user_string_at assembly_in assembly_named first_duplicate
    has_text name_in rows_before rows_of_world text_at base_of built_in_type chain_within field_class fits method_class
    nested_named resolve_ref_within resolve_type scope_of type_named built_in class_of_member class_of_method field_in field_type
    member_field member_method member_parent method_in resolve_field resolve_method same_signature signature_of class_within
    field_in_profile instrs_from instrs_of is_abstract is_narrow method_of place_of places_of profile_method profile_shape
    shape_of type_in_profile method_number method_numbered static_number string_number texts_of type_number type_numbered
    can_start entry_named entry_point in_range
numbers = (refl, refl, refl, refl, refl, refl, refl, refl, refl, refl, refl)

entries :
    (entry_point world ≡ Some (method_id 0 2))
    × (entry_named world (codes "Derived") (codes "Run") ≡ Some (method_id 0 2))
    × (entry_named world (codes "Base") (codes "Get") ≡ None)
    × (can_start world (method_id 0 2) (pos 7 ∷ []) ≡ true)
    × (can_start world (method_id 0 2) (pos 2147483648 ∷ []) ≡ false)
    × (can_start world (method_id 0 2) [] ≡ false)
    × (can_start world (method_id 0 1) [] ≡ false)
unfolding chars is_utf8 encode_utf8 tagged_table blob_in text_in opcode_of operand_of instr_at instr_size operand_at element_of
    after_items after_type after_type_within coded_type type_in type_of types_in field_sig_of local_sig_of method_sig_of
    assembly_name blob_at body_of coded_token column field_signature fields_of local_signature member_field_signature
    member_method_signature method_signature methods_of string_at user_string_at assembly_in assembly_named first_duplicate
    has_text name_in rows_before rows_of_world text_at base_of built_in_type chain_within field_class fits method_class
    nested_named resolve_ref_within resolve_type scope_of type_named built_in class_of_member class_of_method field_in field_type
    member_field member_method member_parent method_in resolve_field resolve_method same_signature signature_of class_within
    field_in_profile instrs_from instrs_of is_abstract is_narrow method_of place_of places_of profile_method profile_shape
    shape_of type_in_profile method_number method_numbered static_number string_number texts_of type_number type_numbered
    can_start entry_named entry_point in_range
entries = (refl, refl, refl, refl, refl, refl, refl)

names_twice :
    (first_duplicate world ≡ None)
    × (first_duplicate (b ∷ b ∷ []) ≡ Some (0, 1))
unfolding chars is_utf8 encode_utf8 tagged_table blob_in text_in opcode_of operand_of instr_at instr_size operand_at element_of
    after_items after_type after_type_within coded_type type_in type_of types_in field_sig_of local_sig_of method_sig_of
    assembly_name blob_at body_of coded_token column field_signature fields_of local_signature member_field_signature
    member_method_signature method_signature methods_of string_at user_string_at assembly_in assembly_named first_duplicate
    has_text name_in rows_before rows_of_world text_at base_of built_in_type chain_within field_class fits method_class
    nested_named resolve_ref_within resolve_type scope_of type_named built_in class_of_member class_of_method field_in field_type
    member_field member_method member_parent method_in resolve_field resolve_method same_signature signature_of class_within
    field_in_profile instrs_from instrs_of is_abstract is_narrow method_of place_of places_of profile_method profile_shape
    shape_of type_in_profile method_number method_numbered static_number string_number texts_of type_number type_numbered
    can_start entry_named entry_point in_range
names_twice = (refl, refl)
