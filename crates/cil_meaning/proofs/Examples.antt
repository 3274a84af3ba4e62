-- A world of a few hand-made rows: what its tokens name, which of its codes have a typing, and what its methods come to.
use Rattle.std.proofs.Common.{◌≡◌, ℕ, ◌==◌, false, List, [], ◌∷◌, map, Option, Some, None, refl}
use Rattle.std.specs.Prelude.{ℤ, pos, negsuc, codes, find, replicate}
use Rattle.std.specs.Option.{option_map_or}
use Rattle.std.specs.List.{range_with_len}
use Rattle.cli_assembly.specs.declared.element.Elem.TheVariants as elems
use Rattle.type_world.specs.declared.identity.TypeId.TheVariants as types
use Rattle.cil_meaning.specs.declared.kind.Kind.TheVariants as kinds
use Rattle.cil_meaning.specs.declared.ending.Ending.{Ending}
use Rattle.cil_meaning.specs.declared.ending.Ending.TheVariants as endings
use Rattle.std.specs.Str.{chars, is_utf8}
use Rattle.std.specs.Char.{encode_utf8}
use Rattle.std.specs.Fmt.{digits}
use Rattle.metadata.specs.Schema.{tagged_table}
use Rattle.metadata.specs.Heaps.{blob_in, text_in}
use Rattle.cil_decode.specs.Opcodes.{opcode_of, operand_of}
use Rattle.cil_decode.specs.Instructions.{instr_at, instr_size, operand_at}
use Rattle.cli_assembly.specs.Elements.{element_of}
use Rattle.cli_assembly.specs.Types.{after_items, after_type, after_type_within, coded_type, type_in, type_of, types_in}
use Rattle.cli_assembly.specs.Signatures.{field_sig_of, local_sig_of, method_sig_of}
use Rattle.cli_assembly.specs.Assemblies.{Assembly, assembly_name, blob_at, body_of, coded_token, column, fields_of}
use Rattle.cli_assembly.specs.Assemblies.{local_signature, member_method_signature, method_signature, methods_of}
use Rattle.cli_assembly.specs.Assemblies.{string_at}
use Rattle.type_world.specs.World.{World, assembly_in, assembly_named, first_duplicate, has_text, name_in, rows_before}
use Rattle.type_world.specs.World.{rows_of_world, text_at}
use Rattle.type_world.specs.Resolution.{base_of, built_in_type, chain_within, fits, method_class, nested_named}
use Rattle.type_world.specs.Resolution.{resolve_ref_within, resolve_type, scope_of, type_named}
use Rattle.type_world.specs.Members.{built_in, class_of_method, field_type, member_method, member_parent, method_id}
use Rattle.type_world.specs.Members.{method_in, resolve_method, same_signature, signature_of}
use Rattle.type_world.specs.declared.place.Place.TheVariants.{Integer}
use Rattle.type_world.specs.Profile.{Method, class_within, instrs_from, instrs_of, is_abstract, is_narrow, method_of}
use Rattle.type_world.specs.Profile.{place_of, places_of, profile_method, profile_shape, shape, shape_of}
use Rattle.type_world.specs.Profile.{type_in_profile}
use Rattle.cil_meaning.specs.Arithmetic.{binary, checked_binary, compares, narrowed, shifted}
use Rattle.cil_meaning.specs.Typing.{first_untyped, flow_at, flow_of, is_typing, kind_fits, method_in_profile, settled}
use Rattle.cil_meaning.specs.Typing.{typing_of, widen_all, with_stack, last_first, under_arguments}
use Rattle.cil_meaning.specs.Step.{act, at_frame, compare, frame_step, kept, kept_all, on_many}
use Rattle.cil_meaning.specs.Run.{after, arguments_by, cil, enter, run_of, step}
use Rattle.cli_assembly.specs.Bodies.{MethodBody}
use Rattle.cil_meaning.specs.State.{Frame, Going, Over, Run, Stuck, no_objects}

-- ---- the world: A has the class C and references L, which has the class P, and an assembly that is not there

-- tables by their number, from a few of them
abbrev rows_given : List (ℕ × List (List ℕ)) → ℕ → List (List ℕ)
rows_given given n = option_map_or (λ found. found.1) (find (λ found. found.0 == n) given) []

abbrev body_of_code : List ℕ → Option MethodBody
body_of_code code = Some (record { max_stack = 8; locals = 0; code = code; more = false })

-- the names A at 1, C at 3, Fib at 5, Div at 9, Loop at 13, L at 18, P at 20, Say at 22, System at 26, Console at 33, WriteLine at 41
abbrev names : List ℕ
names = codes "\0A\0C\0Fib\0Div\0Loop\0L\0P\0Say\0System\0Console\0WriteLine\0"

-- the signatures int32(int32) at 1, int32(int32, int32) at 6, void() at 12, void(int32) at 16 and void(string) at 21
abbrev signatures : List ℕ
signatures = 0 ∷ 4 ∷ 0 ∷ 1 ∷ 8 ∷ 8 ∷ 5 ∷ 0 ∷ 2 ∷ 8 ∷ 8 ∷ 8 ∷ 3 ∷ 0 ∷ 0 ∷ 1 ∷ 4 ∷ 0 ∷ 1 ∷ 1 ∷ 8 ∷ 4 ∷ 0 ∷ 1 ∷ 1 ∷ 14 ∷ []

abbrev assembly : List (ℕ × List (List ℕ)) → List (List ℕ) → Assembly
assembly given code = record {
  tables = map (rows_given given) (range_with_len 0 64);
  strings = names;
  user_strings = [];
  guids = [];
  blobs = signatures;
  bodies = map body_of_code code;
  flags = 1;
  entry_token = 0x06000001;
}

-- static int32 Fib(int32)
abbrev fib_code : List ℕ
fib_code =
    2 ∷ 0x18 ∷ 0x2f ∷ 2 ∷ 2 ∷ 0x2a ∷ 2 ∷ 0x17 ∷ 0x59 ∷ 0x28 ∷ 1 ∷ 0 ∷ 0 ∷ 6 ∷ 2 ∷ 0x18 ∷ 0x59 ∷ 0x28 ∷ 1 ∷ 0 ∷ 0 ∷ 6 ∷ 0x58 ∷ 0x2a ∷ []

-- static int32 Div(int32, int32) divides; static void Loop() jumps to itself
abbrev div_code : List ℕ
div_code = 2 ∷ 3 ∷ 0x5b ∷ 0x2a ∷ []

abbrev loop_code : List ℕ
loop_code = 0x2b ∷ 0xfe ∷ []

-- methods without a name: one calls what P lacks, one the line of a string, and one has no typing
abbrev gone_code : List ℕ
gone_code = 0x28 ∷ 3 ∷ 0 ∷ 0 ∷ 0xa ∷ 0x2a ∷ []

abbrev outside_code : List ℕ
outside_code = 0x28 ∷ 4 ∷ 0 ∷ 0 ∷ 0xa ∷ 0x2a ∷ []

abbrev untyped_code : List ℕ
untyped_code = 0x16 ∷ 0x16 ∷ []

-- static void Say() prints 42, and calls Say of P
abbrev say_code : List ℕ
say_code = 0x1f ∷ 0x2a ∷ 0x28 ∷ 2 ∷ 0 ∷ 0 ∷ 0xa ∷ 0x28 ∷ 1 ∷ 0 ∷ 0 ∷ 0xa ∷ 0x2a ∷ []

-- a row of MethodDef with a name and a signature
abbrev static_method : ℕ → ℕ → List ℕ
static_method name sig = 8192 ∷ 0 ∷ 16 ∷ name ∷ sig ∷ 1 ∷ []

abbrev a_tables : List (ℕ × List (List ℕ))
a_tables =
    (0x0, ((0 ∷ 1 ∷ 0 ∷ 0 ∷ 0 ∷ []) ∷ []))
    ∷ (0x1, ((6 ∷ 20 ∷ 0 ∷ []) ∷ (10 ∷ 33 ∷ 26 ∷ []) ∷ []))
    ∷ (0x2, ((0 ∷ 3 ∷ 0 ∷ 0 ∷ 1 ∷ 1 ∷ []) ∷ []))
    ∷ (
      0x6,
      (static_method 5 1 ∷ static_method 9 6 ∷ static_method 13 12 ∷ static_method 22 12 ∷ static_method 0
          12 ∷ static_method 0 12 ∷ static_method 0 12 ∷ []),
    )
    ∷ (0xa, ((9 ∷ 22 ∷ 12 ∷ []) ∷ (17 ∷ 41 ∷ 16 ∷ []) ∷ (9 ∷ 5 ∷ 12 ∷ []) ∷ (17 ∷ 41 ∷ 21 ∷ []) ∷ []))
    ∷ (0x20, ((0 ∷ 0 ∷ 0 ∷ 0 ∷ 0 ∷ 0 ∷ 0 ∷ 1 ∷ 0 ∷ []) ∷ []))
    ∷ (0x23, ((0 ∷ 0 ∷ 0 ∷ 0 ∷ 0 ∷ 0 ∷ 18 ∷ 0 ∷ 0 ∷ []) ∷ (0 ∷ 0 ∷ 0 ∷ 0 ∷ 0 ∷ 0 ∷ 26 ∷ 0 ∷ 0 ∷ []) ∷ []))
    ∷ []

abbrev l_tables : List (ℕ × List (List ℕ))
l_tables =
    (0x0, ((0 ∷ 18 ∷ 0 ∷ 0 ∷ 0 ∷ []) ∷ []))
    ∷ (0x2, ((0 ∷ 20 ∷ 0 ∷ 0 ∷ 1 ∷ 1 ∷ []) ∷ []))
    ∷ (0x6, (static_method 22 12 ∷ []))
    ∷ (0x20, ((0 ∷ 0 ∷ 0 ∷ 0 ∷ 0 ∷ 0 ∷ 0 ∷ 18 ∷ 0 ∷ []) ∷ []))
    ∷ []

abbrev world : World
world =
    assembly a_tables (fib_code ∷ div_code ∷ loop_code ∷ say_code ∷ gone_code ∷ outside_code ∷ untyped_code ∷ [])
    ∷ assembly l_tables ((0x2A ∷ []) ∷ []) ∷ []

-- ---- names and tokens

names_found :
    (assembly_named world (codes "A") ≡ Some 0)
    × (assembly_named world (codes "L") ≡ Some 1)
    × (assembly_named world (codes "System") ≡ None)
unfolding chars is_utf8 encode_utf8 digits tagged_table blob_in text_in opcode_of operand_of instr_at instr_size operand_at
    element_of after_items after_type after_type_within coded_type type_in type_of types_in field_sig_of local_sig_of
    method_sig_of assembly_name blob_at body_of coded_token column fields_of local_signature member_method_signature
    method_signature methods_of string_at assembly_in assembly_named first_duplicate has_text name_in rows_before rows_of_world
    text_at base_of built_in_type chain_within fits method_class nested_named resolve_ref_within resolve_type scope_of type_named
    built_in class_of_method field_type member_method member_parent method_in resolve_method same_signature signature_of
    class_within instrs_from instrs_of is_abstract is_narrow method_of place_of places_of profile_method profile_shape shape_of
    type_in_profile binary checked_binary compares narrowed shifted first_untyped flow_at flow_of is_typing kind_fits
    method_in_profile settled typing_of widen_all with_stack last_first under_arguments act at_frame compare frame_step kept
    kept_all on_many after arguments_by cil enter run_of step
names_found = (refl, refl, refl)

-- a TypeDef, a TypeRef of an assembly of the world, and one of an assembly that isn't there; a TypeSpec doesn't resolve
types_found :
    (resolve_type world 0 0x02000001 ≡ Some (types.Class 0 1)) × (resolve_type world 0 0x01000001 ≡ Some (types.Class 1 1))
    × (resolve_type world 0 0x01000002 ≡ Some types.Console) × (resolve_type world 0 0x1B000001 ≡ None)
unfolding chars is_utf8 encode_utf8 digits tagged_table blob_in text_in opcode_of operand_of instr_at instr_size operand_at
    element_of after_items after_type after_type_within coded_type type_in type_of types_in field_sig_of local_sig_of
    method_sig_of assembly_name blob_at body_of coded_token column fields_of local_signature member_method_signature
    method_signature methods_of string_at assembly_in assembly_named first_duplicate has_text name_in rows_before rows_of_world
    text_at base_of built_in_type chain_within fits method_class nested_named resolve_ref_within resolve_type scope_of type_named
    built_in class_of_method field_type member_method member_parent method_in resolve_method same_signature signature_of
    class_within instrs_from instrs_of is_abstract is_narrow method_of place_of places_of profile_method profile_shape shape_of
    type_in_profile binary checked_binary compares narrowed shifted first_untyped flow_at flow_of is_typing kind_fits
    method_in_profile settled typing_of widen_all with_stack last_first under_arguments act at_frame compare frame_step kept
    kept_all on_many after arguments_by cil enter run_of step
types_found = (refl, refl, refl, refl)

-- by name and signature in another assembly, and among the built-in ones
methods_found :
    (resolve_method world 0 0x06000002 ≡ Some (method_id 0 2)) × (resolve_method world 0 0x0A000001 ≡ Some (method_id 1 1))
    × (resolve_method world 0 0x0A000002 ≡ Some (method_id 64 3)) × (resolve_method world 0 0x06000008 ≡ None)
unfolding chars is_utf8 encode_utf8 digits tagged_table blob_in text_in opcode_of operand_of instr_at instr_size operand_at
    element_of after_items after_type after_type_within coded_type type_in type_of types_in field_sig_of local_sig_of
    method_sig_of assembly_name blob_at body_of coded_token column fields_of local_signature member_method_signature
    method_signature methods_of string_at assembly_in assembly_named first_duplicate has_text name_in rows_before rows_of_world
    text_at base_of built_in_type chain_within fits method_class nested_named resolve_ref_within resolve_type scope_of type_named
    built_in class_of_method field_type member_method member_parent method_in resolve_method same_signature signature_of
    class_within instrs_from instrs_of is_abstract is_narrow method_of place_of places_of profile_method profile_shape shape_of
    type_in_profile binary checked_binary compares narrowed shifted first_untyped flow_at flow_of is_typing kind_fits
    method_in_profile settled typing_of widen_all with_stack last_first under_arguments act at_frame compare frame_step kept
    kept_all on_many after arguments_by cil enter run_of step
methods_found = (refl, refl, refl, refl)

-- ---- typings, of methods without arguments that return an int32

abbrev of_code : List ℕ → Method
of_code code =
    record { id = method_id 0 1; shape = shape (Some (Integer elems.I4)) []; locals = []; max_stack = 8; code = code; more = false }

-- the sum of four and eight bytes has none, at the addition; a constant that is returned has one; running past the end has none
untyped_at :
    (first_untyped world (of_code (0x16 ∷ 0x21 ∷ 0 ∷ 0 ∷ 0 ∷ 0 ∷ 0 ∷ 0 ∷ 0 ∷ 0 ∷ 0x58 ∷ 0x2a ∷ [])) ≡ Some 10)
    × (first_untyped world (of_code (0x16 ∷ 0x2a ∷ [])) ≡ None)
    × (first_untyped world (of_code (0x16 ∷ 0x16 ∷ [])) ≡ Some 1)
unfolding chars is_utf8 encode_utf8 digits tagged_table blob_in text_in opcode_of operand_of instr_at instr_size operand_at
    element_of after_items after_type after_type_within coded_type type_in type_of types_in field_sig_of local_sig_of
    method_sig_of assembly_name blob_at body_of coded_token column fields_of local_signature member_method_signature
    method_signature methods_of string_at assembly_in assembly_named first_duplicate has_text name_in rows_before rows_of_world
    text_at base_of built_in_type chain_within fits method_class nested_named resolve_ref_within resolve_type scope_of type_named
    built_in class_of_method field_type member_method member_parent method_in resolve_method same_signature signature_of
    class_within instrs_from instrs_of is_abstract is_narrow method_of place_of places_of profile_method profile_shape shape_of
    type_in_profile binary checked_binary compares narrowed shifted first_untyped flow_at flow_of is_typing kind_fits
    method_in_profile settled typing_of widen_all with_stack last_first under_arguments act at_frame compare frame_step kept
    kept_all on_many after arguments_by cil enter run_of step
untyped_at = (refl, refl, refl)

-- where two stacks meet, it is the later of the two instructions before; a ninth value is above a stack of eight
clashes_at :
    (first_untyped world (of_code (0x16 ∷ 0x2d ∷ 2 ∷ 0x16 ∷ 0 ∷ 0x16 ∷ 0x2a ∷ [])) ≡ Some 4)
    × (first_untyped world (of_code (0x16 ∷ 0x16 ∷ 0x16 ∷ 0x16 ∷ 0x16 ∷ 0x16 ∷ 0x16 ∷ 0x16 ∷ 0x16 ∷ 0x2a ∷ [])) ≡ Some 8)
unfolding chars is_utf8 encode_utf8 digits tagged_table blob_in text_in opcode_of operand_of instr_at instr_size operand_at
    element_of after_items after_type after_type_within coded_type type_in type_of types_in field_sig_of local_sig_of
    method_sig_of assembly_name blob_at body_of coded_token column fields_of local_signature member_method_signature
    method_signature methods_of string_at assembly_in assembly_named first_duplicate has_text name_in rows_before rows_of_world
    text_at base_of built_in_type chain_within fits method_class nested_named resolve_ref_within resolve_type scope_of type_named
    built_in class_of_method field_type member_method member_parent method_in resolve_method same_signature signature_of
    class_within instrs_from instrs_of is_abstract is_narrow method_of place_of places_of profile_method profile_shape shape_of
    type_in_profile binary checked_binary compares narrowed shifted first_untyped flow_at flow_of is_typing kind_fits
    method_in_profile settled typing_of widen_all with_stack last_first under_arguments act at_frame compare frame_step kept
    kept_all on_many after arguments_by cil enter run_of step
clashes_at = (refl, refl)

-- the constant is on the stack when it is returned; what follows a jump that is always taken isn't reached
stacks :
    (typing_of world (of_code (0x16 ∷ 0x2a ∷ [])) ≡ Some ((0, []) ∷ (1, kinds.I4 ∷ []) ∷ []))
    × (typing_of world (of_code (0x2b ∷ 1 ∷ 0x26 ∷ 0x16 ∷ 0x2a ∷ [])) ≡ Some ((0, []) ∷ (3, []) ∷ (4, kinds.I4 ∷ []) ∷ []))
unfolding chars is_utf8 encode_utf8 digits tagged_table blob_in text_in opcode_of operand_of instr_at instr_size operand_at
    element_of after_items after_type after_type_within coded_type type_in type_of types_in field_sig_of local_sig_of
    method_sig_of assembly_name blob_at body_of coded_token column fields_of local_signature member_method_signature
    method_signature methods_of string_at assembly_in assembly_named first_duplicate has_text name_in rows_before rows_of_world
    text_at base_of built_in_type chain_within fits method_class nested_named resolve_ref_within resolve_type scope_of type_named
    built_in class_of_method field_type member_method member_parent method_in resolve_method same_signature signature_of
    class_within instrs_from instrs_of is_abstract is_narrow method_of place_of places_of profile_method profile_shape shape_of
    type_in_profile binary checked_binary compares narrowed shifted first_untyped flow_at flow_of is_typing kind_fits
    method_in_profile settled typing_of widen_all with_stack last_first under_arguments act at_frame compare frame_step kept
    kept_all on_many after arguments_by cil enter run_of step
stacks = (refl, refl)

-- ---- runs: how one ended, and what it printed

abbrev ended : {R H : Type 0} → Run R H → Option (Ending × List ℕ)
ended (Over o) = Some (o.ending, o.output)
ended (Going s) = None
ended Stuck = None

abbrev run : ℕ → List ℤ → ℕ → Option (Ending × List ℕ)
run row numbers ticks = ended (cil world (method_id 0 row) numbers ticks)

-- the least number by -1, by zero, and a quotient toward zero: -3 as a number of 32 bits
division :
    (run 2 (negsuc 2147483647 ∷ negsuc 0 ∷ []) 9 ≡ Some (endings.Overflow, []))
    × (run 2 (pos 5 ∷ pos 0 ∷ []) 9 ≡ Some (endings.DivideByZero, []))
    × (run 2 (negsuc 6 ∷ pos 2 ∷ []) 9 ≡ Some (endings.Return 4294967293, []))
unfolding chars is_utf8 encode_utf8 digits tagged_table blob_in text_in opcode_of operand_of instr_at instr_size operand_at
    element_of after_items after_type after_type_within coded_type type_in type_of types_in field_sig_of local_sig_of
    method_sig_of assembly_name blob_at body_of coded_token column fields_of local_signature member_method_signature
    method_signature methods_of string_at assembly_in assembly_named first_duplicate has_text name_in rows_before rows_of_world
    text_at base_of built_in_type chain_within fits method_class nested_named resolve_ref_within resolve_type scope_of type_named
    built_in class_of_method field_type member_method member_parent method_in resolve_method same_signature signature_of
    class_within instrs_from instrs_of is_abstract is_narrow method_of place_of places_of profile_method profile_shape shape_of
    type_in_profile binary checked_binary compares narrowed shifted first_untyped flow_at flow_of is_typing kind_fits
    method_in_profile settled typing_of widen_all with_stack last_first under_arguments act at_frame compare frame_step kept
    kept_all on_many after arguments_by cil enter run_of step
division = (refl, refl, refl)

-- a jump to itself takes a tick each time
loops :
    run 3 [] 5 ≡ Some (endings.OutOfTicks, [])
unfolding chars is_utf8 encode_utf8 digits tagged_table blob_in text_in opcode_of operand_of instr_at instr_size operand_at
    element_of after_items after_type after_type_within coded_type type_in type_of types_in field_sig_of local_sig_of
    method_sig_of assembly_name blob_at body_of coded_token column fields_of local_signature member_method_signature
    method_signature methods_of string_at assembly_in assembly_named first_duplicate has_text name_in rows_before rows_of_world
    text_at base_of built_in_type chain_within fits method_class nested_named resolve_ref_within resolve_type scope_of type_named
    built_in class_of_method field_type member_method member_parent method_in resolve_method same_signature signature_of
    class_within instrs_from instrs_of is_abstract is_narrow method_of place_of places_of profile_method profile_shape shape_of
    type_in_profile binary checked_binary compares narrowed shifted first_untyped flow_at flow_of is_typing kind_fits
    method_in_profile settled typing_of widen_all with_stack last_first under_arguments act at_frame compare frame_step kept
    kept_all on_many after arguments_by cil enter run_of step
loops = refl

-- 42 is printed, then P::Say is called: each entry and each return takes a tick
says :
    (run 4 [] 5 ≡ Some (endings.Return 0, codes "42\n"))
    × (run 4 [] 4 ≡ Some (endings.OutOfTicks, codes "42\n"))
    × (run 4 [] 1 ≡ Some (endings.OutOfTicks, []))
unfolding chars is_utf8 encode_utf8 digits tagged_table blob_in text_in opcode_of operand_of instr_at instr_size operand_at
    element_of after_items after_type after_type_within coded_type type_in type_of types_in field_sig_of local_sig_of
    method_sig_of assembly_name blob_at body_of coded_token column fields_of local_signature member_method_signature
    method_signature methods_of string_at assembly_in assembly_named first_duplicate has_text name_in rows_before rows_of_world
    text_at base_of built_in_type chain_within fits method_class nested_named resolve_ref_within resolve_type scope_of type_named
    built_in class_of_method field_type member_method member_parent method_in resolve_method same_signature signature_of
    class_within instrs_from instrs_of is_abstract is_narrow method_of place_of places_of profile_method profile_shape shape_of
    type_in_profile binary checked_binary compares narrowed shifted first_untyped flow_at flow_of is_typing kind_fits
    method_in_profile settled typing_of widen_all with_stack last_first under_arguments act at_frame compare frame_step kept
    kept_all on_many after arguments_by cil enter run_of step
says = (refl, refl, refl)

-- a token that doesn't resolve, and a method without its shape, end the run at the call; a method that has no typing ends it at its entry
refused :
    (run 5 [] 1 ≡ Some (endings.Missing, [])) × (run 6 [] 1 ≡ Some (endings.Unsupported, []))
    × (run 7 [] 1 ≡ Some (endings.Unsupported, [])) × (run 7 [] 0 ≡ Some (endings.OutOfTicks, []))
unfolding chars is_utf8 encode_utf8 digits tagged_table blob_in text_in opcode_of operand_of instr_at instr_size operand_at
    element_of after_items after_type after_type_within coded_type type_in type_of types_in field_sig_of local_sig_of
    method_sig_of assembly_name blob_at body_of coded_token column fields_of local_signature member_method_signature
    method_signature methods_of string_at assembly_in assembly_named first_duplicate has_text name_in rows_before rows_of_world
    text_at base_of built_in_type chain_within fits method_class nested_named resolve_ref_within resolve_type scope_of type_named
    built_in class_of_method field_type member_method member_parent method_in resolve_method same_signature signature_of
    class_within instrs_from instrs_of is_abstract is_narrow method_of place_of places_of profile_method profile_shape shape_of
    type_in_profile binary checked_binary compares narrowed shifted first_untyped flow_at flow_of is_typing kind_fits
    method_in_profile settled typing_of widen_all with_stack last_first under_arguments act at_frame compare frame_step kept
    kept_all on_many after arguments_by cil enter run_of step
refused = (refl, refl, refl, refl)

-- the third number of Fibonacci
fibonacci :
    run 1 (pos 3 ∷ []) 10 ≡ Some (endings.Return 2, [])
unfolding chars is_utf8 encode_utf8 digits tagged_table blob_in text_in opcode_of operand_of instr_at instr_size operand_at
    element_of after_items after_type after_type_within coded_type type_in type_of types_in field_sig_of local_sig_of
    method_sig_of assembly_name blob_at body_of coded_token column fields_of local_signature member_method_signature
    method_signature methods_of string_at assembly_in assembly_named first_duplicate has_text name_in rows_before rows_of_world
    text_at base_of built_in_type chain_within fits method_class nested_named resolve_ref_within resolve_type scope_of type_named
    built_in class_of_method field_type member_method member_parent method_in resolve_method same_signature signature_of
    class_within instrs_from instrs_of is_abstract is_narrow method_of place_of places_of profile_method profile_shape shape_of
    type_in_profile binary checked_binary compares narrowed shifted first_untyped flow_at flow_of is_typing kind_fits
    method_in_profile settled typing_of widen_all with_stack last_first under_arguments act at_frame compare frame_step kept
    kept_all on_many after arguments_by cil enter run_of step
fibonacci = refl

-- ---- the depth

abbrev waiting : Frame (Unit {0})
waiting = record { method = method_id 0 3; at = 0; arguments = []; locals = []; stack = [] }

-- with 1,024 methods entered no other one is, after its tick
depth :
    (ended (enter no_objects world (replicate 1024 waiting) (method_id 0 3) [] [] 1 []) ≡ Some (endings.DepthLimit, []))
    × (ended (enter no_objects world (replicate 1024 waiting) (method_id 0 3) [] [] 0 []) ≡ Some (endings.OutOfTicks, []))
    × (ended (enter no_objects world (replicate 1023 waiting) (method_id 0 3) [] [] 1 []) ≡ None)
unfolding chars is_utf8 encode_utf8 digits tagged_table blob_in text_in opcode_of operand_of instr_at instr_size operand_at
    element_of after_items after_type after_type_within coded_type type_in type_of types_in field_sig_of local_sig_of
    method_sig_of assembly_name blob_at body_of coded_token column fields_of local_signature member_method_signature
    method_signature methods_of string_at assembly_in assembly_named first_duplicate has_text name_in rows_before rows_of_world
    text_at base_of built_in_type chain_within fits method_class nested_named resolve_ref_within resolve_type scope_of type_named
    built_in class_of_method field_type member_method member_parent method_in resolve_method same_signature signature_of
    class_within instrs_from instrs_of is_abstract is_narrow method_of place_of places_of profile_method profile_shape shape_of
    type_in_profile binary checked_binary compares narrowed shifted first_untyped flow_at flow_of is_typing kind_fits
    method_in_profile settled typing_of widen_all with_stack last_first under_arguments act at_frame compare frame_step kept
    kept_all on_many after arguments_by cil enter run_of step
depth = (refl, refl, refl)
