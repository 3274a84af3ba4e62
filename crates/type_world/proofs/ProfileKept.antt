-- What a world keeps of the profile, by position and by row.
use Rattle.std.proofs.Common.{◌≡◌, ◌≢◌, ℕ, zero, suc, ◌+◌, ◌<◌, ◌≤◌, Bool, true, false, ◌&&◌, not, List}
use Rattle.std.proofs.Common.{length, map, slice_get, Option, Some, None, refl, sym, ap, subst, ◌∙◌, arith, if◌then◌else◌, is_some, ne_eqb}
use Rattle.std.proofs.Common.{option_and_then, IfSome}
use Rattle.std.specs.Option.{option_map}
use Rattle.std.specs.List.{range_with_len}
use Rattle.std.proofs.lemmas.Option.{get_or_from_slice_get, slice_get-get_or, slice_get_past, slice_get_within}
use Rattle.std.proofs.lemmas.List.FromFn.{get_or-map-range_with_len, length-map-range_with_len}
use Rattle.metadata.specs.declared.schema.Table.TheVariants as tables
use Rattle.cli_assembly.specs.Assemblies.{Assembly, blob_at, body_of, column, method_signature, row_count}
use Rattle.cli_assembly.specs.Bodies.{MethodBody}
use Rattle.cli_assembly.specs.Kept.{answer_of, nth_row}
use Rattle.cli_assembly.specs.Signatures.{method_sig_of}
use Rattle.type_world.specs.declared.classes_in_profile.ClassFacts.{ClassFacts}
use Rattle.type_world.specs.declared.identity.MethodId.{MethodId}
use Rattle.type_world.specs.declared.identity.TheConstants.{BUILT_IN}
use Rattle.type_world.specs.declared.identity.TypeId.TheVariants as types
use Rattle.type_world.specs.declared.place.Place.{Place}
use Rattle.type_world.specs.declared.place.Shape.{Shape}
use Rattle.type_world.specs.Loading.{world_of}
use Rattle.type_world.specs.Members.{built_in, built_ins, method_id, signature_of}
use Rattle.type_world.specs.Profile.{Method, if_narrow, is_narrow, meets_limits, meets_profile, method, method_of, profile_method}
use Rattle.type_world.specs.Profile.{profile_shape, shape_by, shape_of, type_in_profile}
use Rattle.type_world.specs.Profiled.{Answers, answers_in, answers_of, built_in_shapes, facts, facts_in, facts_of, profile_locals}
use Rattle.type_world.specs.World.{World, assembly_in}
use Rattle.type_world.proofs.Bound.{both_right}
use Rattle.type_world.proofs.ClassRows.{no_body, no_method_signature, past_last, there_is_none}
use Rattle.type_world.proofs.Listed.{by_row_is, past_rows}
use Rattle.type_world.proofs.Meets.{no_locals, none_shaped}
use Rattle.type_world.proofs.Names.{count_is}

-- ---- lists of answers

pub at_position : {X : Type 0} (f : ℕ → X) (n asm : ℕ) (x : X) → slice_get (map f (range_with_len 0 n)) asm ≡ Some x → x ≡ f asm
at_position f n asm x e =
    let within = slice_get_within (map f (range_with_len 0 n)) asm x e in
    let long = length-map-range_with_len f 0 n in
    sym (get_or_from_slice_get (map f (range_with_len 0 n)) asm x x e)
    ∙ get_or-map-range_with_len f 0 n asm asm x (omega (arith, within, long)) (omega arith)

pub missing : {X : Type 0} (f : ℕ → X) (files : List (List ℕ)) (asm : ℕ)
    → slice_get (map f (range_with_len 0 (length (world_of files)))) asm ≡ None → slice_get files asm ≡ None
missing f files asm e = by_file (slice_get files asm) refl
  where
    by_file : (o : Option (List ℕ)) → slice_get files asm ≡ o → o ≡ None
    by_file None q = refl
    by_file (Some file) q =
        let within = slice_get_within files asm file q in
        let count = count_is files in
        let long = length-map-range_with_len f 0 (length (world_of files)) in
        let some = slice_get-get_or (map f (range_with_len 0 (length (world_of files)))) asm (f asm) (omega (arith, within, count, long)) in
        absurd (cc)

-- ---- classes

pub kept_facts : (world : World) (asm row : ℕ) (all : List ClassFacts) (f : ClassFacts) → slice_get (facts_in world) asm ≡ Some all
    → slice_get all row ≡ Some f → f ≡ facts world asm row
unfolding facts_of
kept_facts world asm row all f e g =
    at_position (facts world asm) (row_count (assembly_in world asm) tables.TypeDef + 1) row f
    (subst (λ l. slice_get l row ≡ Some f) (at_position (facts_of world) (length world) asm all e) g)

pub kept_class : (world : World) (asm row : ℕ) (k : Answers) (b : Bool) → slice_get (answers_in world) asm ≡ Some k
    → slice_get k.classes row ≡ Some b → b ≡ type_in_profile world (types.Class asm row)
unfolding answers_of
kept_class world asm row k b e f =
    at_position (λ r. type_in_profile world (types.Class asm r)) (row_count (assembly_in world asm) tables.TypeDef + 1) row b
    (subst (λ a. slice_get a.classes row ≡ Some b) (at_position (answers_of world) (length world) asm k e) f)

pub class_found : (world : World) (asm row : ℕ) (k : Answers) (o : Option Bool) → slice_get (answers_in world) asm ≡ Some k
    → o ≡ slice_get k.classes row → IfSome o (λ b. b ≡ type_in_profile world (types.Class asm row))
class_found world asm row k None e f = tt
class_found world asm row k (Some b) e f = kept_class world asm row k b e (sym f)

-- a row that is there
in_row : {X : Type 0} (f : ℕ → X) (n i : ℕ) → i < n → nth_row (map f (range_with_len 1 n)) (i + 1) ≡ Some (f (i + 1))
unfolding nth_row
in_row f n i l =
    let long = length-map-range_with_len f 1 n in
    let next : i + 1 ≡ suc i = omega arith in
    ap (nth_row (map f (range_with_len 1 n))) next
    ∙ slice_get-get_or (map f (range_with_len 1 n)) i (f (i + 1)) (omega (arith, l, long))
    ∙ ap Some (get_or-map-range_with_len f 1 n i (i + 1) (f (i + 1)) l (omega arith))

pub kept_row_shape : (world : World) (asm i : ℕ) (shapes : List (Option Shape)) → i < row_count (assembly_in world asm) tables.MethodDef
    → shapes ≡ (answers_of world asm).shapes → answer_of shapes (i + 1) ≡ profile_shape world (method_id asm (i + 1))
unfolding answers_of
kept_row_shape world asm i shapes l e =
    ap (λ s. answer_of s (i + 1)) e
    ∙ ap (option_and_then (λ x. x))
    (in_row (λ row. profile_shape world (method_id asm row)) (row_count (assembly_in world asm) tables.MethodDef) i l)

-- ---- methods without a signature have no shape

unsigned : (world : World) (id : MethodId) → signature_of world id ≡ None → profile_shape world id ≡ None
unfolding profile_shape shape_of
unsigned world id e = ap (λ o. option_and_then (if_narrow world id) (option_and_then (shape_by world id) o)) e

row_unsigned : (world : World) (id : MethodId) → id.asm ≢ 64 → method_signature (assembly_in world id.asm) id.row ≡ None
    → profile_shape world id ≡ None
unfolding signature_of
row_unsigned world id differ e =
    unsigned world id
    (ap (λ b. if b then option_map (λ b. b.sig) (built_in id.row) else method_signature (assembly_in world id.asm) id.row)
    (ne_eqb id.asm BUILT_IN differ)
    ∙ e)

no_first : (a : Assembly) → method_signature a 0 ≡ None
unfolding method_signature
no_first a = refl

no_later : (a : Assembly) (i : ℕ) → row_count a tables.MethodDef ≤ i → method_signature a (suc i) ≡ None
unfolding method_signature
no_later a i l =
    ap (λ b. if b then option_and_then method_sig_of (blob_at a (column a tables.MethodDef (suc i) 4)) else None)
    (past_last (row_count a tables.MethodDef) (suc i) (omega arith))

pub no_row_shape : (files : List (List ℕ)) (id : MethodId) → id.asm ≢ 64
    → slice_get (answers_in (world_of files)) id.asm ≡ None → profile_shape (world_of files) id ≡ None
no_row_shape files id differ e =
    row_unsigned (world_of files) id differ
    (ap (λ a. method_signature a id.row) (there_is_none files id.asm (missing (answers_of (world_of files)) files id.asm e))
    ∙ no_method_signature id.row)

pub kept_shape : (world : World) (id : MethodId) (k : Answers) → id.asm ≢ 64 → slice_get (answers_in world) id.asm ≡ Some k
    → answer_of k.shapes id.row ≡ profile_shape world id
unfolding answers_of
kept_shape world id k differ e =
    ap (λ a. answer_of a.shapes id.row) (at_position (answers_of world) (length world) id.asm k e)
    ∙ by_row_is (λ row. profile_shape world (method_id id.asm row)) (row_count (assembly_in world id.asm) tables.MethodDef) id.row
    (row_unsigned world (method_id id.asm 0) differ (no_first (assembly_in world id.asm)))
    (λ i past. row_unsigned world (method_id id.asm (suc i)) differ (no_later (assembly_in world id.asm) i past))

unshaped : (world : World) (id : MethodId) → profile_shape world id ≡ None → profile_locals world id ≡ None
unshaped world id e = no_locals world id (none_shaped world id (ap is_some e))

pub kept_locals_of : (world : World) (id : MethodId) (k : Answers) → id.asm ≢ 64 → slice_get (answers_in world) id.asm ≡ Some k
    → answer_of k.locals id.row ≡ profile_locals world id
unfolding answers_of
kept_locals_of world id k differ e =
    ap (λ a. answer_of a.locals id.row) (at_position (answers_of world) (length world) id.asm k e)
    ∙ by_row_is (λ row. profile_locals world (method_id id.asm row)) (row_count (assembly_in world id.asm) tables.MethodDef) id.row
    (unshaped world (method_id id.asm 0) (row_unsigned world (method_id id.asm 0) differ (no_first (assembly_in world id.asm))))
    (λ i past. unshaped world (method_id id.asm (suc i))
    (row_unsigned world (method_id id.asm (suc i)) differ (no_later (assembly_in world id.asm) i past)))

-- ---- the built-in methods

built_in_unsigned : (world : World) (row : ℕ) → built_in row ≡ None → profile_shape world (method_id BUILT_IN row) ≡ None
unfolding signature_of
built_in_unsigned world row e = unsigned world (method_id BUILT_IN row) (ap (option_map (λ b. b.sig)) e)

no_built_in_first : built_in 0 ≡ None
unfolding built_in
no_built_in_first = refl

no_built_in_later : (i : ℕ) → 8 ≤ i → built_in (suc i) ≡ None
unfolding built_in
no_built_in_later i l = past_rows built_ins (suc i) (omega arith)

pub kept_built_in : (world : World) (id : MethodId) (shapes : List (Option Shape)) → id.asm ≡ 64 → shapes ≡ built_in_shapes world
    → answer_of shapes id.row ≡ profile_shape world id
unfolding built_in_shapes
kept_built_in world id shapes same kept =
    ap (λ l. answer_of l id.row) kept
    ∙ by_row_is (λ row. profile_shape world (method_id BUILT_IN row)) 8 id.row (built_in_unsigned world 0 no_built_in_first)
    (λ i past. built_in_unsigned world (suc i) (no_built_in_later i past))
    ∙ ap (λ asm. profile_shape world (method_id asm id.row)) (sym same)

-- ---- a method by its parts

abbrev IsMade : (Method → Bool) → MethodId → Option Shape → Option MethodBody → Method → Type 0
IsMade meets id os ob m =
    (s : Shape) × (b : MethodBody) × (ls : List Place) × (os ≡ Some s) × (ob ≡ Some b) × (m ≡ method id b s ls) × (meets m ≡ true)

passed : (meets : Method → Bool) (m n : Method) → (if meets m then Some m else None) ≡ Some n → (m ≡ n) × (meets n ≡ true)
passed meets m n e = by_test (meets m) refl e
  where
    by_test : (t : Bool) → meets m ≡ t → (if t then Some m else None) ≡ Some n → (m ≡ n) × (meets n ≡ true)
    by_test true q h = let same : m ≡ n = cc in (same, subst (λ x. meets x ≡ true) same q)
    by_test false q h = absurd (cc)

parts : (meets : Method → Bool) (id : MethodId) (os : Option Shape) (ob : Option MethodBody) (locals : MethodBody → Option (List Place))
    (m : Method)
    → option_and_then (λ n. if meets n then Some n else None)
    (option_and_then (λ s. option_and_then (λ b. option_map (method id b s) (locals b)) ob) os)
    ≡ Some m
    → IsMade meets id os ob m
parts meets id None ob locals m e = absurd (cc)
parts meets id (Some s) None locals m e = absurd (cc)
parts meets id (Some s) (Some b) locals m e = by_locals (locals b) e
  where
    by_locals : (o : Option (List Place))
        → option_and_then (λ n. if meets n then Some n else None) (option_map (method id b s) o) ≡ Some m
        → IsMade meets id (Some s) (Some b) m
    by_locals None h = absurd (cc)
    by_locals (Some ls) h =
        let both : (method id b s ls ≡ m) × (meets m ≡ true) = passed meets (method id b s ls) m h in
        (s, b, ls, refl, refl, sym both.0, both.1)

parts_of : (world : World) (id : MethodId) (m : Method) → profile_method world id ≡ Some m
    → IsMade (meets_profile world) id (shape_of world id) (body_of (assembly_in world id.asm) id.row) m
unfolding profile_method method_of
parts_of world id m e = parts (meets_profile world) id (shape_of world id) (body_of (assembly_in world id.asm) id.row) _ m e

shape_is : (world : World) (id : MethodId) (s : Shape) → profile_shape world id ≡ Some s → shape_of world id ≡ Some s
unfolding profile_shape
shape_is world id s e = by_shape (shape_of world id) e
  where
    narrowed : (t : Bool) (o : Shape) → (if t then Some o else None) ≡ Some s → Some o ≡ Some s
    narrowed true o h = h
    narrowed false o h = absurd (cc)

    by_shape : (o : Option Shape) → option_and_then (if_narrow world id) o ≡ Some s → o ≡ Some s
    by_shape None h = absurd (cc)
    by_shape (Some t) h = narrowed (is_narrow world id t) t h

not_more : (a b c d e : Bool) → (not a && b && c && d && e) ≡ true → a ≡ false
not_more true b c d e h = absurd (cc)
not_more false b c d e h = refl

abbrev pub built : MethodId → Shape → List Place → MethodBody → Bool → Method
built id s ls b more = record { id = id; shape = s; locals = ls; max_stack = b.max_stack; code = b.code; more = more }

whole_method : (world : World) (id : MethodId) (m : Method) (s : Shape) (b : MethodBody) → profile_shape world id ≡ Some s
    → body_of (assembly_in world id.asm) id.row ≡ Some b
    → IsMade (meets_profile world) id (shape_of world id) (body_of (assembly_in world id.asm) id.row) m
    → m ≡ built id s m.locals b false
whole_method world id m s b shaped body made =
    let same_shape : made.0 ≡ s = let is = shape_is world id s shaped in let there = made.3 in cc in
    let same_body : made.1 ≡ b = let there = made.4 in cc in
    let is : m ≡ method id b s made.2 =
    made.5 ∙ ap (λ x. method id x made.0 made.2) same_body ∙ ap (λ x. method id b x made.2) same_shape in
    let limits : meets_limits m ≡ true = both_right _ (meets_limits m) made.6 in
    let more : m.more ≡ false = not_more m.more _ _ _ _ limits in
    let same_more : b.more ≡ false = sym (ap (λ x. x.more) is) ∙ more in
    is ∙ ap (built id s made.2 b) same_more ∙ ap (λ l. built id s l b false) (sym (ap (λ x. x.locals) is))

by_locals : (o : Option Method) (ls : List Place) → option_map (λ m. m.locals) o ≡ Some ls → (m : Method) × (o ≡ Some m) × (m.locals ≡ ls)
by_locals None ls e = absurd (cc)
by_locals (Some m) ls e = (m, refl, cc)

pub found : (world : World) (id : MethodId) (ls : List Place) (s : Shape) (b : MethodBody) → profile_locals world id ≡ Some ls
    → profile_shape world id ≡ Some s → body_of (assembly_in world id.asm) id.row ≡ Some b
    → profile_method world id ≡ Some (built id s ls b false)
unfolding profile_locals
found world id ls s b kept shaped body =
    let m : (m : Method) × (profile_method world id ≡ Some m) × (m.locals ≡ ls) = by_locals (profile_method world id) ls kept in
    m.1 ∙ ap Some (whole_method world id m.0 s b shaped body (parts_of world id m.0 m.1)
    ∙ ap (λ l. built id s l b false) m.2)

none_mapped : (o : Option Method) → option_map (λ m. m.locals) o ≡ None → o ≡ None
none_mapped None e = refl
none_mapped (Some m) e = absurd (cc)

pub none_by_locals : (world : World) (id : MethodId) → profile_locals world id ≡ None → None ≡ profile_method world id
unfolding profile_locals
none_by_locals world id e = sym (none_mapped (profile_method world id) e)

pub none_by_shape : (world : World) (id : MethodId) → profile_shape world id ≡ None → None ≡ profile_method world id
none_by_shape world id e = sym (none_shaped world id (ap is_some e))

pub none_by_body : (world : World) (id : MethodId) → body_of (assembly_in world id.asm) id.row ≡ None → None ≡ profile_method world id
none_by_body world id e = by_method (profile_method world id) refl
  where
    by_method : (o : Option Method) → profile_method world id ≡ o → None ≡ o
    by_method None q = refl
    by_method (Some m) q = let there = (parts_of world id m q).4 in absurd (cc)

no_row_locals : (files : List (List ℕ)) (id : MethodId) → slice_get files id.asm ≡ None → None ≡ profile_locals (world_of files) id
no_row_locals files id e =
    sym (no_locals (world_of files) id
    (sym (none_by_body (world_of files) id (ap (λ a. body_of a id.row) (there_is_none files id.asm e) ∙ no_body id.row))))

pub past_locals : (files : List (List ℕ)) (id : MethodId) → length files ≤ id.asm → None ≡ profile_locals (world_of files) id
past_locals files id l = no_row_locals files id (slice_get_past files id.asm l)

pub unkept_locals : (files : List (List ℕ)) (id : MethodId) → slice_get (answers_in (world_of files)) id.asm ≡ None
    → None ≡ profile_locals (world_of files) id
unkept_locals files id e = no_row_locals files id (missing (answers_of (world_of files)) files id.asm e)
