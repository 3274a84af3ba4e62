-- Which methods meet the conditions of the profile, by their locals.
use Rattle.std.proofs.Common.{◌≡◌, Bool, true, false, ◌&&◌, not, List, Option, Some, None, refl, sym, ap, ◌∙◌, is_some}
use Rattle.std.proofs.Common.{if◌then◌else◌, option_and_then}
use Rattle.std.specs.Option.{option_map}
use Rattle.cli_assembly.specs.Bodies.{MethodBody}
use Rattle.cli_assembly.specs.Assemblies.{body_of}
use Rattle.type_world.specs.declared.identity.MethodId.{MethodId}
use Rattle.type_world.specs.declared.place.Place.{Place}
use Rattle.type_world.specs.declared.place.Shape.{Shape}
use Rattle.metadata.specs.declared.schema.Table.TheVariants as tables
use Rattle.type_world.specs.Members.{class_of_method}
use Rattle.type_world.specs.Profile.{is_abstract, is_generic, is_in_profile}
use Rattle.type_world.specs.Profile.{Method, if_narrow, locals_of, meets_limits, meets_profile, method, method_of, profile_method}
use Rattle.type_world.specs.Profile.{profile_shape, shape_in_profile, shape_of}
use Rattle.type_world.specs.Profiled.{few_locals, is_candidate, limited_locals, profile_locals, within_limits}
use Rattle.type_world.specs.World.{World, assembly_in}

-- ---- the method that parts make, where a test of it is passed

abbrev made : (Method → Bool) → MethodId → Option Shape → Option MethodBody → (MethodBody → Option (List Place)) → Option Method
made meets id os ob locals =
    option_and_then (λ m. if meets m then Some m else None)
    (option_and_then (λ s. option_and_then (λ b. option_map (method id b s) (locals b)) ob) os)

by_limits : (meets : Method → Bool) (id : MethodId) (s : Shape) (b : MethodBody) (o : Option (List Place))
    → ((ls : List Place) → meets (method id b s ls) ≡ within_limits b ls)
    → option_map (λ m. m.locals) (option_and_then (λ m. if meets m then Some m else None) (option_map (method id b s) o))
    ≡ option_and_then (few_locals b) o
by_limits meets id s b None h = refl
by_limits meets id s b (Some ls) h =
    ap (λ t. option_map (λ m. m.locals) (if t then Some (method id b s ls) else None)) (h ls) ∙ by_test (within_limits b ls)
  where
    by_test : (t : Bool) → option_map (λ m. m.locals) (if t then Some (method id b s ls) else None) ≡ (if t then Some ls else None)
    by_test true = refl
    by_test false = refl

locals_are : (meets : Method → Bool) (id : MethodId) (os : Option Shape) (ob : Option MethodBody)
    (locals : MethodBody → Option (List Place))
    → is_some os ≡ true → ((s : Shape) (b : MethodBody) (ls : List Place) → meets (method id b s ls) ≡ within_limits b ls)
    → option_map (λ m. m.locals) (made meets id os ob locals) ≡ option_and_then (λ b. option_and_then (few_locals b) (locals b)) ob
locals_are meets id None ob locals e h = absurd (cc)
locals_are meets id (Some s) None locals e h = refl
locals_are meets id (Some s) (Some b) locals e h = by_limits meets id s b (locals b) (λ ls. h s b ls)

none_meets : (meets : Method → Bool) (id : MethodId) (s : Shape) (b : MethodBody) (o : Option (List Place))
    → ((ls : List Place) → meets (method id b s ls) ≡ false)
    → option_and_then (λ m. if meets m then Some m else None) (option_map (method id b s) o) ≡ None
none_meets meets id s b None h = refl
none_meets meets id s b (Some ls) h = ap (λ t. if t then Some (method id b s ls) else None) (h ls)

none_made : (meets : Method → Bool) (id : MethodId) (os : Option Shape) (ob : Option MethodBody) (locals : MethodBody → Option (List Place))
    → ((s : Shape) (b : MethodBody) (ls : List Place) → meets (method id b s ls) ≡ false) → made meets id os ob locals ≡ None
none_made meets id None ob locals h = refl
none_made meets id (Some s) None locals h = refl
none_made meets id (Some s) (Some b) locals h = none_meets meets id s b (locals b) (λ ls. h s b ls)

made_is : (world : World) (id : MethodId)
    → profile_method world id
    ≡ made (meets_profile world) id (shape_of world id) (body_of (assembly_in world id.asm) id.row) (λ b. locals_of world id.asm b.locals)
unfolding profile_method method_of
made_is world id = refl

-- ---- the conditions

all_met : (shaped class concrete plain limits : Bool) → shaped ≡ true → (class && concrete && plain) ≡ true
    → (shaped && class && concrete && plain && limits) ≡ limits
all_met true true true true limits e f = refl
all_met true true true false limits e f = absurd (cc)
all_met true true false plain limits e f = absurd (cc)
all_met true false concrete plain limits e f = absurd (cc)
all_met false class concrete plain limits e f = absurd (cc)

not_shaped : (shaped class concrete plain limits : Bool) → shaped ≡ false → (shaped && class && concrete && plain && limits) ≡ false
not_shaped true class concrete plain limits e = absurd (cc)
not_shaped false class concrete plain limits e = refl

not_met : (shaped class concrete plain limits : Bool) → (class && concrete && plain) ≡ false
    → (shaped && class && concrete && plain && limits) ≡ false
not_met true true true true limits e = absurd (cc)
not_met true true true false limits e = refl
not_met true true false plain limits e = refl
not_met true false concrete plain limits e = refl
not_met false class concrete plain limits e = refl

has_shape : (world : World) (id : MethodId) → shape_in_profile world id ≡ true → is_some (shape_of world id) ≡ true
unfolding profile_shape
has_shape world id e = by_shape (shape_of world id) e
  where
    by_shape : (o : Option Shape) → is_some (option_and_then (if_narrow world id) o) ≡ true → is_some o ≡ true
    by_shape None q = q
    by_shape (Some s) q = refl

-- ---- what is kept

pub kept_locals : (world : World) (id : MethodId) → shape_in_profile world id ≡ true → is_candidate world id ≡ true
    → limited_locals world id ≡ profile_locals world id
unfolding profile_locals
kept_locals world id shaped met =
    sym (ap (option_map (λ m. m.locals)) (made_is world id)
    ∙ locals_are (meets_profile world) id (shape_of world id) (body_of (assembly_in world id.asm) id.row)
    (λ b. locals_of world id.asm b.locals) (has_shape world id shaped)
    (λ s b ls. all_met _ _ _ _ (meets_limits (method id b s ls)) shaped met))

pub none_shaped : (world : World) (id : MethodId) → shape_in_profile world id ≡ false → profile_method world id ≡ None
none_shaped world id shaped =
    made_is world id
    ∙ none_made (meets_profile world) id (shape_of world id) (body_of (assembly_in world id.asm) id.row)
    (λ b. locals_of world id.asm b.locals) (λ s b ls. not_shaped _ _ _ _ (meets_limits (method id b s ls)) shaped)

none_candidate : (world : World) (id : MethodId) → is_candidate world id ≡ false → profile_method world id ≡ None
none_candidate world id met =
    made_is world id
    ∙ none_made (meets_profile world) id (shape_of world id) (body_of (assembly_in world id.asm) id.row)
    (λ b. locals_of world id.asm b.locals)
    (λ s b ls. not_met (shape_in_profile world id) (is_in_profile world (class_of_method world id)) (not (is_abstract world id))
    (not (is_generic world id.asm tables.MethodDef id.row)) (meets_limits (method id b s ls)) met)

pub no_locals : (world : World) (id : MethodId) → profile_method world id ≡ None → profile_locals world id ≡ None
unfolding profile_locals
no_locals world id e = ap (option_map (λ m. m.locals)) e

pub unshaped_locals : (world : World) (id : MethodId) → shape_in_profile world id ≡ false → None ≡ profile_locals world id
unshaped_locals world id e = sym (no_locals world id (none_shaped world id e))

pub unmet_locals : (world : World) (id : MethodId) → is_candidate world id ≡ false → None ≡ profile_locals world id
unmet_locals world id e = sym (no_locals world id (none_candidate world id e))
