-- The shape of a method in the profile.
use Rattle.std.proofs.Common.{◌≡◌, ◌&&◌, Bool, true, false, List, Option, Some, None, refl, sym, ◌∙◌, subst, if◌then◌else◌}
use Rattle.std.proofs.Common.{option_and_then, is_some}
use Rattle.std.proofs.lemmas.Option.{same_Some}
use Rattle.std.specs.Option.{option_map}
use Rattle.cli_assembly.specs.Bodies.{MethodBody}
use Rattle.cli_assembly.specs.Assemblies.{body_of}
use Rattle.type_world.specs.declared.identity.MethodId.{MethodId}
use Rattle.type_world.specs.declared.place.Place.{Place}
use Rattle.type_world.specs.declared.place.Shape.{Shape}
use Rattle.type_world.specs.World.{World, assembly_in}
use Rattle.type_world.specs.Members.{class_of_method}
use Rattle.type_world.specs.Profile.{Method, if_meets, if_narrow, is_in_profile, is_narrow, locals_of, meets_limits}
use Rattle.type_world.specs.Profile.{meets_profile, method, method_of, method_with, profile_method, profile_shape}
use Rattle.type_world.specs.Profile.{shape_in_profile, shape_of}
use Rattle.cil_meaning.specs.Typing.{Typing, if_verifies, method_in_profile, typing_of}

pub both_left : (a b : Bool) → (a && b) ≡ true → a ≡ true
both_left true b e = refl
both_left false b e = absurd (cc)

pub both_right : (a b : Bool) → (a && b) ≡ true → b ≡ true
both_right true b e = e
both_right false b e = absurd (cc)

first_of : (a b c d e : Bool) → (a && b && c && d && e) ≡ true → a ≡ true
first_of a b c d e h = both_left a b (both_left (a && b) c (both_left (a && b && c) d (both_left (a && b && c && d) e h)))

module _ (world : World) (id : MethodId) where
  -- ---- a shape in the profile is the method's

  pub shape_found : (s : Shape) → profile_shape world id ≡ Some s → shape_of world id ≡ Some s
  unfolding profile_shape
  shape_found s e = by_shape (shape_of world id) e
    where
      by_narrow : (x : Shape) (b : Bool) → (if b then Some x else None) ≡ Some s → Some x ≡ Some s
      by_narrow x true h = h
      by_narrow x false h = absurd (cc)

      by_shape : (o : Option Shape) → option_and_then (if_narrow world id) o ≡ Some s → o ≡ Some s
      by_shape None h = absurd (cc)
      by_shape (Some x) h = by_narrow x (is_narrow world id x) h

  -- ---- a method in the profile has its shape there

  abbrev IsShaped : Method → Type 0
  IsShaped m = (m.id ≡ id) × (shape_of world id ≡ Some m.shape)

  is_shaped : (m : Method) → method_of world id ≡ Some m → IsShaped m
  unfolding method_of
  is_shaped m e = by_shape (shape_of world id) refl e
    where
      by_locals : (s : Shape) (body : MethodBody) (o : Option (List Place)) → shape_of world id ≡ Some s
          → option_map (method id body s) o ≡ Some m → IsShaped m
      by_locals s body None q h = absurd (cc)
      by_locals s body (Some locals) q h = subst (λ x. IsShaped x) (same_Some (method id body s locals) m h) (refl, q)

      by_body : (s : Shape) (o : Option MethodBody) → shape_of world id ≡ Some s → option_and_then (method_with world id s) o ≡ Some m
          → IsShaped m
      by_body s None q h = absurd (cc)
      by_body s (Some body) q h = by_locals s body (locals_of world id.asm body.locals) q h

      by_shape : (o : Option Shape) → shape_of world id ≡ o
          → option_and_then (λ s. option_and_then (method_with world id s) (body_of (assembly_in world id.asm) id.row)) o ≡ Some m
          → IsShaped m
      by_shape None q h = absurd (cc)
      by_shape (Some s) q h = by_body s (body_of (assembly_in world id.asm) id.row) q h

  meets_it : (m : Method) → profile_method world id ≡ Some m → IsShaped m × (shape_in_profile world m.id ≡ true)
  unfolding profile_method
  meets_it m e = by_found (method_of world id) refl e
    where
      by_meets : (x : Method) (b : Bool) → meets_profile world x ≡ b → (if b then Some x else None) ≡ Some m
          → (x ≡ m) × (meets_profile world x ≡ true)
      by_meets x true q h = (same_Some x m h, q)
      by_meets x false q h = absurd (cc)

      by_found : (o : Option Method) → method_of world id ≡ o → option_and_then (if_meets world) o ≡ Some m
          → IsShaped m × (shape_in_profile world m.id ≡ true)
      by_found None q h = absurd (cc)
      by_found (Some x) q h =
          let k = by_meets x (meets_profile world x) refl h in
          subst (λ y. IsShaped y × (shape_in_profile world y.id ≡ true)) k.0 (
            is_shaped x q,
            first_of (shape_in_profile world x.id) (is_in_profile world (class_of_method world x.id)) _ _ (meets_limits x) k.1,
          )

  found_first : (m : Method) → method_in_profile world id ≡ Some m → profile_method world id ≡ Some m
  unfolding method_in_profile
  found_first m e = by_method (profile_method world id) e
    where
      by_typing : (x : Method) (o : Option Typing) → option_map (λ typing. x) o ≡ Some m → Some x ≡ Some m
      by_typing x None h = absurd (cc)
      by_typing x (Some typing) h = h

      by_method : (o : Option Method) → option_and_then (if_verifies world) o ≡ Some m → o ≡ Some m
      by_method None h = absurd (cc)
      by_method (Some x) h = by_typing x (typing_of world x) h

  pub profile_shape_is : (m : Method) → method_in_profile world id ≡ Some m → profile_shape world id ≡ Some m.shape
  profile_shape_is m e =
      let k = meets_it m (found_first m e) in
      by_shape (profile_shape world id) refl (subst (λ (x : MethodId). shape_in_profile world x ≡ true) k.0.0 k.1) k.0.1
    where
      by_shape : (o : Option Shape) → profile_shape world id ≡ o → is_some o ≡ true → shape_of world id ≡ Some m.shape → o ≡ Some m.shape
      by_shape None q some h = absurd (cc)
      by_shape (Some s) q some h = sym (shape_found s q) ∙ h
