-- Typed code: when values are of the types of a typing, and when what an instruction asks is what its rule says.
use Rattle.std.specs.Prelude.{◌≡◌, ◌⊎◌, ℕ, List, [], ◌∷◌, Option, Some, None}
use Rattle.type_world.specs.declared.identity.MethodId.{MethodId}
use Rattle.cil_meaning.specs.declared.kind.Kind.{Kind}
use Rattle.cil_meaning.specs.declared.kind.Kind.TheVariants as kinds
use Rattle.type_world.specs.World.{World}
use Rattle.type_world.specs.declared.place.Place.{Place}
use Rattle.type_world.specs.declared.place.Shape.{Shape}
use Rattle.type_world.specs.Profile.{Method, profile_shape}
use Rattle.cil_meaning.specs.State.{Value, I4, I8, Ref, Next, Stays, Goes, Calls, Gives, Ends}
use Rattle.cil_meaning.specs.Typing.{Flow, Untyped, Stops, Flows, kind_of}

-- ---- values of types, and values that places hold

abbrev pub HasKind : {R : Type 0} → Kind → Value R → Type 0
HasKind kinds.I4 (I4 n) = Unit {0}
HasKind kinds.I8 (I8 n) = Unit {0}
HasKind kinds.Null (Ref r) = Unit {0}
HasKind (kinds.Ref to) (Ref r) = Unit {0}
HasKind kind value = ⊥

abbrev pub HasKinds : {R : Type 0} → List Kind → List (Value R) → Type 0
HasKinds [] [] = Unit {0}
HasKinds (kind ∷ kinds) (value ∷ values) = HasKind kind value × HasKinds kinds values
HasKinds kinds values = ⊥

abbrev pub Holds : {R : Type 0} → List Place → List (Value R) → Type 0
Holds [] [] = Unit {0}
Holds (place ∷ places) (value ∷ values) = HasKind (kind_of place) value × Holds places values
Holds places values = ⊥

-- a result, or none for void
abbrev pub ResultFits : {R : Type 0} → Option Place → Option (Value R) → Type 0
ResultFits None None = Unit {0}
ResultFits (Some place) (Some value) = HasKind (kind_of place) value
ResultFits place value = ⊥

-- ---- what an instruction asks is what its rule says

-- an offset among some
abbrev pub In : ℕ → List ℕ → Type 0
In at [] = ⊥
In at (to ∷ rest) = (at ≡ to) ⊎ In at rest

abbrev pub onto : Option Place → List Kind → List Kind
onto None stack = stack
onto (Some place) stack = kind_of place ∷ stack

-- the target has its shape, its places hold what is passed, and the types after the call are those of its result on the stack that is left
pub record CallFits {R : Type 0} (world : World) (target : MethodId) (passed : List (Value R)) (kinds : List Kind)
    (stack : List (Value R)) : Type 0 where
  pub shape : Shape
  pub is : profile_shape world target ≡ Some shape
  pub arguments : Holds shape.arguments passed
  pub under : List Kind
  pub result : kinds ≡ onto shape.result under
  pub below : HasKinds under stack

-- of an instruction before an offset. Nothing is said of one that has no typing; one that has never fails.
abbrev pub Sound : {R H : Type 0} → World → Method → ℕ → Flow → Next R H → Type 0
Sound world m next Untyped n = Unit {0}
Sound world m next Stops (Gives value heap) = ResultFits m.shape.result value
Sound world m next Stops (Ends e heap) = Unit {0}
Sound world m next (Flows ks to) (Stays arguments locals stack heap) =
    HasKinds ks stack × Holds m.shape.arguments arguments × Holds m.locals locals × In next to
Sound world m next (Flows ks to) (Goes at stack heap) = HasKinds ks stack × In at to
Sound world m next (Flows ks to) (Calls target passed stack heap) = CallFits world target passed ks stack × In next to
Sound world m next (Flows ks to) (Ends e heap) = Unit {0}
Sound world m next flow n = ⊥
