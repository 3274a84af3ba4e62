-- One step after another, where each may give nothing.
use Rattle.std.proofs.Common.{◌≡◌, Bool, true, false, Option, Some, None, IfSome, refl, subst}
use Rattle.std.proofs.lemmas.Option.{same_Some}
use Rattle.std.specs.Prelude.{if◌then◌else◌}
use Rattle.std.specs.Option.{option_and_then}

pub bind_assoc : {A B C : Type 0} (f : B → Option C) (g : A → Option B) (o : Option A)
    → option_and_then f (option_and_then g o) ≡ option_and_then (λ a. option_and_then f (g a)) o
bind_assoc f g None = refl
bind_assoc f g (Some a) = refl

pub bind_same : {A B : Type 0} (f g : A → Option B) (o : Option A) → ((a : A) → o ≡ Some a → f a ≡ g a)
    → option_and_then f o ≡ option_and_then g o
bind_same f g None h = refl
bind_same f g (Some a) h = h a refl

pub bind_some : {A : Type 0} (o : Option A) → option_and_then (λ a. Some a) o ≡ o
bind_some None = refl
bind_some (Some a) = refl

-- a step after a choice is a choice of steps
pub bind_choice : {A B : Type 0} (b : Bool) (f : A → Option B) (x y : Option A) (u v : Option B)
    → option_and_then f x ≡ u → option_and_then f y ≡ v → option_and_then f (if b then x else y) ≡ (if b then u else v)
bind_choice true f x y u v p q = p
bind_choice false f x y u v p q = q

subst_some : {A : Type 0} (P : A → Type 0) (x a : A) → P x → Some x ≡ Some a → P a
subst_some P x a h e = subst P (same_Some x a e) h

-- what holds of the answer, where there is one
pub if_some_at : {A : Type 0} (P : A → Type 0) (o : Option A) (a : A) → IfSome o P → o ≡ Some a → P a
if_some_at P None a h e = absurd (cc)
if_some_at P (Some x) a h e = subst_some P x a h e

pub if_some_choice : {A : Type 0} (P : A → Type 0) (b : Bool) (x y : Option A) → IfSome x P → IfSome y P → IfSome (if b then x else y) P
if_some_choice P true x y p q = p
if_some_choice P false x y p q = q

pub if_some_bind : {A B : Type 0} (P : A → Type 0) (Q : B → Type 0) (f : A → Option B) (o : Option A)
    → IfSome o P → ((a : A) → P a → IfSome (f a) Q) → IfSome (option_and_then f o) Q
if_some_bind P Q f None p h = tt
if_some_bind P Q f (Some a) p h = h a p
