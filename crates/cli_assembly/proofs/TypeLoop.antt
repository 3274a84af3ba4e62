-- What is left of a type, as the loop goes on: what is to come of the innermost part, and then of those around it.
use Rattle.std.proofs.Common.{◌≡◌, ◌<◌, ℕ, suc, ◌-◌, Bool, true, false, List, [], ◌∷◌, ◌++◌, Option}
use Rattle.std.proofs.Common.{Some, None, refl, sym, ap, ◌∙◌, arith, append-nil}
use Rattle.std.specs.Prelude.{if◌then◌else◌}
use Rattle.std.specs.Option.{option_and_then}
use Rattle.std.proofs.lemmas.Bool.{eqb-true}
use Rattle.cli_assembly.specs.declared.pending.Pending.{Pending}
use Rattle.cli_assembly.specs.Types.{after_items, after_type}
use Rattle.cli_assembly.specs.Heads.{after_all, after_pending, head_in, is_nothing, kept, pending, shape_if}
use Rattle.cli_assembly.proofs.Bind.{bind_assoc, bind_same, bind_some}
use Rattle.cli_assembly.proofs.TypeSteps.{go_on, type_step}

pub still : Pending → List Pending → List ℕ → Option (List ℕ)
still p outer bytes = option_and_then (after_all after_type outer) (after_pending after_type p bytes)

abbrev one_less : Pending → Pending
one_less p = pending (p.types - 1) p.shape

-- ---- at the start

start_of : (o : Option (List ℕ))
    → option_and_then (after_all after_type []) (option_and_then (shape_if false) (option_and_then (after_items after_type 0) o)) ≡ o
unfolding after_all after_items
start_of None = refl
start_of (Some rest) = refl

pub still_start : (bytes : List ℕ) → still (pending 1 false) [] bytes ≡ after_type bytes
unfolding still after_items
still_start bytes = start_of (after_type bytes)

-- ---- a head

pending_step : (p : Pending) (bytes : List ℕ) → 0 < p.types
    → after_pending after_type p bytes ≡ option_and_then (after_pending after_type (one_less p)) (after_type bytes)
unfolding after_items
pending_step p bytes some =
    let k : p.types ≡ suc (p.types - 1) = omega arith in
    ap (λ (n : ℕ). option_and_then (shape_if p.shape) (after_items after_type n bytes)) k
    ∙ bind_assoc (shape_if p.shape) (after_items after_type (p.types - 1)) (after_type bytes)

head_found : (h : Pending) (bytes rest : List ℕ) → Some (h, rest) ≡ head_in bytes → after_pending after_type h rest ≡ after_type bytes
head_found h bytes rest e = ap (option_and_then (go_on after_type)) e ∙ sym (type_step bytes)

all_push : (outer : List Pending) (p : Pending) (bytes : List ℕ)
    → after_all after_type (outer ++ p ∷ []) bytes ≡ option_and_then (after_all after_type outer) (after_pending after_type p bytes)
unfolding after_all
all_push [] p bytes = sym (bind_some (after_pending after_type p bytes))
all_push (q ∷ outer) p bytes =
    ap (option_and_then (after_pending after_type q)) (all_push outer p bytes)
    ∙ bind_assoc (after_pending after_type q) (after_all after_type outer) (after_pending after_type p bytes)

enter : (p h : Pending) (outer : List Pending) (bytes rest : List ℕ) → 0 < p.types → Some (h, rest) ≡ head_in bytes
    → still h (outer ++ one_less p ∷ []) rest ≡ still p outer bytes
unfolding still
enter p h outer bytes rest some e =
    let all = after_all after_type outer in
    bind_same (after_all after_type (outer ++ one_less p ∷ []))
    (λ (b : List ℕ). option_and_then all (after_pending after_type (one_less p) b))
    (after_pending after_type h rest) (λ b _. all_push outer (one_less p) b)
    ∙ sym (bind_assoc all (after_pending after_type (one_less p)) (after_pending after_type h rest))
    ∙ ap (λ (o : Option (List ℕ)). option_and_then all (option_and_then (after_pending after_type (one_less p)) o))
    (head_found h bytes rest e)
    ∙ ap (option_and_then all) (sym (pending_step p bytes some))

nothing_more : (o : Option (List ℕ)) → option_and_then (after_pending after_type (pending 0 false)) o ≡ o
unfolding after_items
nothing_more None = refl
nothing_more (Some rest) = refl

last : (p h : Pending) (outer : List Pending) (bytes rest : List ℕ) → 0 < p.types → one_less p ≡ pending 0 false
    → Some (h, rest) ≡ head_in bytes
    → still h outer rest ≡ still p outer bytes
unfolding still
last p h outer bytes rest some done e =
    ap (option_and_then (after_all after_type outer))
    (head_found h bytes rest e ∙ sym (nothing_more (after_type bytes))
    ∙ ap (λ (q : Pending). option_and_then (after_pending after_type q) (after_type bytes)) (sym done) ∙ sym (pending_step p bytes some))

nothing_of : (types : ℕ) (shape : Bool) → is_nothing (pending types shape) ≡ true → pending types shape ≡ pending 0 false
nothing_of types true h = cc
nothing_of types false h = ap (λ (n : ℕ). pending n false) (eqb-true types 0 h)

enter_or_last : (b : Bool) (p h : Pending) (outer : List Pending) (bytes rest : List ℕ) → 0 < p.types → Some (h, rest) ≡ head_in bytes
    → is_nothing (one_less p) ≡ b → still h (outer ++ (if b then [] else one_less p ∷ [])) rest ≡ still p outer bytes
enter_or_last true p h outer bytes rest some e is =
    ap (λ (xs : List Pending). still h xs rest) (append-nil outer) ∙ last p h outer bytes rest some (nothing_of (p.types - 1) p.shape is) e
enter_or_last false p h outer bytes rest some e is = enter p h outer bytes rest some e

pub still_head : (p h : Pending) (outer after : List Pending) (bytes rest : List ℕ) → 0 < p.types → Some (h, rest) ≡ head_in bytes
    → after ≡ outer ++ kept (pending (p.types - 1) p.shape) → still h after rest ≡ still p outer bytes
still_head p h outer after bytes rest some e is =
    ap (λ (xs : List Pending). still h xs rest) is ∙ enter_or_last (is_nothing (one_less p)) p h outer bytes rest some e refl

pub still_no_head : (p : Pending) (outer : List Pending) (bytes : List ℕ) → 0 < p.types → None ≡ head_in bytes
    → None ≡ still p outer bytes
unfolding still
still_no_head p outer bytes some e =
    sym (ap (option_and_then (after_all after_type outer))
    (pending_step p bytes some
    ∙ ap (option_and_then (after_pending after_type (one_less p))) (type_step bytes ∙ ap (option_and_then (go_on after_type)) (sym e))))

-- ---- no type is to come

shape_next : (p : Pending) (outer : List Pending) (bytes : List ℕ) (o : Option (List ℕ)) → p.types ≡ 0 → o ≡ shape_if p.shape bytes
    → option_and_then (after_all after_type outer) o ≡ still p outer bytes
unfolding still after_items
shape_next p outer bytes o none e =
    ap (option_and_then (after_all after_type outer)) e
    ∙ ap (λ (n : ℕ). option_and_then (after_all after_type outer)
    (option_and_then (shape_if p.shape) (after_items after_type n bytes))) (sym none)

pub still_no_shape : (p : Pending) (outer : List Pending) (bytes : List ℕ) → p.types ≡ 0 → None ≡ shape_if p.shape bytes
    → None ≡ still p outer bytes
still_no_shape p outer bytes none e = shape_next p outer bytes None none e

pub still_end : (p : Pending) (outer : List Pending) (bytes rest : List ℕ) → p.types ≡ 0
    → Some rest ≡ shape_if p.shape bytes → outer ≡ [] → Some rest ≡ still p outer bytes
unfolding after_all
still_end p outer bytes rest none e is =
    ap (λ (xs : List Pending). after_all after_type xs rest) (sym is) ∙ shape_next p outer bytes (Some rest) none e

pub still_next : (p next : Pending) (outer after : List Pending) (bytes rest : List ℕ) → p.types ≡ 0
    → Some rest ≡ shape_if p.shape bytes → outer ≡ after ++ next ∷ []
    → still next after rest ≡ still p outer bytes
unfolding still
still_next p next outer after bytes rest none e is =
    sym (all_push after next rest) ∙ ap (λ (xs : List Pending). after_all after_type xs rest) (sym is)
    ∙ shape_next p outer bytes (Some rest) none e
