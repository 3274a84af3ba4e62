-- One step of a loop that appends the bytes of each element, and of those that place them.
use Rattle.std.proofs.Common.{◌≡◌, ℕ, ◌+◌, ◌*◌, ◌<◌, List, [], ◌∷◌, ◌++◌, length, drop, get_or, map, refl, ap, ◌∙◌, append_assoc, arith}
use Rattle.std.specs.Prelude.{flat_map, sum_by}
use Rattle.std.proofs.lemmas.List.{drop_more}
use Rattle.std.proofs.lemmas.List.Sums.{sum_by-drop_more}
use Rattle.byteorder.specs.Endian.{little_bytes}
use Rattle.rtr_sections.specs.declared.functions.Function.{Function}
use Rattle.rtr_sections.specs.declared.imports.ImportSection.{ImportSection}
use Rattle.rtr_sections.specs.Imports.{slot_count}
use Rattle.rtr_sections.specs.Parts.{function_bytes, placed_imports}
use Rattle.rtr_sections.specs.Plan.{HasWrittenForm}

-- two pieces one after the other
pub two_put : (old one two a b : List ℕ) → one ≡ old ++ a → two ≡ one ++ b → two ≡ old ++ (a ++ b)
two_put old one two a b e f = f ∙ ap (λ (t : List ℕ). t ++ b) e ∙ append_assoc old a b

-- bytes that a call made, appended
pub put_made : (old new made piece : List ℕ) → new ≡ old ++ made → made ≡ piece → new ≡ old ++ piece
put_made old new made piece e f = e ∙ ap (λ (t : List ℕ). old ++ t) f

pub put_more : {X : Type 0} (f : X → List ℕ) (xs : List X) (i : ℕ) (d : X) (old new all : List ℕ) → i < length xs
    → new ≡ old ++ f (get_or xs i d) → old ++ flat_map f (drop i xs) ≡ all
    → new ++ flat_map f (drop (i + 1) xs) ≡ all
put_more f xs i d old new all h e told = rw (e, append_assoc) (rw (drop_more xs i d h) at told)

-- of elements that are made into others first
pub mapped_more : {X Y : Type 0} (g : X → Y) (f : Y → List ℕ) (xs : List X) (i : ℕ) (d : X) (made : Y) (old new all : List ℕ)
    → i < length xs → made ≡ g (get_or xs i d) → new ≡ old ++ f made
    → old ++ flat_map f (map g (drop i xs)) ≡ all → new ++ flat_map f (map g (drop (i + 1) xs)) ≡ all
mapped_more g f xs i d made old new all h m e told = rw (e, m, append_assoc) (rw (drop_more xs i d h) at told)

pub function_more : (fs : List Function) (i unwind : ℕ) (d : Function) (old one new all : List ℕ) → i < length fs
    → one ≡ old ++ little_bytes 4 (get_or fs i d).begin → new ≡ one ++ little_bytes 4 unwind
    → old ++ function_bytes unwind (drop i fs) ≡ all → new ++ function_bytes (unwind + 4) (drop (i + 1) fs) ≡ all
function_more fs i unwind d old one new all h e f told =
    rw (f, e, append_assoc, append_assoc) (rw (drop_more fs i d h) at told)

pub placed_more : (imports : List ImportSection) (i rva signatures : ℕ) (d : ImportSection) (old new all : List ImportSection)
    → i < length imports
    → new ≡ old ++ record (get_or imports i d) { rva = rva; signatures = signatures } ∷ []
    → old ++ placed_imports rva signatures (drop i imports) ≡ all
    → new ++ placed_imports (rva + (get_or imports i d).size) (signatures + 4 * slot_count (get_or imports i d))
    (drop (i + 1) imports) ≡ all
placed_more imports i rva signatures d old new all h e told =
    rw (e, append_assoc) (rw (drop_more imports i d h) at told)

-- a section's cells and its array end where the next one's begin
pub ends_same : (imports : List ImportSection) (i place n all : ℕ) (d : ImportSection) → i < length imports
    → place + n * sum_by slot_count (drop i imports) ≡ all
    → place + n * slot_count (get_or imports i d) + n * sum_by slot_count (drop (i + 1) imports) ≡ all
ends_same imports i place n all d h e =
    let split = sum_by-drop_more slot_count imports i d h in
    grind (arith, ap (λ (t : ℕ). n * t) split)

pub cells_of : (import : ImportSection) → HasWrittenForm import → import.size ≡ 8 * slot_count import
cells_of import h = omega (arith, h.whole_cells)

pub six_put : (old p q r s t new a b c d e f : List ℕ) → p ≡ old ++ a → q ≡ p ++ b → r ≡ q ++ c → s ≡ r ++ d → t ≡ s ++ e → new ≡ t ++ f
    → new ≡ old ++ (a ++ (b ++ (c ++ (d ++ (e ++ f)))))
six_put old p q r s t new a b c d e f h1 h2 h3 h4 h5 h6 =
    two_put old p new a _ h1 (two_put p q new b _ h2 (two_put q r new c _ h3 (two_put r s new d _ h4 (two_put s t new e f h5 h6))))

-- pieces that were put, and a last call's
pub two_then : (old p q a b c : List ℕ) → p ≡ old ++ a → q ≡ p ++ b → q ++ c ≡ old ++ (a ++ (b ++ c))
two_then old p q a b c e f = two_put old p (q ++ c) a (b ++ c) e (two_put p q (q ++ c) b c f refl)

pub five_then : (old p q r s t a b c d e f : List ℕ) → p ≡ old ++ a → q ≡ p ++ b → r ≡ q ++ c → s ≡ r ++ d → t ≡ s ++ e
    → t ++ f ≡ old ++ (a ++ (b ++ (c ++ (d ++ (e ++ f)))))
five_then old p q r s t a b c d e f h1 h2 h3 h4 h5 =
    two_put old p (t ++ f) a _ h1
    (two_put p q (t ++ f) b _ h2
    (two_put q r (t ++ f) c _ h3 (two_put r s (t ++ f) d _ h4 (two_put s t (t ++ f) e f h5 refl))))
