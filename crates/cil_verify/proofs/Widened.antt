-- Stacks that are widened in place, and stacks that fit one another, type by type.
use Rattle.std.proofs.Common.{◌≡◌, ℕ, ◌+◌, ◌<◌, ◌≤◌, Bool, true, false, List, [], ◌∷◌, ◌++◌, length}
use Rattle.std.proofs.Common.{nat_le, leb-true, leb-false, take, drop, set, get_or, min, refl, sym, ap, ◌∙◌, arith}
use Rattle.std.proofs.Common.{append_assoc, length-set}
use Rattle.std.proofs.lemmas.List.{drop_more, drop_all, drop-set-lt, take_more_set, take-append-drop}
use Rattle.cil_meaning.specs.declared.kind.Kind.{Kind}
use Rattle.type_world.specs.World.{World}
use Rattle.cil_meaning.specs.Typing.{widen, widen_all}

-- ---- widened so far

pub record Widens (world : World) (before stack other : List Kind) (i : ℕ) (changed : Bool) : Type 0 where
  pub long : length stack ≡ length before
  pub so_far : take i stack ++ widen_all world (drop i stack) (drop i other) ≡ widen_all world before other
  pub same : changed ≡ false → stack ≡ before

widened_first : (world : World) (stack other : List Kind) (i : ℕ) (d : Kind) → i < length stack → i < length other
    → widen_all world (drop i stack) (drop i other)
    ≡ widen world (get_or stack i d) (get_or other i d) ∷ widen_all world (drop (i + 1) stack) (drop (i + 1) other)
unfolding widen_all
widened_first world stack other i d s_in o_in =
    ap (λ s. widen_all world s (drop i other)) (drop_more stack i d s_in)
    ∙ ap (widen_all world (get_or stack i d ∷ drop (i + 1) stack)) (drop_more other i d o_in)

pub widens_more : (world : World) (before stack after other : List Kind) (i : ℕ) (changed now : Bool) (d : Kind)
    → i < length stack → i < length other → after ≡ set stack i (widen world (get_or stack i d) (get_or other i d))
    → (now ≡ false → (changed ≡ false) × (after ≡ stack))
    → Widens world before stack other i changed → Widens world before after other (i + 1) now
widens_more world before stack after other i changed now d s_in o_in after_is unchanged has =
    let w : Kind = widen world (get_or stack i d) (get_or other i d) in record {
      long = ap length after_is ∙ length-set stack i w ∙ has.long;
      so_far =
          ap (λ s. take (i + 1) s ++ widen_all world (drop (i + 1) s) (drop (i + 1) other)) after_is
          ∙ ap (λ s. s ++ widen_all world (drop (i + 1) (set stack i w)) (drop (i + 1) other)) (take_more_set stack i w s_in)
          ∙ ap (λ s. (take i stack ++ w ∷ []) ++ widen_all world s (drop (i + 1) other)) (drop-set-lt (i + 1) stack i w (omega arith))
          ∙ append_assoc (take i stack) (w ∷ []) (widen_all world (drop (i + 1) stack) (drop (i + 1) other))
          ∙ ap (λ s. take i stack ++ s) (sym (widened_first world stack other i d s_in o_in)) ∙ has.so_far;
      same = λ e. (unchanged e).1 ∙ has.same (unchanged e).0;
    }

widened_none : (world : World) (stack : List Kind) → widen_all world stack [] ≡ stack
unfolding widen_all
widened_none world [] = refl
widened_none world (kind ∷ stack) = refl

widened_nothing : (world : World) (other : List Kind) → widen_all world [] other ≡ []
unfolding widen_all
widened_nothing world [] = refl
widened_nothing world (kind ∷ other) = refl

pub widens_end : (world : World) (before stack other : List Kind) (i : ℕ) (changed : Bool) → min (length before) (length other) ≤ i
    → Widens world before stack other i changed → stack ≡ widen_all world before other
widens_end world before stack other i changed out has = sym (take-append-drop i stack) ∙ ap (λ s. take i stack ++ s) (sym rest) ∙ has.so_far
  where
    by_order : (length stack ≤ i → widen_all world (drop i stack) (drop i other) ≡ drop i stack)
    by_order out =
        let none : drop i stack ≡ [] = drop_all i stack out in
        ap (λ s. widen_all world s (drop i other)) none ∙ widened_nothing world (drop i other) ∙ sym none

    by_other : length other ≤ i → widen_all world (drop i stack) (drop i other) ≡ drop i stack
    by_other out = ap (widen_all world (drop i stack)) (drop_all i other out) ∙ widened_none world (drop i stack)

    rest : widen_all world (drop i stack) (drop i other) ≡ drop i stack
    rest = by_test (nat_le (length stack) i) refl
      where
        by_test : (b : Bool) → nat_le (length stack) i ≡ b → widen_all world (drop i stack) (drop i other) ≡ drop i stack
        by_test true e = by_order (leb-true (length stack) i e)
        by_test false e = by_other (omega (arith, leb-false (length stack) i e, has.long))
