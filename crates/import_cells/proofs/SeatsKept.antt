-- A seat remembers what was asked with it.
use Rattle.std.proofs.Common.{◌≡◌, ℕ, zero, suc, ◌<◌, ◌||◌, Bool, false, List, [], ◌∷◌, ◌++◌, map, length, get_or, set}
use Rattle.std.proofs.Common.{take, sym, refl, ap, ◌∙◌, subst, arith}
use Rattle.atomic_table.specs.declared.shared.Seat.{Seat}
use Rattle.import_cells.specs.declared.plan.CellPlan.{CellPlan}
use Rattle.import_cells.specs.declared.event.SeatView.{SeatView}
use Rattle.import_cells.specs.Plan.{is_ready}
use Rattle.import_cells.specs.Seats.{first_view, joined}
use Rattle.import_cells.specs.Shared.{Sitter}
use Rattle.import_cells.specs.Seated.{Remembers, IsSeat}
use Rattle.import_cells.proofs.Flags.{remembers_both, remembers_ready}

abbrev Place : Type 0
Place = Seat (Unit {0}) SeatView

-- a seat whose view is v and that holds no slot
seated : (flags : List Bool) (place : Place) (v : SeatView) → place.me ≡ (v, []) → Remembers flags v → 0 < v.share → IsSeat flags place
seated flags place v is remembers live = record {
  remembers = subst (Remembers flags) (sym (ap (λ (m : Sitter). m.0) is)) remembers;
  live = subst (λ (u : SeatView). 0 < u.share) (sym (ap (λ (m : Sitter). m.0) is)) live;
  holds_no_slot = ap (λ (m : Sitter). m.1) is;
}

pub seat_first : (flags : List Bool) (place : Place) (plan key : List CellPlan) → flags ≡ map is_ready plan → key ≡ plan
    → place.me ≡ (first_view key, []) → IsSeat flags place
seat_first flags place plan key set same is =
    seated flags place (first_view plan) (is
    ∙ ap (λ (p : List CellPlan). (first_view p, [])) same) (subst (λ (l : List Bool). Remembers l (first_view plan)) (sym set)
    (remembers_ready plan)) (omega arith)

-- what a `&mut` to the whole slice wrote
pub whole_slice : (n : ℕ) (xs ys : List Bool) → length xs ≡ n → take n (xs ++ ys) ≡ xs
whole_slice zero [] ys e = refl
whole_slice zero (x ∷ xs) ys e = absurd (omega arith)
whole_slice (suc n) [] ys e = absurd (omega arith)
whole_slice (suc n) (x ∷ xs) ys e = ap (λ (l : List Bool). x ∷ l) (whole_slice n xs ys (omega arith))

pub seat_joined : (flags united others : List Bool) (old other place : Place) → flags ≡ united → other.me.0.plan ≡ old.me.0.plan
    → (olds : List Bool) → length united ≡ length olds
    → ((c : ℕ) → c < length others → get_or united c false ≡ (get_or olds c false || get_or others c false)) → IsSeat olds old
    → IsSeat others other
    → place.me ≡ (joined old.me.0 other.me.0, old.me.1) → IsSeat flags place
seat_joined flags united others old other place same plans olds count each h g is = seated flags place
    (joined old.me.0 other.me.0) (is ∙ ap (λ (l : List (ℕ × Unit {0})). (joined old.me.0 other.me.0, l)) h.holds_no_slot)
    (subst (λ (l : List Bool). Remembers l (joined old.me.0 other.me.0)) (sym same)
    (remembers_both united olds others old.me.0 other.me.0 count plans each h.remembers g.remembers)) (let one = h.live in omega arith)
