-- Instructions one after the other: where each begins and ends.
use Rattle.std.proofs.Common.{◌≡◌, ℕ, zero, suc, ◌+◌, ◌<◌, ◌≤◌, Bool, true, false, List, [], ◌∷◌, length, drop, get_or}
use Rattle.std.proofs.Common.{Option, Some, None, Ok, refl, sym, ap, ◌∙◌, arith, nat_lt, if◌then◌else◌}
use Rattle.cil_decode.specs.declared.instr.Instr.{Instr}
use Rattle.cil_decode.specs.Instructions.{instr_at, instr_size}
use Rattle.cil_decode.specs.Bodies.{Follow, IsCode}
use Rattle.cil_decode.proofs.Sizes.{offset_is, some_size}

-- there are no more instructions than bytes
count_within : (code : List ℕ) (at end : ℕ) (list : List Instr) → Follow code at list end → at + length list ≤ end
count_within code at end [] e = omega (arith, e)
count_within code at end (i ∷ list) (read, rest) =
    omega (arith, some_size i, count_within code (at + instr_size i) end list rest)

pub few_instrs : (code : List ℕ) (list : List Instr) → IsCode code list → length list ≤ length code
few_instrs code list c = omega (arith, count_within code 0 (length code) list c.follow)

-- ---- the end of one is the offset of the next one, or the end of the code

abbrev starts_at : List Instr → ℕ → ℕ
starts_at [] end = end
starts_at (i ∷ list) end = i.at

first_at : (code : List ℕ) (at end : ℕ) (list : List Instr) → Follow code at list end → starts_at list end ≡ at
first_at code at end [] e = sym e
first_at code at end (i ∷ list) (read, rest) = offset_is code at i read

ends_at : (code : List ℕ) (at end k : ℕ) (list : List Instr) (d : Instr) → k < length list → Follow code at list end
    → starts_at (drop (suc k) list) end ≡ (get_or list k d).at + instr_size (get_or list k d)
ends_at code at end k [] d k_in follow = absurd (omega arith)
ends_at code at end zero (i ∷ list) d k_in (read, rest) =
    first_at code (at + instr_size i) end list rest ∙ ap (λ n. n + instr_size i) (sym (offset_is code at i read))
ends_at code at end (suc k) (i ∷ list) d k_in (read, rest) =
    ends_at code (at + instr_size i) end k list d (omega arith) rest

more_at : (k end : ℕ) (list : List Instr) (d : Instr) → k < length list → starts_at (drop k list) end ≡ (get_or list k d).at
more_at k end [] d k_in = absurd (omega arith)
more_at zero end (i ∷ list) d k_in = refl
more_at (suc k) end (i ∷ list) d k_in = more_at k end list d (omega arith)

none_at : (k end : ℕ) (list : List Instr) → length list ≤ k → starts_at (drop k list) end ≡ end
none_at k end [] out = by_number k
  where
    by_number : (n : ℕ) → starts_at (drop n []) end ≡ end
    by_number zero = refl
    by_number (suc n) = refl
none_at zero end (i ∷ list) out = absurd (omega arith)
none_at (suc k) end (i ∷ list) out = none_at k end list (omega arith)

pub next_is : (code : List ℕ) (list : List Instr) (k : ℕ) (d : Instr) → IsCode code list → k + 1 < length list
    → (get_or list (k + 1) d).at ≡ (get_or list k d).at + instr_size (get_or list k d)
next_is code list k d c k_in =
    let one : k + 1 ≡ suc k = omega arith in
    sym (more_at (k + 1) (length code) list d k_in) ∙ ap (λ n. starts_at (drop n list) (length code)) one
    ∙ ends_at code 0 (length code) k list d (omega arith) c.follow

pub end_is : (code : List ℕ) (list : List Instr) (k : ℕ) (d : Instr) → IsCode code list → k < length list
    → length list ≤ k + 1 → length code ≡ (get_or list k d).at + instr_size (get_or list k d)
end_is code list k d c k_in out =
    let one : suc k ≡ k + 1 = omega arith in
    sym (none_at (suc k) (length code) list (omega arith)) ∙ ends_at code 0 (length code) k list d k_in c.follow

-- ---- offsets ascend

from_at : (code : List ℕ) (at end k : ℕ) (list : List Instr) (d : Instr) → k < length list → Follow code at list end
    → at ≤ (get_or list k d).at
from_at code at end k [] d k_in follow = absurd (omega arith)
from_at code at end zero (i ∷ list) d k_in (read, rest) = omega (arith, offset_is code at i read)
from_at code at end (suc k) (i ∷ list) d k_in (read, rest) =
    omega (arith, from_at code (at + instr_size i) end k list d (omega arith) rest)

ascend_from : (code : List ℕ) (at end j k : ℕ) (list : List Instr) (d : Instr) → j ≤ k → k < length list → Follow code at list end
    → (get_or list j d).at ≤ (get_or list k d).at
ascend_from code at end j k [] d up k_in follow = absurd (omega arith)
ascend_from code at end zero k (i ∷ list) d up k_in (read, rest) =
    omega (arith, offset_is code at i read, from_at code at end k (i ∷ list) d k_in (read, rest))
ascend_from code at end (suc j) zero (i ∷ list) d up k_in follow = absurd (omega arith)
ascend_from code at end (suc j) (suc k) (i ∷ list) d up k_in (read, rest) =
    ascend_from code (at + instr_size i) end j k list d (omega arith) (omega arith) rest

pub ascend : (code : List ℕ) (list : List Instr) (j k : ℕ) (d : Instr) → IsCode code list → j ≤ k → k < length list
    → (get_or list j d).at ≤ (get_or list k d).at
ascend code list j k d c up k_in = ascend_from code 0 (length code) j k list d up k_in c.follow
