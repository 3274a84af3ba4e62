-- The first instruction up to which there is no typing, by halves.
use Rattle.std.proofs.Common.{◌≡◌, ℕ, zero, suc, ◌+◌, ◌<◌, ◌≤◌, Bool, true, false, List, [], ◌∷◌, length, find, get_or}
use Rattle.std.proofs.Common.{Option, Some, None, is_some, is_none, refl, sym, ap, ◌∙◌, arith, cond, nat_lt, ltb-true, ltb-false}
use Rattle.std.specs.Option.{option_map}
use Rattle.cil_decode.specs.declared.instr.Instr.{Instr}
use Rattle.cil_decode.specs.Bodies.{IsCode}
use Rattle.cil_meaning.specs.Typing.{Typing}
use Rattle.cil_meaning.specs.Laws.{HasTyping, RoundsFindTypings, TypingsNarrow}
use Rattle.cil_verify.specs.Subjects.{Subject, first_of, least_of, no_typing_at}
use Rattle.cil_verify.proofs.Followed.{ascend}

-- ---- a search in a list

-- none of those before a place passes
abbrev pub NoneBefore : (Instr → Bool) → List Instr → ℕ → Type 0
NoneBefore p list n = (j : ℕ) (d : Instr) → j < n → j < length list → p (get_or list j d) ≡ false

find_at : (p : Instr → Bool) (list : List Instr) (n : ℕ) (d : Instr) → n < length list → NoneBefore p list n
    → p (get_or list n d) ≡ true → find p list ≡ Some (get_or list n d)
find_at p [] n d n_in none hit = absurd (omega arith)
find_at p (i ∷ list) zero d n_in none hit = ap (λ b. cond b (Some i) (find p list)) hit
find_at p (i ∷ list) (suc n) d n_in none hit =
    ap (λ b. cond b (Some i) (find p list)) (none 0 d (omega arith) (omega arith))
    ∙ find_at p list n d (omega arith) (λ j e less j_in. none (suc j) e (omega arith) (omega arith)) hit

find_none : (p : Instr → Bool) (list : List Instr) → NoneBefore p list (length list) → find p list ≡ None
find_none p [] none = refl
find_none p (i ∷ list) none =
    ap (λ b. cond b (Some i) (find p list)) (none 0 i (omega arith) (omega arith))
    ∙ find_none p list (λ j e less j_in. none (suc j) e (omega arith) (omega arith))

-- ---- a typing up to an instruction is one up to each earlier one

not_none : (o : Option Typing) → is_none o ≡ false → is_some o ≡ true
not_none None e = absurd (cc)
not_none (Some t) e = refl

some_not : (o : Option Typing) → is_some o ≡ true → is_none o ≡ false
some_not None e = absurd (cc)
some_not (Some t) e = refl

module _ (finds : RoundsFindTypings) (narrow : TypingsNarrow) (s : Subject) (code : List ℕ) (code_is : IsCode code s.instrs) where
  typed_before : (last earlier : ℕ) → earlier ≤ last → is_none (least_of s last) ≡ false → is_none (least_of s earlier) ≡ false
  typed_before last earlier up e =
      let has : HasTyping s.world s.method last s.instrs =
      (finds s.world s.method last s.instrs).1 (not_none (least_of s last) e) in
      some_not (least_of s earlier)
      ((finds s.world s.method earlier s.instrs).0 (narrow s.world s.method s.instrs last earlier up has))

  pub more_typed : (middle : ℕ) (d : Instr) → middle < length s.instrs → no_typing_at s (get_or s.instrs middle d) ≡ false
      → NoneBefore (no_typing_at s) s.instrs (middle + 1)
  more_typed middle d m_in e = λ j c less j_in.
      let up : (get_or s.instrs j c).at ≤ (get_or s.instrs middle c).at = ascend code s.instrs j middle c code_is (omega arith) m_in in
      typed_before (get_or s.instrs middle c).at (get_or s.instrs j c).at up
      (ap (λ i. is_none (least_of s i.at)) (sym (same middle d c m_in)) ∙ e)
    where
      same : (k : ℕ) (d c : Instr) → k < length s.instrs → get_or s.instrs k d ≡ get_or s.instrs k c
      same k d c k_in = by_list k s.instrs k_in
        where
          by_list : (k : ℕ) (list : List Instr) → k < length list → get_or list k d ≡ get_or list k c
          by_list k [] k_in = absurd (omega arith)
          by_list zero (i ∷ list) k_in = refl
          by_list (suc k) (i ∷ list) k_in = by_list k list (omega arith)

-- what the search comes to
pub first_is : (s : Subject) (low : ℕ) (d : Instr) → low < length s.instrs → NoneBefore (no_typing_at s) s.instrs low
    → no_typing_at s (get_or s.instrs low d) ≡ true → first_of s ≡ Some (get_or s.instrs low d).at
first_is s low d low_in none hit = ap (option_map (λ i. i.at)) (find_at (no_typing_at s) s.instrs low d low_in none hit)

pub one_is_there : (s : Subject) → NoneBefore (no_typing_at s) s.instrs (length s.instrs) → is_some (first_of s) ≡ true → ⊥
one_is_there s none some =
    let missing : first_of s ≡ None = ap (option_map (λ i. i.at)) (find_none (no_typing_at s) s.instrs none) in cc (some, missing)

pub low_in : (s : Subject) (low high : ℕ) → low ≤ high → high ≤ length s.instrs → high ≤ low → NoneBefore (no_typing_at s) s.instrs low
    → is_some (first_of s) ≡ true → low < length s.instrs
low_in s low high a b c none some = by_test (nat_lt low (length s.instrs)) refl
  where
    by_test : (b : Bool) → nat_lt low (length s.instrs) ≡ b → low < length s.instrs
    by_test true e = ltb-true low (length s.instrs) e
    by_test false e =
        let all : length s.instrs ≤ low = ltb-false low (length s.instrs) e in
        absurd (one_is_there s (λ j d less j_in. none j d (omega arith) j_in) some)
