-- Where the code before an entry of RuntimeFunctions ends.
use Rattle.std.proofs.Common.{◌≡◌, ℕ, ◌+◌, ◌-◌, ◌*◌, List, true, false, refl, ap, arith}
use Rattle.std.proofs.lemmas.Bool.{lt-ltb, le-ltb}
use Rattle.std.specs.Prelude.{nat_lt}
use Rattle.rtr_sections.specs.declared.functions.Function.{Function}
use Rattle.rtr_sections.specs.Functions.{end_before, end_of, function_at}

-- none is before the first
pub end_before-first : (bytes : List ℕ) (start : ℕ) → end_before bytes start (start + 8 * 0) ≡ 0
unfolding end_before
end_before-first bytes start =
    let none : nat_lt start (start + 8 * 0) ≡ false = le-ltb _ _ (omega arith) in
    rw none refl

pub end_before-next : (bytes : List ℕ) (start i : ℕ) (function : Function) → function ≡ function_at bytes (start + 8 * i)
    → end_of function ≡ end_before bytes start (start + 8 * (i + 1))
unfolding end_before
end_before-next bytes start i function e =
    let some : nat_lt start (start + 8 * (i + 1)) ≡ true = lt-ltb _ _ (omega arith) in
    let at : start + 8 * (i + 1) - 8 ≡ start + 8 * i = omega arith in
    rw (some, at) (ap (λ f. end_of f) e)
