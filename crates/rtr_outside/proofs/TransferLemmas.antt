-- Readers and writers that give and take a list of bytes piece by piece.
use Rattle.std.proofs.Common.{◌≡◌, ℕ, ◌+◌, ◌-◌, ◌≤◌, List, [], ◌++◌, take, drop, length, Option, None, Some, ap, sym}
use Rattle.std.proofs.Common.{◌∙◌, append_assoc, take-append-drop, length-append, length-drop, arith}
use Rattle.std.proofs.lemmas.List.{take_all}
use Rattle.std.specs.Io.KnownBytes.{Appends, Consumes, Keeps}
use Rattle.rtr_outside.specs.Transfer.{ConsumesAtMost}

-- one append after another
appends_twice : (a b c : Option (List ℕ)) (bs cs : List ℕ) → Appends a b bs → Appends b c cs → Appends a c (bs ++ cs)
appends_twice None b c bs cs p q = tt
appends_twice (Some x) None c bs cs p q = absurd p
appends_twice (Some x) (Some y) None bs cs p q = absurd q
appends_twice (Some x) (Some y) (Some z) bs cs p q = q ∙ ap (λ l. l ++ cs) p ∙ append_assoc x bs cs

-- all that is after the first n
rest_after : (rest : List ℕ) (n : ℕ) → take (length rest - n) (drop n rest) ≡ drop n rest
rest_after rest n = take_all (length rest - n) (drop n rest) (omega (arith, length-drop n rest))

-- what was written so far and what is left are all bytes, also after one more write
pub written_more : (a b c : Option (List ℕ)) (bytes rest : List ℕ) (n : ℕ)
    → (written : List ℕ) × (bytes ≡ written ++ rest) × Appends a b written → Appends b c (take n rest)
    → (written : List ℕ) × (bytes ≡ written ++ take (length rest - n) (drop n rest)) × Appends a c written
written_more a b c bytes rest n (written, is, so_far) more = (
  written ++ take n rest,
  is ∙ ap (λ l. written ++ l) (sym (take-append-drop n rest) ∙ ap (λ l. take n rest ++ l) (sym (rest_after rest n)))
      ∙ sym (append_assoc written (take n rest) (take (length rest - n) (drop n rest))),
  appends_twice a b c written (take n rest) so_far more,
)

-- one read after another
consumes_twice : (a b c : Option (List ℕ)) (bs cs : List ℕ) → Consumes a b bs → Consumes b c cs → Consumes a c (bs ++ cs)
consumes_twice None b c bs cs p q = tt
consumes_twice (Some x) None c bs cs p q = absurd p
consumes_twice (Some x) (Some y) None bs cs p q = absurd q
consumes_twice (Some x) (Some y) (Some z) bs cs p q = p ∙ ap (λ l. bs ++ l) q ∙ sym (append_assoc bs cs z)

-- what was read so far and one more read that takes at most as many as are missing
pub consumed_more : (a b c : Option (List ℕ)) (bytes : List ℕ) (more most : ℕ) → length bytes + more ≤ most → Consumes a b bytes
    → ConsumesAtMost more b c → ConsumesAtMost most a c
consumed_more a b c bytes more most within so_far (bs, few, then) = (
  bytes ++ bs,
  omega (arith, length-append bytes bs),
  consumes_twice a b c bytes bs so_far then,
)

-- a read that failed took nothing
pub consumes_nothing : (a b : Option (List ℕ)) (most : ℕ) → Keeps a b → ConsumesAtMost most a b
consumes_nothing None b most h = ([], omega arith, tt)
consumes_nothing (Some x) None most h = absurd h
consumes_nothing (Some x) (Some y) most h = ([], omega arith, sym h)
