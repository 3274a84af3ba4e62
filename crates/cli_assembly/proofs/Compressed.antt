-- A compressed number that is spelled at the front of bytes is read, whatever follows it.
use Rattle.std.proofs.Common.{◌≡◌, ℕ, ◌<◌, ◌^◌, List, [], ◌∷◌, ◌++◌, length, Some, sym, ap, arith}
use Rattle.std.proofs.lemmas.Bool.{le-ltb, lt-ltb}
use Rattle.rtr_bytes.specs.Compressed.{IsCompressed, compressed_bytes, compressed_in}
use Rattle.rtr_bytes.proofs.Spellings.{compressed_spells}

spelled_in : (s rest : List ℕ) (n : ℕ) → IsCompressed s n → compressed_in (s ++ rest) ≡ Some (n, length s)
spelled_in [] rest n h = absurd h
spelled_in (a ∷ []) rest n h = rw (lt-ltb a 0x80 h.0) (ap (λ x. Some (x, 1)) (sym h.1))
spelled_in (a ∷ b ∷ []) rest n h = rw (le-ltb a 0x80 h.0) (rw (lt-ltb a 0xC0 h.1) (ap (λ x. Some (x, 2)) (sym h.3)))
spelled_in (a ∷ b ∷ c ∷ []) rest n h = absurd h
spelled_in (a ∷ b ∷ c ∷ d ∷ []) rest n h =
    rw (le-ltb a 0x80 (omega (arith, h.0))) (rw (le-ltb a 0xC0 h.0) (rw (lt-ltb a 0xE0 h.1) (ap (λ x. Some (x, 4)) (sym h.5))))
spelled_in (a ∷ b ∷ c ∷ d ∷ e ∷ s) rest n h = absurd h

pub written_in : (n : ℕ) (rest : List ℕ) → n < 2 ^ 29 → compressed_in (compressed_bytes n ++ rest) ≡ Some (n, length (compressed_bytes n))
written_in n rest small = spelled_in (compressed_bytes n) rest n (compressed_spells n small)
