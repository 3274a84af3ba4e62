-- What bytes begin with, and what is written after others.
use Rattle.std.proofs.Common.{◌≡◌, ◌≤◌, ◌<◌, ◌^◌, ◌+◌, ◌-◌, ◌*◌, ℕ, List, [], ◌∷◌, ◌++◌, length, drop, get_or, refl}
use Rattle.std.proofs.Common.{sym, ap, ◌∙◌, arith, rules, append_assoc, length-drop}
use Rattle.std.specs.List.{slice_range}
use Rattle.std.proofs.Math.Seq.{drop-append_seam}
use Rattle.std.proofs.lemmas.List.{take_all, get_or-drop}
use Rattle.rtr_bytes.specs.Compressed.{IsCompressed, compressed_bytes}
use Rattle.rtr_bytes.specs.Spelling.{BeginsAt}

-- each item is a byte
abbrev pub AreBytes : List ℕ → Type 0
AreBytes xs = (i : ℕ) → get_or xs i 0 < 256

spelled_below : (spelling : List ℕ) (n : ℕ) → IsCompressed spelling n → n < 2 ^ 29
spelled_below [] n h = absurd h
spelled_below (a ∷ []) n h = omega arith
spelled_below (a ∷ b ∷ []) n h = omega arith
spelled_below (a ∷ b ∷ c ∷ []) n h = absurd h
spelled_below (a ∷ b ∷ c ∷ d ∷ []) n h = omega arith
spelled_below (a ∷ b ∷ c ∷ d ∷ e ∷ rest) n h = absurd h

-- the bytes begin with a spelling of the number, of this length
abbrev Front : List ℕ → ℕ → ℕ → Type 0
Front xs n k = (spelling : List ℕ) × (rest : List ℕ) × (xs ≡ spelling ++ rest) × IsCompressed spelling n × (k ≡ length spelling)

front_2 : (xs : List ℕ) (n : ℕ) → 2 ≤ length xs → AreBytes xs → 0x80 ≤ get_or xs 0 0 → get_or xs 0 0 < 0xC0
    → n + 0x8000 ≡ get_or xs 0 0 * 256 + get_or xs 1 0 → Front xs n 2
front_2 [] n len fits low high e = absurd (omega arith)
front_2 (a ∷ []) n len fits low high e = absurd (omega arith)
front_2 (a ∷ b ∷ xs) n len fits low high e = (a ∷ b ∷ [], xs, refl, (low, high, fits 1, omega arith), refl)

front_4 : (xs : List ℕ) (n : ℕ) → 4 ≤ length xs → AreBytes xs → 0xC0 ≤ get_or xs 0 0 → get_or xs 0 0 < 0xE0
    → n + 0xC000_0000 ≡ get_or xs 0 0 * 2 ^ 24 + get_or xs 1 0 * 2 ^ 16 + get_or xs 2 0 * 256 + get_or xs 3 0 → Front xs n 4
front_4 [] n len fits low high e = absurd (omega arith)
front_4 (a ∷ []) n len fits low high e = absurd (omega arith)
front_4 (a ∷ b ∷ []) n len fits low high e = absurd (omega arith)
front_4 (a ∷ b ∷ c ∷ []) n len fits low high e = absurd (omega arith)
front_4 (a ∷ b ∷ c ∷ d ∷ xs) n len fits low high e = (a ∷ b ∷ c ∷ d ∷ [], xs, refl, (low, high, fits 1, fits 2, fits 3, omega arith), refl)

-- what a slice that goes to the end has
to_the_end : (bytes front : List ℕ) (at : ℕ) → front ≡ slice_range bytes at (length bytes) → drop at bytes ≡ front
to_the_end bytes front at e = sym (e ∙ take_all (length bytes - at) (drop at bytes) (omega (arith, length-drop at bytes)))

front_bytes : (bytes front : List ℕ) (at : ℕ) → drop at bytes ≡ front → AreBytes bytes → AreBytes front
front_bytes bytes front at e fits i = rw (← e) (rw get_or-drop (fits (at + i)))

from_front : (bytes front : List ℕ) (at n k : ℕ) → drop at bytes ≡ front → Front front n k → BeginsAt IsCompressed bytes at n (at + k)
from_front bytes front at n k e (spelling, rest, whole, spelled, size) = (spelling, rest, e ∙ whole, spelled, ap (λ m. at + m) size)

-- a spelling of two bytes, as they are read
pub begins_2 : (bytes front : List ℕ) (at n : ℕ) → front ≡ slice_range bytes at (length bytes) → AreBytes bytes → 2 ≤ length front
    → 0x80 ≤ get_or front 0 0 → get_or front 0 0 < 0xC0 → n + 0x8000 ≡ get_or front 0 0 * 256 + get_or front 1 0
    → BeginsAt IsCompressed bytes at n (at + 2)
begins_2 bytes front at n e fits len low high number =
    let all = to_the_end bytes front at e in
    from_front bytes front at n 2 all (front_2 front n len (front_bytes bytes front at all fits) low high number)

-- a spelling of four bytes, as they are read
pub begins_4 : (bytes front : List ℕ) (at n : ℕ) → front ≡ slice_range bytes at (length bytes) → AreBytes bytes → 4 ≤ length front
    → 0xC0 ≤ get_or front 0 0 → get_or front 0 0 < 0xE0
    → n + 0xC000_0000 ≡ get_or front 0 0 * 2 ^ 24 + get_or front 1 0 * 2 ^ 16 + get_or front 2 0 * 256 + get_or front 3 0
    → BeginsAt IsCompressed bytes at n (at + 4)
begins_4 bytes front at n e fits len low high number =
    let all = to_the_end bytes front at e in
    from_front bytes front at n 4 all (front_4 front n len (front_bytes bytes front at all fits) low high number)

-- a spelled number has 29 bits
pub below_29 : (bytes : List ℕ) (at n next : ℕ) → BeginsAt IsCompressed bytes at n next → n < 2 ^ 29
below_29 bytes at n next (spelling, rest, whole, spelled, size) = spelled_below spelling n spelled

pub compressed_spells : (n : ℕ) → n < 2 ^ 29 → IsCompressed (compressed_bytes n) n
compressed_spells n h = search rules

-- what is written after other bytes begins there
pub begins_behind : (spelling before rest : List ℕ) (n : ℕ) → IsCompressed spelling n
    → BeginsAt IsCompressed (before ++ spelling ++ rest) (length before) n (length before + length spelling)
begins_behind spelling before rest n spelled = (spelling, rest, rw append_assoc (drop-append_seam before (spelling ++ rest)), spelled, refl)
