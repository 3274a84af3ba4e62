-- Bytes that are at a place in one piece, by their parts.
use Rattle.std.proofs.Common.{◌≡◌, ◌≤◌, ◌<◌, ◌+◌, ◌*◌, ◌^◌, ℕ, zero, suc, List, [], ◌∷◌, ◌++◌, length, drop}
use Rattle.std.proofs.Common.{get_or, Some, refl, sym, ap, ◌∙◌, arith, append_assoc, length-append, length-drop}
use Rattle.std.specs.Prelude.{flat_map}
use Rattle.std.specs.List.{AllByRecursion}
use Rattle.std.proofs.lemmas.List.{drop-drop, get_or-drop}
use Rattle.std.proofs.Math.Seq.{drop-append_seam}
use Rattle.byteorder.specs.Endian.{little_bytes, little_number}
use Rattle.byteorder.specs.Numbers.{length-bytes_low_first, little_number-reads_back}
use Rattle.rtr_bytes.specs.Field.{field_at}
use Rattle.pe_image.proofs.NumbersInARow.{field_at-is}

pub record Stands (bytes : List ℕ) (at : ℕ) (piece : List ℕ) : Type 0 where
  pub rest : List ℕ
  pub inside : at ≤ length bytes
  pub is : drop at bytes ≡ piece ++ rest

pub stands_long : (bytes : List ℕ) (at : ℕ) (piece : List ℕ) → Stands bytes at piece → at + length piece ≤ length bytes
stands_long bytes at piece s =
    let inside = s.inside in
    let size : length (drop at bytes) ≡ length piece + length s.rest = ap (λ (t : List ℕ). length t) s.is ∙ length-append piece s.rest in
    omega (arith, inside, size, length-drop at bytes)

-- a piece that isn't empty is inside
pub stands_here : (bytes : List ℕ) (at : ℕ) (piece rest : List ℕ) → 0 < length piece → drop at bytes ≡ piece ++ rest → Stands bytes at piece
stands_here bytes at piece rest some e =
    let size : length (drop at bytes) ≡ length piece + length rest = ap (λ (t : List ℕ). length t) e ∙ length-append piece rest in
    record { rest = rest; inside = omega (arith, some, size, length-drop at bytes); is = e }

pub stands_as : (bytes : List ℕ) (at place : ℕ) (piece other : List ℕ) → at ≡ place → piece ≡ other → Stands bytes at piece
    → Stands bytes place other
stands_as bytes at place piece other e f s = record {
  rest = s.rest;
  inside = let inside = s.inside in omega (arith, e, inside);
  is = ap (λ (t : ℕ). drop t bytes) (sym e) ∙ s.is ∙ ap (λ (t : List ℕ). t ++ s.rest) f;
}

-- the first of two parts, and the second
pub stands_front : (bytes : List ℕ) (at : ℕ) (a b : List ℕ) → Stands bytes at (a ++ b) → Stands bytes at a
stands_front bytes at a b s = record { rest = b ++ s.rest; inside = s.inside; is = s.is ∙ append_assoc a b s.rest }

pub stands_behind : (bytes : List ℕ) (at next : ℕ) (a b : List ℕ) → at + length a ≡ next → Stands bytes at (a ++ b) → Stands bytes next b
stands_behind bytes at next a b e s =
    let front = stands_long bytes at a (stands_front bytes at a b s) in
    record {
      rest = s.rest;
      inside = omega (arith, e, front);
      is = ap (λ (t : ℕ). drop t bytes) (sym e)
          ∙ sym (drop-drop (length a) at bytes)
          ∙ ap (λ (t : List ℕ). drop (length a) t) (s.is ∙ append_assoc a b s.rest)
          ∙ drop-append_seam a (b ++ s.rest);
    }

-- ---- numbers

pub number_stands : (width number : ℕ) (bytes : List ℕ) (at : ℕ) → number < 256 ^ width → Stands bytes at (little_bytes width number)
    → field_at width bytes at ≡ Some number
number_stands width number bytes at fits s =
    let long = stands_long bytes at (little_bytes width number) s in
    let size = length-bytes_low_first 0 width number in
    field_at-is width bytes at (omega (arith, long, size))
    ∙ ap (λ (t : List ℕ). Some (little_number width t)) s.is
    ∙ ap (λ (t : ℕ). Some t) (little_number-reads_back width number s.rest fits)

-- a byte of a piece
pub byte_stands : (bytes : List ℕ) (at i : ℕ) (piece : List ℕ) (x : ℕ) → Stands bytes at piece
    → ((rest : List ℕ) → get_or (piece ++ rest) i 0 ≡ x)
    → get_or bytes (at + i) 0 ≡ x
byte_stands bytes at i piece x s is = sym (get_or-drop at bytes i 0) ∙ ap (λ (t : List ℕ). get_or t i 0) s.is ∙ is s.rest

-- ---- records of one size, one after the other

pub record_stands : {X : Type 0} (spell : X → List ℕ) (size : ℕ) (bytes : List ℕ) (xs : List X) (at : ℕ)
    → AllByRecursion (λ (x : X). length (spell x) ≡ size) xs → Stands bytes at (flat_map spell xs) → (i : ℕ) (d : X) → i < length xs
    → Stands bytes (at + i * size) (spell (get_or xs i d))
record_stands spell size bytes [] at sizes s i d below = absurd (omega arith)
record_stands spell size bytes (x ∷ xs) at (here, sizes) s zero d below =
    stands_as bytes at (at + 0 * size) (spell x) (spell x) (omega arith) refl (stands_front bytes at (spell x) (flat_map spell xs) s)
record_stands spell size bytes (x ∷ xs) at (here, sizes) s (suc i) d below =
    let next = stands_behind bytes at (at + size) (spell x) (flat_map spell xs) (omega (arith, here)) s in
    let later = record_stands spell size bytes xs (at + size) sizes next i d (omega arith) in
    let place : at + size + i * size ≡ at + suc i * size = grind arith in
    stands_as bytes (at + size + i * size) (at + suc i * size) (spell (get_or xs i d)) (spell (get_or xs i d)) place refl later

pub length-records : {X : Type 0} (spell : X → List ℕ) (size : ℕ) (xs : List X)
    → AllByRecursion (λ (x : X). length (spell x) ≡ size) xs → length (flat_map spell xs) ≡ length xs * size
length-records spell size [] sizes = omega arith
length-records spell size (x ∷ xs) (here, sizes) =
    let later = length-records spell size xs sizes in
    let both = length-append (spell x) (flat_map spell xs) in
    let place : size + length xs * size ≡ suc (length xs) * size = grind arith in
    omega (arith, here, later, both, place)
