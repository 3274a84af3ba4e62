-- Multiples of a unit, and places that count on.
use Rattle.std.proofs.Common.{◌≡◌, ℕ, ◌+◌, ◌*◌, ◌%◌, ◌<◌, ◌≤◌, List, [], ◌∷◌, ◌++◌, length, drop, get_or, refl, ap, arith}
use Rattle.std.specs.Prelude.{sum_by}
use Rattle.std.proofs.lemmas.List.{at_drop_more}
use Rattle.std.proofs.lemmas.List.Sums.{sum_by-cons}
use Rattle.pe_image.specs.declared.section.PeSection.{PeSection}
use Rattle.pe_image.specs.Places.{aligned, placed_from, end_from, AreLaid}

pub record IsAligned (place up : ℕ) : Type 0 where
  pub low : place ≤ up
  pub high : up < place + 512
  pub multiple : up % 512 ≡ 0

pub aligned-512 : (n : ℕ) → IsAligned n (aligned 512 n)
unfolding aligned
aligned-512 n = record { low = omega arith; high = omega arith; multiple = omega arith }

pub aligned-multiple : (n : ℕ) → n % 512 ≡ 0 → aligned 512 n ≡ n
unfolding aligned
aligned-multiple n h = omega arith

pub aligned-aligned : (n : ℕ) → aligned 512 (aligned 512 n) ≡ aligned 512 n
aligned-aligned n = aligned-multiple (aligned 512 n) (aligned-512 n).multiple

pub record IsNext (place up : ℕ) : Type 0 where
  pub low : place ≤ up
  pub high : up < place + 65536
  pub multiple : up % 65536 ≡ 0

pub aligned-65536 : (n : ℕ) → IsNext n (aligned 65536 n)
unfolding aligned
aligned-65536 n = record { low = omega arith; high = omega arith; multiple = omega arith }

-- padded `.r2rdat` ends at or before `.r2rcod`
pub padded_before : (at n : ℕ) → at % 65536 ≡ 0 → at + aligned 512 n ≤ aligned 65536 (at + n)
padded_before at n h =
    let a = aligned-512 n in
    let b = aligned-65536 (at + n) in
    omega arith

pub end_from-grows : (ss : List PeSection) (at : ℕ) → at ≤ end_from at ss
end_from-grows [] at = omega arith
end_from-grows (s ∷ ss) at = omega (arith, end_from-grows ss (at + aligned 512 s.raw_size))

pub end_from-append : (a b : List PeSection) (at : ℕ) → end_from at (a ++ b) ≡ end_from (end_from at a) b
end_from-append [] b at = refl
end_from-append (s ∷ a) b at = end_from-append a b (at + aligned 512 s.raw_size)

pub placed_from-append : (a b : List PeSection) (at : ℕ) → placed_from at (a ++ b) ≡ placed_from at a ++ placed_from (end_from at a) b
placed_from-append [] b at = refl
placed_from-append (s ∷ a) b at =
    ap (λ (t : List PeSection). record s { raw_at = at } ∷ t) (placed_from-append a b (at + aligned 512 s.raw_size))

pub length-placed_from : (ss : List PeSection) (at : ℕ) → length (placed_from at ss) ≡ length ss
length-placed_from [] at = refl
length-placed_from (s ∷ ss) at = omega (arith, length-placed_from ss (at + aligned 512 s.raw_size))

pub end_from-le : (ss : List PeSection) (at : ℕ) → end_from at ss ≤ at + sum_by (λ s. s.raw_size) ss + 512 * length ss
end_from-le [] at = omega arith
end_from-le (s ∷ ss) at =
    let a = aligned-512 s.raw_size in
    omega (arith, end_from-le ss (at + aligned 512 s.raw_size), sum_by-cons (λ (t : PeSection). t.raw_size) s ss)

-- placed sections are laid as they must
pub laid : (ss : List PeSection) (from at file_end : ℕ) → from ≤ at → at % 512 ≡ 0 → end_from at ss ≤ file_end
    → AreLaid from (placed_from at ss) file_end
laid [] from at file_end h m e = omega arith
laid (s ∷ ss) from at file_end h m e =
    let a = aligned-512 s.raw_size in
    (h, m, laid ss (at + s.raw_size) (at + aligned 512 s.raw_size) file_end (omega arith) (omega arith) e)

-- the place after the next section's raw bytes isn't after all of them
pub next_within : (ss : List PeSection) (at i x size last : ℕ) (d : PeSection) → i < length ss → size ≡ (get_or ss i d).raw_size
    → x ≡ aligned 512 size → end_from at (drop i ss) ≡ last → at + x ≤ last
next_within ss at i x size last d h e f g =
    let step = at_drop_more (end_from at) ss i d h in
    let grows = end_from-grows (drop (i + 1) ss) (at + aligned 512 (get_or ss i d).raw_size) in
    omega (arith, step, grows, ap (λ (t : ℕ). aligned 512 t) e, f, g)
