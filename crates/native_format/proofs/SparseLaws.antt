-- Sparse arrays: the header, and the steps of a path.
use Rattle.std.proofs.Common.{◌≡◌, ℕ, zero, suc, ◌+◌, ◌*◌, ◌/◌, ◌%◌, ◌^◌, ◌<◌, ◌≤◌, Bool, true, false, cond, eqb, List, length, get_or}
use Rattle.std.proofs.Common.{drop, Option, Some, None, Result, Ok, refl, sym, ap, ◌∙◌, arith}
use Rattle.std.specs.Option.{option_and_then}
use Rattle.std.proofs.Math.Nat.{mul-le-mul_left}
use Rattle.std.proofs.lemmas.Bool.{le-leb, lt-leb, eqb-false}
use Rattle.std.proofs.lemmas.List.{drop_more, drop_all}
use Rattle.rtr_bytes.specs.declared.fault.Fault.{Fault}
use Rattle.native_format.specs.declared.sparse.Step.{Step}
use Rattle.native_format.specs.Uint.{uint_at}
use Rattle.native_format.specs.Sparse.{Array, Answer, blocks_of, array_of, array_at, step_at, onward, path, weights, entry_place}

-- ---- the header

pub no_header : (bytes : List ℕ) (at : ℕ) → None ≡ uint_at bytes at → array_at bytes at ≡ None
unfolding array_at
no_header bytes at e = ap (option_and_then (array_of bytes)) (sym e)

pub by_header : (bytes : List ℕ) (at header index_at : ℕ) → Some (header, index_at) ≡ uint_at bytes at
    → array_at bytes at ≡ array_of bytes (header, index_at)
unfolding array_at
by_header bytes at header index_at e = ap (option_and_then (array_of bytes)) (sym e)

size_is : (b : Bool) (n size : ℕ) → Some size ≡ cond b None (Some n) → (b ≡ false) × (size ≡ n)
size_is true n size e = absurd (let x : ⊥ = cc in x)
size_is false n size e = (refl, cc)

no_size : (b : Bool) (n : ℕ) → None ≡ cond b None (Some n) → b ≡ true
no_size true n e = refl
no_size false n e = absurd (let x : ⊥ = cc in x)

abbrev size_of : ℕ → Option ℕ
size_of header = cond (eqb (header % 4) 3) None (Some (2 ^ (header % 4)))

pub wrong_size : (bytes : List ℕ) (at header index_at : ℕ) → Some (header, index_at) ≡ uint_at bytes at → None ≡ size_of header
    → array_at bytes at ≡ None
wrong_size bytes at header index_at e s = by_header bytes at header index_at e ∙ rw (no_size (eqb (header % 4) 3) (2 ^ (header % 4)) s) refl

pub cut_index : (bytes : List ℕ) (at header index_at size : ℕ) → Some (header, index_at) ≡ uint_at bytes at → Some size ≡ size_of header
    → length bytes < index_at + size * blocks_of (header / 4) → array_at bytes at ≡ None
cut_index bytes at header index_at size e s short =
    let p = size_is (eqb (header % 4) 3) (2 ^ (header % 4)) size s in
    let short' : length bytes < index_at + 2 ^ (header % 4) * blocks_of (header / 4) = rw p.1 at short in
    by_header bytes at header index_at e ∙ rw (p.0, lt-leb _ _ short') refl

pub whole_index : (bytes : List ℕ) (at header index_at size : ℕ) → Some (header, index_at) ≡ uint_at bytes at → Some size ≡ size_of header
    → index_at + size * blocks_of (header / 4) ≤ length bytes
    → array_at bytes at ≡ Some (record { bytes = bytes; index_at = index_at; count = header / 4; entry_size = size })
whole_index bytes at header index_at size e s long =
    let p = size_is (eqb (header % 4) 3) (2 ^ (header % 4)) size s in
    let long' : index_at + 2 ^ (header % 4) * blocks_of (header / 4) ≤ length bytes = rw p.1 at long in
    by_header bytes at header index_at e ∙ rw (p.0, le-leb _ _ long', ← p.1) refl

-- ---- the walk

abbrev pub weight_at : ℕ → ℕ
weight_at i = get_or weights i 0

pub weight_some : (i : ℕ) → i < 4 → 0 < weight_at i
weight_some zero h = omega arith
weight_some (suc zero) h = omega arith
weight_some (suc (suc zero)) h = omega arith
weight_some (suc (suc (suc zero))) h = omega arith
weight_some (suc (suc (suc (suc i)))) h = absurd (omega arith)

pub next_step : (bytes : List ℕ) (low i at : ℕ) → i < 4
    → path bytes low (drop i weights) at ≡ onward (path bytes low (drop (i + 1) weights)) (step_at bytes low (weight_at i) at)
unfolding path
next_step bytes low i at h = ap (λ (ws : List ℕ). path bytes low ws at) (drop_more weights i 0 h)

pub by_step : (bytes : List ℕ) (low i at : ℕ) (r : Result Step Fault) (all : Answer) → i < 4 → r ≡ step_at bytes low (weight_at i) at
    → path bytes low (drop i weights) at ≡ all
    → onward (path bytes low (drop (i + 1) weights)) r ≡ all
by_step bytes low i at r all h is e = ap (onward (path bytes low (drop (i + 1) weights))) is ∙ sym (next_step bytes low i at h) ∙ e

pub last_step : (bytes : List ℕ) (low i at : ℕ) (all : Answer) → 4 ≤ i → path bytes low (drop i weights) at ≡ all → Ok (Some at) ≡ all
unfolding path
last_step bytes low i at all h e = ap (λ (ws : List ℕ). path bytes low ws at) (sym (drop_all i weights h)) ∙ e

-- ---- the index

powers : (k : ℕ) → k < 4 → eqb k 3 ≡ false → (1 ≤ 2 ^ k) × (2 ^ k ≤ 4)
powers zero h e = (omega arith, omega arith)
powers (suc zero) h e = (omega arith, omega arith)
powers (suc (suc zero)) h e = (omega arith, omega arith)
powers (suc (suc (suc zero))) h e = absurd (eqb-false 3 3 e refl)
powers (suc (suc (suc (suc k)))) h e = absurd (omega arith)

pub size_small : (header size : ℕ) → Some size ≡ cond (eqb (header % 4) 3) None (Some (2 ^ (header % 4))) → (1 ≤ size) × (size ≤ 4)
size_small header size s =
    let p = size_is (eqb (header % 4) 3) (2 ^ (header % 4)) size s in
    rw p.1 (powers (header % 4) (omega arith) p.0)

pub index_fits : (header size : ℕ) → header < 2 ^ 32 → size ≤ 4 → size * blocks_of (header / 4) < 2 ^ 32
index_fits header size h le = omega (arith, mul-le-mul_left (blocks_of (header / 4)) le)

pub entry_within : (a : Array) (index : ℕ) → index < a.count → a.index_at + a.entry_size * blocks_of a.count ≤ length a.bytes
    → entry_place a index + a.entry_size ≤ length a.bytes
entry_within a index h within =
    let below : index / 16 + 1 ≤ blocks_of a.count = omega arith in
    omega (arith, mul-le-mul_left a.entry_size below)

pub weight_small : (i : ℕ) → i < 4 → weight_at i < 2 ^ 32
weight_small zero h = omega arith
weight_small (suc zero) h = omega arith
weight_small (suc (suc zero)) h = omega arith
weight_small (suc (suc (suc zero))) h = omega arith
weight_small (suc (suc (suc (suc i)))) h = absurd (omega arith)
