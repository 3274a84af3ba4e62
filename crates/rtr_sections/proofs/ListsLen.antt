-- How long the lists of entries are together.
use Rattle.std.proofs.Common.{◌≡◌, ℕ, zero, suc, ◌+◌, ◌*◌, ◌/◌, ◌<◌, ◌^◌, ◌-◌, List, [], Option, Some, None, refl, sym, ap, ◌∙◌, arith}
use Rattle.std.specs.Prelude.{min, sum_by}
use Rattle.std.specs.Option.{option_map}
use Rattle.std.specs.List.{range_with_len}
use Rattle.std.proofs.lemmas.List.Sums.{sum_by-cons}
use Rattle.std.proofs.lemmas.Option.{none-some, same_Some}
use Rattle.rtr_bytes.specs.declared.fault.Span.{Span}
use Rattle.native_format.specs.Nibbles.{list_nibbles}
use Rattle.native_format.specs.Sparse.{Array, element_of}
use Rattle.rtr_sections.specs.Entries.{content_place}
use Rattle.rtr_sections.specs.EntryHeads.{list_len, list_len_at, list_len_in}

-- one entry more
sum_range : (f : ℕ → ℕ) (first n last : ℕ) → first + n ≡ last
    → sum_by f (range_with_len first (suc n)) ≡ sum_by f (range_with_len first n) + f last
sum_range f first zero last e =
    let same : f first ≡ f last = ap f (omega (arith, e)) in
    let one = sum_by-cons f first [] in
    omega (arith, one, same)
sum_range f first (suc n) last e =
    let others = sum_range f (first + 1) n last (omega (arith, e)) in
    let more = sum_by-cons f first (range_with_len (first + 1) (suc n)) in
    let fewer = sum_by-cons f first (range_with_len (first + 1) n) in
    omega (arith, others, more, fewer)

sum_grows : (f : ℕ → ℕ) (i : ℕ) → sum_by f (range_with_len 0 (i + 1)) ≡ sum_by f (range_with_len 0 i) + f i
sum_grows f i =
    let next : i + 1 ≡ suc i = omega arith in
    ap (λ n. sum_by f (range_with_len 0 n)) next ∙ sum_range f 0 i i (omega arith)

pub sum_more : (f : ℕ → ℕ) (i len before : ℕ) → f i ≡ len → before ≡ sum_by f (range_with_len 0 i)
    → before + len ≡ sum_by f (range_with_len 0 (i + 1))
sum_more f i len before here so_far = omega (arith, sum_grows f i, here, so_far)

pub sum_same : (f : ℕ → ℕ) (i before : ℕ) → f i ≡ 0 → before ≡ sum_by f (range_with_len 0 i)
    → before ≡ sum_by f (range_with_len 0 (i + 1))
sum_same f i before here so_far = omega (arith, sum_grows f i, here, so_far)

pub some_list : (bytes : List ℕ) (part : Span) (array : Array) (i at : ℕ) → content_place (element_of array i) ≡ Some at
    → list_len_in bytes part array i ≡ list_len_at bytes part at
some_list bytes part array i at e = rw e refl

pub no_list : (bytes : List ℕ) (part : Span) (array : Array) (i : ℕ) → content_place (element_of array i) ≡ None
    → list_len_in bytes part array i ≡ 0
no_list bytes part array i e = rw e refl

-- a list that ends at a nibble has as many bytes as there are up to it
pub len_is : (bytes : List ℕ) (at reached len : ℕ) → Some reached ≡ option_map (λ n. 2 * at + n) (list_nibbles bytes at)
    → reached + 1 < 2 ^ 33 → len ≡ min ((reached - 2 * at + 1) / 2) (2 ^ 32 - 1) → list_len bytes at ≡ Some len
len_is bytes at reached len e few is = go (list_nibbles bytes at) e where
  go : (o : Option ℕ) → Some reached ≡ option_map (λ n. 2 * at + n) o → option_map (λ n. (n + 1) / 2) o ≡ Some len
  go None e = absurd (none-some reached (sym e))
  go (Some n) e =
      let whole : reached ≡ 2 * at + n = same_Some reached (2 * at + n) e in
      ap (λ k. Some k) (omega (arith, whole, few, is))
