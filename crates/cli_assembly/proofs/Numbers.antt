-- Compressed numbers at the front of bytes.
use Rattle.std.proofs.Common.{◌≡◌, ◌≤◌, ◌<◌, ℕ, zero, suc, ◌+◌, ◌-◌, List, drop, length, Option, Some, None, IfSome}
use Rattle.std.proofs.Common.{refl, sym, ap, arith, zero-add, length-drop}
use Rattle.std.specs.Option.{option_map, option_and_then}
use Rattle.rtr_bytes.specs.Compressed.{compressed_at, compressed_in, number_in}
use Rattle.cli_assembly.specs.Types.{after_counted, after_items, after_number, after_shape}
use Rattle.cli_assembly.proofs.Bind.{if_some_bind}

at_start : (o : Option (ℕ × ℕ)) → option_map (λ (found : ℕ × ℕ). (found.0, 0 + found.1)) o ≡ o
at_start None = refl
at_start (Some (n, k)) = ap (λ k. Some (n, k)) (zero-add k)

-- the number at the front is the one at 0
pub number_at : (bytes : List ℕ) → compressed_at bytes 0 ≡ compressed_in bytes
unfolding compressed_at
number_at bytes = at_start (compressed_in bytes)

pub no_number : (bytes : List ℕ) → None ≡ compressed_at bytes 0 → number_in bytes ≡ None
no_number bytes e = rw (sym (number_at bytes)) (rw (sym e) refl)

-- ---- no rest is longer than the bytes

abbrev CountWithin : ℕ → ℕ × List ℕ → Type 0
CountWithin n found = length found.1 ≤ n

abbrev after_found : List ℕ → ℕ × ℕ → ℕ × List ℕ
after_found bytes found = (found.0, drop found.1 bytes)

number_within_of : (bytes : List ℕ) (o : Option (ℕ × ℕ)) → IfSome (option_map (after_found bytes) o) (CountWithin (length bytes))
number_within_of bytes None = tt
number_within_of bytes (Some found) = omega (arith, length-drop found.1 bytes)

pub number_within : (bytes : List ℕ) → IfSome (number_in bytes) (λ found. length found.1 ≤ length bytes)
number_within bytes = number_within_of bytes (compressed_in bytes)

second_within : (n : ℕ) (o : Option (ℕ × List ℕ)) → IfSome o (CountWithin n)
    → IfSome (option_map (λ (found : ℕ × List ℕ). found.1) o) (λ rest. length rest ≤ n)
second_within n None h = tt
second_within n (Some found) h = h

-- what follows an item is no longer than the bytes
abbrev pub NoLonger : (List ℕ → Option (List ℕ)) → Type 0
NoLonger after_item = (bytes : List ℕ) → IfSome (after_item bytes) (λ rest. length rest ≤ length bytes)

pub after_number_within : NoLonger after_number
after_number_within bytes = second_within (length bytes) (number_in bytes) (number_within bytes)

pub items_within : (after_item : List ℕ → Option (List ℕ)) → NoLonger after_item → (k n : ℕ) (bytes : List ℕ) → length bytes ≤ n
    → IfSome (after_items after_item k bytes) (λ rest. length rest ≤ n)
unfolding after_items
items_within after_item shorter zero n bytes h = h
items_within after_item shorter (suc k) n bytes h =
    if_some_bind (λ rest. length rest ≤ length bytes) (λ rest. length rest ≤ n) (after_items after_item k)
    (after_item bytes) (shorter bytes)
    (λ rest less. items_within after_item shorter k n rest (omega arith))

counted_numbers_within : NoLonger (after_counted after_number)
counted_numbers_within bytes =
    if_some_bind (CountWithin (length bytes)) (λ rest. length rest ≤ length bytes)
    (λ count. after_items after_number count.0 count.1) (number_in bytes) (number_within bytes)
    (λ count less. items_within after_number after_number_within count.0 (length bytes) count.1 less)

weaken : (o : Option (List ℕ)) (m n : ℕ) → IfSome o (λ rest. length rest ≤ m) → m ≤ n → IfSome o (λ rest. length rest ≤ n)
weaken None m n h less = tt
weaken (Some rest) m n h less = omega arith

after_after : (f g : List ℕ → Option (List ℕ)) → NoLonger f → NoLonger g → NoLonger (λ bytes. option_and_then f (g bytes))
after_after f g f_less g_less bytes =
    if_some_bind (λ rest. length rest ≤ length bytes) (λ rest. length rest ≤ length bytes) f (g bytes) (g_less bytes)
    (λ rest less. weaken (f rest) (length rest) (length bytes) (f_less rest) less)

pub shape_within : NoLonger after_shape
shape_within =
    after_after (after_counted after_number)
    (λ bytes. option_and_then (after_counted after_number) (after_number bytes)) counted_numbers_within
    (after_after (after_counted after_number) after_number counted_numbers_within after_number_within)

-- ---- so many items, one after the other

pub items_more : (after_item : List ℕ → Option (List ℕ)) (count i : ℕ) (bytes rest : List ℕ) → i < count → after_item bytes ≡ Some rest
    → after_items after_item (count - (i + 1)) rest ≡ after_items after_item (count - i) bytes
unfolding after_items
items_more after_item count i bytes rest less e =
    let k : count - i ≡ suc (count - (i + 1)) = omega arith in
    rw k (rw e refl)

pub items_stop : (after_item : List ℕ → Option (List ℕ)) (count i : ℕ) (bytes : List ℕ) → i < count → after_item bytes ≡ None
    → after_items after_item (count - i) bytes ≡ None
unfolding after_items
items_stop after_item count i bytes less e =
    let k : count - i ≡ suc (count - (i + 1)) = omega arith in
    rw k (rw e refl)

pub no_items : (after_item : List ℕ → Option (List ℕ)) (k : ℕ) (bytes : List ℕ) → k ≡ 0 → after_items after_item k bytes ≡ Some bytes
unfolding after_items
no_items after_item k bytes e = rw e refl
