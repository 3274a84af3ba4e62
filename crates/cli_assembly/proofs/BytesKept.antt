-- What follows an item of bytes is bytes.
use Rattle.std.proofs.Common.{◌+◌, ◌/◌, ◌%◌, ◌<◌, ℕ, zero, suc, Bool, true, false, List, [], ◌∷◌, drop, length, Option, Some, None, IfSome}
use Rattle.std.specs.Prelude.{◌==◌, ◌||◌, if◌then◌else◌}
use Rattle.std.specs.List.{AllByRecursion}
use Rattle.std.specs.Option.{option_map, option_and_then}
use Rattle.rtr_bytes.specs.Compressed.{compressed_in, number_in}
use Rattle.cli_assembly.specs.Types.{after_counted, after_element, after_instance, after_items, after_method}
use Rattle.cli_assembly.specs.Types.{after_number, after_result_and_params, after_shape, after_type, after_type_within}
use Rattle.cli_assembly.specs.Types.{is_alone, is_modifier, is_numbered, is_prefix}
use Rattle.cli_assembly.proofs.Bind.{if_some_bind, if_some_choice}

abbrev pub AreBytes : List ℕ → Type 0
AreBytes bytes = AllByRecursion (λ b. b < 256) bytes

drop_bytes : (n : ℕ) (bytes : List ℕ) → AreBytes bytes → AreBytes (drop n bytes)
drop_bytes zero bytes h = h
drop_bytes (suc n) [] h = h
drop_bytes (suc n) (b ∷ bytes) h = drop_bytes n bytes h.1

abbrev pub CountBytes : ℕ × List ℕ → Type 0
CountBytes count = AreBytes count.1

number_of : (bytes : List ℕ) (o : Option (ℕ × ℕ)) → AreBytes bytes
    → IfSome (option_map (λ (found : ℕ × ℕ). (found.0, drop found.1 bytes)) o) CountBytes
number_of bytes None h = tt
number_of bytes (Some found) h = drop_bytes found.1 bytes h

pub number_bytes : (bytes : List ℕ) → AreBytes bytes → IfSome (number_in bytes) CountBytes
number_bytes bytes h = number_of bytes (compressed_in bytes) h

second_bytes : (o : Option (ℕ × List ℕ)) → IfSome o CountBytes → IfSome (option_map (λ (found : ℕ × List ℕ). found.1) o) AreBytes
second_bytes None h = tt
second_bytes (Some found) h = h

abbrev Keeps : (List ℕ → Option (List ℕ)) → Type 0
Keeps after = (bytes : List ℕ) → AreBytes bytes → IfSome (after bytes) AreBytes

number_keeps : Keeps after_number
number_keeps bytes h = second_bytes (number_in bytes) (number_bytes bytes h)

items_keep : (after : List ℕ → Option (List ℕ)) → Keeps after → (k : ℕ) → Keeps (after_items after k)
unfolding after_items
items_keep after keeps zero bytes h = h
items_keep after keeps (suc k) bytes h =
    if_some_bind AreBytes AreBytes (after_items after k) (after bytes) (keeps bytes h) (λ rest held. items_keep after keeps k rest held)

counted_keeps : (after : List ℕ → Option (List ℕ)) → Keeps after → Keeps (after_counted after)
counted_keeps after keeps bytes h =
    if_some_bind CountBytes AreBytes (λ count. after_items after count.0 count.1) (number_in bytes) (number_bytes bytes h)
    (λ count held. items_keep after keeps count.0 count.1 held)

shape_keeps : Keeps after_shape
shape_keeps bytes h =
    let numbers = counted_keeps after_number number_keeps in
    if_some_bind AreBytes AreBytes (after_counted after_number) (option_and_then (after_counted after_number) (after_number bytes))
    (if_some_bind AreBytes AreBytes (after_counted after_number) (after_number bytes) (number_keeps bytes h) numbers) numbers

instance_keeps : (after : List ℕ → Option (List ℕ)) → Keeps after → Keeps (after_instance after)
instance_keeps after keeps [] h = tt
instance_keeps after keeps (e ∷ rest) h =
    if_some_choice AreBytes (e == 0x12 || e == 0x11) (option_and_then (after_counted after) (after_number rest)) None
    (if_some_bind AreBytes AreBytes (after_counted after) (after_number rest) (number_keeps rest h.1) (counted_keeps after keeps)) tt

params_keep : (after : List ℕ → Option (List ℕ)) → Keeps after → Keeps (after_result_and_params after)
params_keep after keeps bytes h =
    if_some_bind CountBytes AreBytes (λ count. after_items after (count.0 + 1) count.1) (number_in bytes) (number_bytes bytes h)
    (λ count held. items_keep after keeps (count.0 + 1) count.1 held)

generic_keeps : (rest : List ℕ) (b : Bool) → AreBytes rest → IfSome (if b then after_number rest else Some rest) AreBytes
generic_keeps rest true h = number_keeps rest h
generic_keeps rest false h = h

method_keeps : (after : List ℕ → Option (List ℕ)) → Keeps after → Keeps (after_method after)
method_keeps after keeps [] h = tt
method_keeps after keeps (c ∷ rest) h =
    if_some_bind AreBytes AreBytes (after_result_and_params after) (if c / 0x10 % 2 == 1 then after_number rest else Some rest)
    (generic_keeps rest (c / 0x10 % 2 == 1) h.1) (params_keep after keeps)

element_keeps : (after : List ℕ → Option (List ℕ)) → Keeps after → (e : ℕ) → Keeps (after_element after e)
element_keeps after keeps e rest h =
    if_some_choice AreBytes (is_alone e) _ _ h
    (if_some_choice AreBytes (is_numbered e) _ _ (number_keeps rest h)
    (if_some_choice AreBytes (is_prefix e) _ _ (keeps rest h)
    (if_some_choice AreBytes (is_modifier e) _ _ (if_some_bind AreBytes AreBytes after (after_number rest) (number_keeps rest h) keeps)
    (if_some_choice AreBytes (e == 0x14) _ _ (if_some_bind AreBytes AreBytes after_shape (after rest) (keeps rest h) shape_keeps)
    (if_some_choice AreBytes (e == 0x15) _ _ (instance_keeps after keeps rest h)
    (if_some_choice AreBytes (e == 0x1B) _ _ (method_keeps after keeps rest h) tt))))))

within_keeps : (depth : ℕ) → Keeps (after_type_within depth)
unfolding after_type_within
within_keeps zero bytes h = tt
within_keeps (suc depth) [] h = tt
within_keeps (suc depth) (e ∷ rest) h = element_keeps (after_type_within depth) (within_keeps depth) e rest h.1

pub type_keeps : (bytes : List ℕ) → AreBytes bytes → IfSome (after_type bytes) AreBytes
unfolding after_type
type_keeps bytes h = within_keeps (length bytes) bytes h
