-- A type is read head by head: what is to come after a head, and after it what was to come before.
use Rattle.std.proofs.Common.{◌≡◌, ◌≤◌, ℕ, zero, suc, ◌+◌, ◌-◌, ◌/◌, ◌%◌, Bool, true, false, List, [], ◌∷◌}
use Rattle.std.proofs.Common.{length, Option, Some, None, IfSome, refl, sym, ap, ◌∙◌, arith, subst}
use Rattle.std.specs.Prelude.{◌==◌, ◌||◌, if◌then◌else◌}
use Rattle.std.specs.Option.{option_map, option_and_then}
use Rattle.std.proofs.lemmas.Option.{some_pair_parts}
use Rattle.cli_assembly.specs.declared.pending.Pending.{Pending}
use Rattle.cli_assembly.specs.declared.signature.TypeSig.{TypeSig}
use Rattle.cli_assembly.specs.Types.{after_counted, after_element, after_instance, after_items, after_method}
use Rattle.cli_assembly.specs.Types.{after_number, after_result_and_params, after_shape, after_type, after_type_within}
use Rattle.rtr_bytes.specs.Compressed.{number_in}
use Rattle.cli_assembly.specs.Types.{is_alone, is_modifier, is_numbered, is_prefix, type_in, type_of}
use Rattle.cli_assembly.specs.Heads.{after_pending, arguments_in, function_in, head_in, head_of, instance_in}
use Rattle.cli_assembly.specs.Heads.{no_type, one_more, one_type, params_in, pending, shape_if, so_many}
use Rattle.cli_assembly.proofs.Bind.{bind_choice, bind_same, bind_some, if_some_at, if_some_bind, if_some_choice}
use Rattle.cli_assembly.proofs.Numbers.{NoLonger, after_number_within, items_within, number_within, shape_within}

-- what comes after a head that was found
abbrev pub go_on : (List ℕ → Option (List ℕ)) → Pending × List ℕ → Option (List ℕ)
go_on after found = after_pending after found.0 found.1

-- ---- an element type is its head, and what is to come after it

module _ (after : List ℕ → Option (List ℕ)) where
  nothing_is : (o : Option (List ℕ)) → option_and_then (go_on after) (option_map no_type o) ≡ o
  unfolding after_items
  nothing_is None = refl
  nothing_is (Some rest) = refl

  one_of : (o : Option (List ℕ)) → option_and_then (shape_if false) (option_and_then (after_items after 0) o) ≡ o
  unfolding after_items
  one_of None = refl
  one_of (Some rest) = refl

  one_is : (rest : List ℕ) → go_on after (one_type rest) ≡ after rest
  unfolding after_items
  one_is rest = one_of (after rest)

  modified_is : (o : Option (List ℕ)) → option_and_then (go_on after) (option_map one_type o) ≡ option_and_then after o
  modified_is None = refl
  modified_is (Some rest) = one_is rest

  elements_of : (o : Option (List ℕ))
      → option_and_then (shape_if true) (option_and_then (after_items after 0) o) ≡ option_and_then after_shape o
  unfolding after_items
  elements_of None = refl
  elements_of (Some rest) = refl

  elements_is : (rest : List ℕ) → go_on after (pending 1 true, rest) ≡ option_and_then after_shape (after rest)
  unfolding after_items
  elements_is rest = elements_of (after rest)

  counted_is : (o : Option (ℕ × List ℕ))
      → option_and_then (go_on after) (option_map so_many o) ≡ option_and_then (λ count. after_items after count.0 count.1) o
  counted_is None = refl
  counted_is (Some count) = bind_some (after_items after count.0 count.1)

  arguments_is : (o : Option (List ℕ))
      → option_and_then (go_on after) (option_and_then arguments_in o) ≡ option_and_then (after_counted after) o
  arguments_is None = refl
  arguments_is (Some rest) = counted_is (number_in rest)

  instance_is : (rest : List ℕ) → option_and_then (go_on after) (instance_in rest) ≡ after_instance after rest
  instance_is [] = refl
  instance_is (e ∷ rest) =
      bind_choice (e == 0x12 || e == 0x11) (go_on after) (option_and_then arguments_in (after_number rest)) None
      (option_and_then (after_counted after) (after_number rest)) None (arguments_is (after_number rest)) refl

  one_more_is : (o : Option (ℕ × List ℕ))
      → option_and_then (go_on after) (option_map one_more o) ≡ option_and_then (λ count. after_items after (count.0 + 1) count.1) o
  one_more_is None = refl
  one_more_is (Some count) = bind_some (after_items after (count.0 + 1) count.1)

  params_is : (o : Option (List ℕ))
      → option_and_then (go_on after) (option_and_then params_in o) ≡ option_and_then (after_result_and_params after) o
  params_is None = refl
  params_is (Some rest) = one_more_is (number_in rest)

  function_is : (rest : List ℕ) → option_and_then (go_on after) (function_in rest) ≡ after_method after rest
  function_is [] = refl
  function_is (c ∷ rest) = params_is (if c / 0x10 % 2 == 1 then after_number rest else Some rest)

  pub is_head : (e : ℕ) (rest : List ℕ) → option_and_then (go_on after) (head_of e rest) ≡ after_element after e rest
  unfolding after_items
  is_head e rest =
      let next = go_on after in
      bind_choice (is_alone e) next _ _ _ _ refl
      (bind_choice (is_numbered e) next _ _ _ _ (nothing_is (after_number rest))
      (bind_choice (is_prefix e) next _ _ _ _ (one_is rest)
      (bind_choice (is_modifier e) next _ _ _ _ (modified_is (after_number rest))
      (bind_choice (e == 0x14) next _ _ _ _ (elements_is rest)
      (bind_choice (e == 0x15) next _ _ _ _ (instance_is rest)
      (bind_choice (e == 0x1B) next _ _ _ _ (function_is rest) refl))))))

-- ---- a head's rest is no longer than the bytes

abbrev Within : ℕ → Pending × List ℕ → Type 0
Within n found = length found.1 ≤ n

abbrev AtMost : ℕ → List ℕ → Type 0
AtMost n rest = length rest ≤ n

abbrev CountWithin : ℕ → ℕ × List ℕ → Type 0
CountWithin n count = length count.1 ≤ n

nothing_within : (n : ℕ) (o : Option (List ℕ)) → IfSome o (AtMost n) → IfSome (option_map no_type o) (Within n)
nothing_within n None h = tt
nothing_within n (Some rest) h = h

one_within : (n : ℕ) (o : Option (List ℕ)) → IfSome o (AtMost n) → IfSome (option_map one_type o) (Within n)
one_within n None h = tt
one_within n (Some rest) h = h

so_many_within : (m n : ℕ) (o : Option (ℕ × List ℕ)) → IfSome o (CountWithin m) → m ≤ n → IfSome (option_map so_many o) (Within n)
so_many_within m n None h less = tt
so_many_within m n (Some count) h less = omega arith

one_more_within : (m n : ℕ) (o : Option (ℕ × List ℕ)) → IfSome o (CountWithin m) → m ≤ n → IfSome (option_map one_more o) (Within n)
one_more_within m n None h less = tt
one_more_within m n (Some count) h less = omega arith

at_most_more : (m n : ℕ) (o : Option (List ℕ)) → IfSome o (AtMost m) → m ≤ n → IfSome o (AtMost n)
at_most_more m n None h less = tt
at_most_more m n (Some rest) h less = omega arith

instance_within : (rest : List ℕ) → IfSome (instance_in rest) (Within (length rest))
instance_within [] = tt
instance_within (e ∷ rest) =
    let n = length (e ∷ rest) in
    if_some_choice (Within n) (e == 0x12 || e == 0x11) (option_and_then arguments_in (after_number rest)) None
    (if_some_bind (AtMost (length rest)) (Within n) arguments_in (after_number rest) (after_number_within rest)
    (λ last less. so_many_within (length last) n (number_in last) (number_within last) (omega arith)))
    tt

generic_within : (rest : List ℕ) (b : Bool) → IfSome (if b then after_number rest else Some rest) (AtMost (length rest))
generic_within rest true = after_number_within rest
generic_within rest false = omega arith

function_within : (rest : List ℕ) → IfSome (function_in rest) (Within (length rest))
function_within [] = tt
function_within (c ∷ rest) =
    let n = length (c ∷ rest) in
    if_some_bind (AtMost (length rest)) (Within n) params_in (if c / 0x10 % 2 == 1 then after_number rest else Some rest)
    (generic_within rest (c / 0x10 % 2 == 1))
    (λ last less. one_more_within (length last) n (number_in last) (number_within last) (omega arith))

head_within : (e : ℕ) (rest : List ℕ) → IfSome (head_of e rest) (Within (length rest))
head_within e rest =
    let n = length rest in
    let here : n ≤ n = omega arith in
    let number = after_number_within rest in
    if_some_choice (Within n) (is_alone e) _ _ here
    (if_some_choice (Within n) (is_numbered e) _ _ (nothing_within n (after_number rest) number)
    (if_some_choice (Within n) (is_prefix e) _ _ here
    (if_some_choice (Within n) (is_modifier e) _ _ (one_within n (after_number rest) number)
    (if_some_choice (Within n) (e == 0x14) _ _ here
    (if_some_choice (Within n) (e == 0x15) _ _ (instance_within rest)
    (if_some_choice (Within n) (e == 0x1B) _ _ (function_within rest) tt))))))

-- ---- nor is what follows a type

shape_if_within : (shape : Bool) (m n : ℕ) (bytes : List ℕ) → length bytes ≤ n → IfSome (shape_if shape bytes) (AtMost n)
shape_if_within true m n bytes less = at_most_more (length bytes) n (after_shape bytes) (shape_within bytes) less
shape_if_within false m n bytes less = less

pending_within : (after : List ℕ → Option (List ℕ)) → NoLonger after → (p : Pending) (n : ℕ) (bytes : List ℕ)
    → length bytes ≤ n → IfSome (after_pending after p bytes) (AtMost n)
pending_within after shorter p n bytes less =
    if_some_bind (AtMost n) (AtMost n) (shape_if p.shape) (after_items after p.types bytes)
    (items_within after shorter p.types n bytes less) (λ rest smaller. shape_if_within p.shape n n rest smaller)

pub element_within : (after : List ℕ → Option (List ℕ)) → NoLonger after → (e : ℕ) (rest : List ℕ)
    → IfSome (after_element after e rest) (AtMost (length rest))
element_within after shorter e rest =
    let n = length rest in
    subst (λ (o : Option (List ℕ)). IfSome o (AtMost n)) (is_head after e rest)
    (if_some_bind (Within (length rest)) (AtMost n) (go_on after) (head_of e rest) (head_within e rest)
    (λ found less. pending_within after shorter found.0 n found.1 (omega arith)))

pub within_no_longer : (depth : ℕ) → NoLonger (after_type_within depth)
unfolding after_type_within
within_no_longer zero bytes = tt
within_no_longer (suc depth) [] = tt
within_no_longer (suc depth) (e ∷ rest) =
    at_most_more (length rest) (length (e ∷ rest)) (after_element (after_type_within depth) e rest)
    (element_within (after_type_within depth) (within_no_longer depth) e rest) (omega arith)

type_no_longer : NoLonger after_type
unfolding after_type
type_no_longer bytes = within_no_longer (length bytes) bytes

abbrev with_type : TypeSig → List ℕ → TypeSig × List ℕ
with_type of rest = (of, rest)

rest_of : (of : TypeSig) (n : ℕ) (o : Option (List ℕ)) → IfSome o (AtMost n) → (type : TypeSig) (rest : List ℕ)
    → Some (with_type type rest) ≡ option_map (with_type of) o → length rest ≤ n
rest_of of n None h type rest e = absurd (cc)
rest_of of n (Some last) h type rest e = let same : rest ≡ last = (some_pair_parts type of rest last e).1 in rw same h

-- the bytes after a type are no more than the bytes
pub type_in_within : (bytes : List ℕ) (type : TypeSig) (rest : List ℕ) → Some (type, rest) ≡ type_in bytes → length rest ≤ length bytes
unfolding type_in
type_in_within bytes type rest e = rest_of (type_of bytes) (length bytes) (after_type bytes) (type_no_longer bytes) type rest e

-- ---- a type is the same for each depth of at least the length

-- two readers of a type agree on bytes that are no longer
abbrev Agree : ℕ → (List ℕ → Option (List ℕ)) → (List ℕ → Option (List ℕ)) → Type 0
Agree n after other = (bytes : List ℕ) → length bytes ≤ n → after bytes ≡ other bytes

items_agree : (n : ℕ) (after other : List ℕ → Option (List ℕ)) → Agree n after other → NoLonger after
    → (k : ℕ) (bytes : List ℕ) → length bytes ≤ n
    → after_items after k bytes ≡ after_items other k bytes
unfolding after_items
items_agree n after other same shorter zero bytes less = refl
items_agree n after other same shorter (suc k) bytes less =
    bind_same (after_items after k) (after_items other k) (after bytes)
    (λ rest e. let smaller : length rest ≤ length bytes = if_some_at (AtMost (length bytes)) (after bytes) rest (shorter bytes) e in
    items_agree n after other same shorter k rest (omega arith))
    ∙ ap (option_and_then (after_items other k)) (same bytes less)

element_agree : (n : ℕ) (after other : List ℕ → Option (List ℕ)) → Agree n after other → NoLonger after
    → (e : ℕ) (rest : List ℕ) → length rest ≤ n
    → after_element after e rest ≡ after_element other e rest
element_agree n after other same shorter e rest less =
    sym (is_head after e rest)
    ∙ bind_same (go_on after) (go_on other) (head_of e rest)
    (λ found is. let smaller : length found.1
    ≤ length rest = if_some_at (Within (length rest)) (head_of e rest) found (head_within e rest) is in
    ap (option_and_then (shape_if found.0.shape)) (items_agree n after other same shorter found.0.types found.1 (omega arith)))
    ∙ is_head other e rest

within_next : (depth : ℕ) (bytes : List ℕ) → length bytes ≤ depth → after_type_within depth bytes ≡ after_type_within (suc depth) bytes
unfolding after_type_within
within_next zero [] less = refl
within_next zero (e ∷ rest) less = absurd (omega arith)
within_next (suc depth) [] less = refl
within_next (suc depth) (e ∷ rest) less =
    element_agree depth (after_type_within depth) (after_type_within (suc depth)) (within_next depth)
    (within_no_longer depth) e rest (omega arith)

within_is : (more depth : ℕ) (bytes : List ℕ) → depth ≡ length bytes + more → after_type_within depth bytes ≡ after_type bytes
unfolding after_type
within_is zero depth bytes e = ap (λ d. after_type_within d bytes) (omega arith)
within_is (suc more) zero bytes e = absurd (omega arith)
within_is (suc more) (suc depth) bytes e = sym (within_next depth bytes (omega arith)) ∙ within_is more depth bytes (omega arith)

type_step_at : (e : ℕ) (rest : List ℕ) → after_type (e ∷ rest) ≡ after_element (after_type_within (length rest)) e rest
unfolding after_type after_type_within
type_step_at e rest = refl

-- a type is a head, and what is to come after it
pub type_step : (bytes : List ℕ) → after_type bytes ≡ option_and_then (go_on after_type) (head_in bytes)
unfolding after_type after_type_within head_in
type_step [] = refl
type_step (e ∷ rest) =
    type_step_at e rest
    ∙ element_agree (length rest) (after_type_within (length rest)) after_type
    (λ bytes less. within_is (length rest - length bytes) (length rest) bytes (omega arith))
    (within_no_longer (length rest)) e rest (omega arith)
    ∙ sym (is_head after_type e rest)
