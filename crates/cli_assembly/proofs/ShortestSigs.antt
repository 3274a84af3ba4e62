-- A signature that was read takes at least the bytes of its shortest spelling.
use Rattle.std.proofs.Common.{◌≡◌, ◌≤◌, ◌<◌, ℕ, zero, suc, ◌+◌, ◌++◌, ◌==◌, Bool, true, false, List, [], ◌∷◌, drop, length, flat_map}
use Rattle.std.proofs.Common.{Option, Some, None, IfSome, refl, ap, arith, length-append}
use Rattle.std.specs.Prelude.{All, if◌then◌else◌}
use Rattle.std.specs.List.{AllByRecursion}
use Rattle.std.specs.Option.{option_map, option_map_or, option_and_then}
use Rattle.std.proofs.lemmas.Bool.{eqb-true}
use Rattle.std.proofs.lemmas.List.Elements.{recursion_from_All}
use Rattle.rtr_bytes.specs.Compressed.{compressed_bytes, compressed_in, number_in}
use Rattle.cli_assembly.specs.declared.element.Elem.{Elem}
use Rattle.cli_assembly.specs.declared.signature.TypeSig.{TypeSig}
use Rattle.cli_assembly.specs.declared.signature.TypeSig.TheVariants as types
use Rattle.cli_assembly.specs.declared.signature.MethodSig.{MethodSig}
use Rattle.cli_assembly.specs.Elements.{element_of}
use Rattle.cli_assembly.specs.Types.{after_element, after_number, after_type, after_type_within, array_in, before, class_in, coded_type}
use Rattle.cli_assembly.specs.Types.{type_in, type_of, types_in}
use Rattle.cli_assembly.specs.Signatures.{counted_types_in, field_sig_of, has_this_of, local_sig_of, method_after, method_sig}
use Rattle.cli_assembly.specs.Signatures.{method_sig_of, params_after, whole}
use Rattle.cli_assembly.specs.Shortest.{IsWritable, IsWritableType, coded_of_token, field_sig_bytes, local_sig_bytes, method_sig_bytes}
use Rattle.cli_assembly.specs.Shortest.{type_bytes}
use Rattle.cli_assembly.proofs.Bind.{if_some_at, if_some_bind}
use Rattle.cli_assembly.proofs.BytesKept.{AreBytes, CountBytes, number_bytes, type_keeps}
use Rattle.cli_assembly.proofs.ShortestNumbers.{IsNoShorter, by_test, coded_from, no_shorter}
use Rattle.cli_assembly.proofs.TypeSteps.{element_within, within_no_longer}

-- ---- types

-- a type, and the bytes that are left after it of so many
abbrev Fits : ℕ → TypeSig → List ℕ → Type 0
Fits n of rest = IsWritableType of → length (type_bytes of) + length rest ≤ n

-- one byte
abbrev IsOne : TypeSig → Type 0
IsOne of = IsWritableType of → length (type_bytes of) ≡ 1

at_most : (n : ℕ) (of : TypeSig) (o : Option (List ℕ)) → IsOne of → IfSome o (λ rest. length rest ≤ n) → IfSome o (Fits (suc n) of)
at_most n of None one h = tt
at_most n of (Some rest) one h = λ writable. let is = one writable in omega (arith, is, h)

-- a class after CLASS
class_by : (xs : List ℕ) (found : ℕ × ℕ) (coded : Option ℕ) → IsNoShorter xs found → IfSome coded (λ t. coded_of_token t ≡ found.0)
    → Fits (suc (length xs)) (option_map_or types.Class coded types.Outside) (drop found.1 xs)
class_by xs found None fits is writable = absurd (cc)
class_by xs found (Some t) fits is writable =
    let same : length (compressed_bytes (coded_of_token t)) ≡ length (compressed_bytes found.0) =
    ap (λ (n : ℕ). length (compressed_bytes n)) is in
    omega (arith, same, fits)

class_of : (xs : List ℕ) (o : Option (ℕ × ℕ)) → IfSome o (IsNoShorter xs)
    → IfSome (option_map (λ (x : ℕ × List ℕ). x.1) (option_map (λ (f : ℕ × ℕ). (f.0, drop f.1 xs)) o))
    (Fits (suc (length xs)) (option_map_or types.Class (option_and_then (λ (f : ℕ × ℕ). coded_type f.0) o) types.Outside))
class_of xs None h = tt
class_of xs (Some found) h = class_by xs found (coded_type found.0) h (coded_from found.0)

class_fits : (xs : List ℕ) → AreBytes xs → IfSome (after_number xs) (Fits (suc (length xs)) (class_in xs))
class_fits xs h = class_of xs (compressed_in xs) (no_shorter xs h)

-- an array after SZARRAY
array_by : (elem : Option Elem) (n : ℕ) (o : Option (List ℕ)) → IfSome o (λ rest. length rest ≤ n)
    → IfSome o (Fits (suc (suc n)) (option_map_or types.Array elem types.Outside))
array_by elem n None h = tt
array_by None n (Some rest) h = λ writable. absurd (cc)
array_by (Some elem) n (Some rest) h = λ writable. omega (arith, h)

array_fits : (xs : List ℕ) → IfSome (after_type_within (length xs) xs) (Fits (suc (length xs)) (array_in xs))
unfolding after_type_within
array_fits [] = tt
array_fits (e ∷ rest) =
    array_by (element_of e) (length rest) (after_element (after_type_within (length rest)) e rest)
    (element_within (after_type_within (length rest)) (within_no_longer (length rest)) e rest)

-- each type
integer_one : (elem : Option Elem) → IsOne (option_map_or types.Int elem types.Outside)
integer_one None writable = absurd (cc)
integer_one (Some elem) writable = refl

by_type : (P : TypeSig → Type 0) (b : Bool) (x y : TypeSig) → (b ≡ true → P x) → P y → P (if b then x else y)
by_type P true x y f g = f refl
by_type P false x y f g = g

-- what is after a type of an element type
abbrev after_in : ℕ → List ℕ → Option (List ℕ)
after_in e xs = after_element (after_type_within (length xs)) e xs

is_class : (e : ℕ) (xs : List ℕ) → AreBytes xs → e ≡ 0x12 → IfSome (after_in e xs) (Fits (suc (length xs)) (class_in xs))
is_class e xs h is = rw is (class_fits xs h)

is_array : (e : ℕ) (xs : List ℕ) → e ≡ 0x1D → IfSome (after_in e xs) (Fits (suc (length xs)) (array_in xs))
is_array e xs is = rw is (array_fits xs)

element_fits : (e : ℕ) (xs : List ℕ) → AreBytes xs → IfSome (after_in e xs) (Fits (suc (length xs)) (type_of (e ∷ xs)))
unfolding type_of
element_fits e xs h =
    let n = length xs in
    let shorter = element_within (after_type_within n) (within_no_longer n) e xs in
    let P : TypeSig → Type 0 = λ of. IfSome (after_in e xs) (Fits (suc n) of) in
    by_type P (e == 0x01) types.Void _ (λ t. at_most n types.Void (after_in e xs) (λ w. refl) shorter)
    (by_type P (e == 0x0E) types.Str _ (λ t. at_most n types.Str (after_in e xs) (λ w. refl) shorter)
    (by_type P (e == 0x1C) types.Object _ (λ t. at_most n types.Object (after_in e xs) (λ w. refl) shorter)
    (by_type P (e == 0x12) (class_in xs) _ (λ t. is_class e xs h (eqb-true e 0x12 t))
    (by_type P (e == 0x1D) (array_in xs) _ (λ t. is_array e xs (eqb-true e 0x1D t))
    (at_most n (option_map_or types.Int (element_of e) types.Outside) (after_in e xs) (integer_one (element_of e)) shorter)))))

-- a type that was found in bytes
abbrev IsFound : List ℕ → TypeSig × List ℕ → Type 0
IsFound bytes found = Fits (length bytes) found.0 found.1 × AreBytes found.1

after_fits : (bytes : List ℕ) → AreBytes bytes → IfSome (after_type bytes) (Fits (length bytes) (type_of bytes))
unfolding after_type after_type_within
after_fits [] h = tt
after_fits (e ∷ xs) h = element_fits e xs h.1

found_in : (bytes : List ℕ) (of : TypeSig) (o : Option (List ℕ)) → IfSome o (Fits (length bytes) of) → IfSome o AreBytes
    → IfSome (option_map (λ (rest : List ℕ). (of, rest)) o) (IsFound bytes)
found_in bytes of None f h = tt
found_in bytes of (Some rest) f h = (f, h)

type_fits : (bytes : List ℕ) → AreBytes bytes → IfSome (type_in bytes) (IsFound bytes)
unfolding type_in
type_fits bytes h = found_in bytes (type_of bytes) (after_type bytes) (after_fits bytes h) (type_keeps bytes h)

-- ---- lists of types

-- so many types that were found in bytes
abbrev AreFound : ℕ → ℕ → List TypeSig × List ℕ → Type 0
AreFound n len found =
    (length found.0 ≡ n)
    × (AllByRecursion IsWritableType found.0 → length (flat_map type_bytes found.0) + length found.1 ≤ len)

one_more : (bytes : List ℕ) (n : ℕ) (of : TypeSig) (rest : List ℕ) (o : Option (List TypeSig × List ℕ)) → Fits (length bytes) of rest
    → IfSome o (AreFound n (length rest)) → IfSome (before of o) (AreFound (suc n) (length bytes))
one_more bytes n of rest None f h = tt
one_more bytes n of rest (Some others) f h = (
  ap suc h.0,
  λ writable. let first = f writable.0 in let later = h.1 writable.1 in
      omega (arith, first, later, length-append (type_bytes of) (flat_map type_bytes others.0)),
)

types_fit : (n : ℕ) (bytes : List ℕ) → AreBytes bytes → IfSome (types_in n bytes) (AreFound n (length bytes))
unfolding types_in
types_fit zero bytes h = (refl, λ writable. omega arith)
types_fit (suc n) bytes h =
    if_some_bind (IsFound bytes) (AreFound (suc n) (length bytes))
    (λ (found : TypeSig × List ℕ). before found.0 (types_in n found.1)) (type_in bytes) (type_fits bytes h)
    (λ found is. one_more bytes n found.0 found.1 (types_in n found.1) is.0 (types_fit n found.1 is.1))

-- a count of so many bytes
abbrev IsCount : List ℕ → ℕ × List ℕ → Type 0
IsCount bytes count = (length (compressed_bytes count.0) + length count.1 ≤ length bytes) × AreBytes count.1

count_of : (bytes : List ℕ) (o : Option (ℕ × ℕ)) → IfSome o (IsNoShorter bytes)
    → IfSome (option_map (λ (f : ℕ × ℕ). (f.0, drop f.1 bytes)) o) CountBytes
    → IfSome (option_map (λ (f : ℕ × ℕ). (f.0, drop f.1 bytes)) o) (IsCount bytes)
count_of bytes None f h = tt
count_of bytes (Some found) f h = (f, h)

count_fits : (bytes : List ℕ) → AreBytes bytes → IfSome (number_in bytes) (IsCount bytes)
count_fits bytes h = count_of bytes (compressed_in bytes) (no_shorter bytes h) (number_bytes bytes h)

-- ---- signatures

whole_of : {X : Type 0} (P : X → Type 0) (Q : X × List ℕ → Type 0) (o : Option (X × List ℕ)) → IfSome o Q
    → ((x : X) (rest : List ℕ) → Q (x, rest) → P x) → IfSome (whole o) P
whole_of P Q None h f = tt
whole_of P Q (Some (x, [])) h f = f x [] h
whole_of P Q (Some (x, b ∷ rest)) h f = tt

-- a method, after its convention
abbrev IsMethod : List ℕ → MethodSig × List ℕ → Type 0
IsMethod bytes found = IsWritable found.0 → length (method_sig_bytes found.0) ≤ suc (length bytes)

method_of : (bytes : List ℕ) (has_this : Bool) (count : ℕ) (ret : TypeSig) (left after : List ℕ)
    (o : Option (List TypeSig × List ℕ)) → length (compressed_bytes count) + length left ≤ length bytes
    → Fits (length left) ret after → IfSome o (AreFound count (length after))
    → IfSome (option_map (λ (params : List TypeSig × List ℕ). (method_sig has_this ret params.0, params.1)) o) (IsMethod bytes)
unfolding method_sig_bytes
method_of bytes has_this count ret left after None c f h = tt
method_of bytes has_this count ret left after (Some params) c f h = λ writable.
    let counted : length (compressed_bytes (length params.0)) ≡ length (compressed_bytes count) =
    ap (λ (n : ℕ). length (compressed_bytes n)) h.0 in
    let result = f writable.ret in
    let others = h.1 (recursion_from_All IsWritableType params.0 writable.params) in
    let all = length-append (type_bytes ret) (flat_map type_bytes params.0) in
    let both = length-append (compressed_bytes (length params.0)) (type_bytes ret ++ flat_map type_bytes params.0) in
    omega (arith, c, counted, result, others, all, both)

method_fits : (bytes : List ℕ) (has_this : Bool) → AreBytes bytes → IfSome (method_after bytes has_this) (IsMethod bytes)
method_fits bytes has_this h =
    if_some_bind (IsCount bytes) (IsMethod bytes)
    (λ (count : ℕ × List ℕ). option_and_then (params_after has_this count.0) (type_in count.1)) (number_in bytes) (count_fits bytes h)
    (λ count is. if_some_bind (IsFound count.1) (IsMethod bytes) (params_after has_this count.0) (type_in count.1)
    (type_fits count.1 is.1)
    (λ ret found. method_of bytes has_this count.0 ret.0 count.1 ret.1 (types_in count.0 ret.1) is.0 found.0
    (types_fit count.0 ret.1 found.1)))

this_or_not : (o : Option Bool) (bytes : List ℕ) → AreBytes bytes
    → IfSome (option_and_then (λ has_this. whole (method_after bytes has_this)) o)
    (λ sig. IsWritable sig → length (method_sig_bytes sig) ≤ suc (length bytes))
this_or_not None bytes h = tt
this_or_not (Some has_this) bytes h =
    whole_of (λ sig. IsWritable sig → length (method_sig_bytes sig) ≤ suc (length bytes)) (IsMethod bytes) (method_after bytes has_this)
    (method_fits bytes has_this h) (λ sig rest is. is)

method_bytes : (bytes : List ℕ) → AreBytes bytes
    → IfSome (method_sig_of bytes) (λ sig. IsWritable sig → length (method_sig_bytes sig) ≤ length bytes)
unfolding method_sig_of
method_bytes [] h = tt
method_bytes (convention ∷ rest) h = this_or_not (has_this_of convention) rest h.1

pub shortest_method : (bytes : List ℕ) (sig : MethodSig) → All (λ b. b < 256) bytes → IsWritable sig → method_sig_of bytes ≡ Some sig
    → length (method_sig_bytes sig) ≤ length bytes
shortest_method bytes sig h writable e =
    if_some_at (λ sig. IsWritable sig → length (method_sig_bytes sig) ≤ length bytes) (method_sig_of bytes) sig
    (method_bytes bytes (recursion_from_All (λ b. b < 256) bytes h)) e writable

-- a field
field_bytes : (bytes : List ℕ) → AreBytes bytes
    → IfSome (field_sig_of bytes) (λ of. IsWritableType of → length (field_sig_bytes of) ≤ length bytes)
unfolding field_sig_of
field_bytes [] h = tt
field_bytes (first ∷ rest) h =
    by_test (λ of. IsWritableType of → length (field_sig_bytes of) ≤ length (first ∷ rest)) (first == 0x06) _ _
    (λ e. whole_of (λ of. IsWritableType of → length (field_sig_bytes of) ≤ length (first ∷ rest)) (IsFound rest) (type_in rest)
    (type_fits rest h.1) (λ of left is writable. let fits = is.0 writable in omega (arith, fits)))
    (λ e. tt)

pub shortest_field : (bytes : List ℕ) (of : TypeSig) → All (λ b. b < 256) bytes → IsWritableType of → field_sig_of bytes ≡ Some of
    → length (field_sig_bytes of) ≤ length bytes
shortest_field bytes of h writable e =
    if_some_at (λ of. IsWritableType of → length (field_sig_bytes of) ≤ length bytes) (field_sig_of bytes) of
    (field_bytes bytes (recursion_from_All (λ b. b < 256) bytes h)) e writable

-- locals
abbrev AreLocals : List ℕ → List TypeSig × List ℕ → Type 0
AreLocals bytes found = All IsWritableType found.0 → length (local_sig_bytes found.0) ≤ suc (length bytes)

locals_of : (bytes : List ℕ) (count : ℕ) (left : List ℕ) (o : Option (List TypeSig × List ℕ))
    → length (compressed_bytes count) + length left ≤ length bytes
    → IfSome o (AreFound count (length left)) → IfSome o (AreLocals bytes)
unfolding local_sig_bytes
locals_of bytes count left None c h = tt
locals_of bytes count left (Some locals) c h = λ writable.
    let counted : length (compressed_bytes (length locals.0)) ≡ length (compressed_bytes count) =
    ap (λ (n : ℕ). length (compressed_bytes n)) h.0 in
    let all = h.1 (recursion_from_All IsWritableType locals.0 writable) in
    let both = length-append (compressed_bytes (length locals.0)) (flat_map type_bytes locals.0) in
    omega (arith, c, counted, all, both)

locals_fit : (bytes : List ℕ) → AreBytes bytes → IfSome (counted_types_in bytes) (AreLocals bytes)
locals_fit bytes h =
    if_some_bind (IsCount bytes) (AreLocals bytes) (λ (count : ℕ × List ℕ). types_in count.0 count.1) (number_in bytes)
    (count_fits bytes h)
    (λ count is. locals_of bytes count.0 count.1 (types_in count.0 count.1) is.0 (types_fit count.0 count.1 is.1))

local_bytes : (bytes : List ℕ) → AreBytes bytes
    → IfSome (local_sig_of bytes) (λ locals. All IsWritableType locals → length (local_sig_bytes locals) ≤ length bytes)
unfolding local_sig_of
local_bytes [] h = tt
local_bytes (first ∷ rest) h =
    by_test (λ locals. All IsWritableType locals → length (local_sig_bytes locals) ≤ length (first ∷ rest)) (first == 0x07) _ _
    (λ e. whole_of (λ locals. All IsWritableType locals → length (local_sig_bytes locals) ≤ length (first ∷ rest)) (AreLocals rest)
    (counted_types_in rest) (locals_fit rest h.1) (λ locals left is. is))
    (λ e. tt)

pub shortest_locals : (bytes : List ℕ) (locals : List TypeSig) → All (λ b. b < 256) bytes → All IsWritableType locals
    → local_sig_of bytes ≡ Some locals → length (local_sig_bytes locals) ≤ length bytes
shortest_locals bytes locals h writable e =
    if_some_at (λ locals. All IsWritableType locals → length (local_sig_bytes locals) ≤ length bytes) (local_sig_of bytes) locals
    (local_bytes bytes (recursion_from_All (λ b. b < 256) bytes h)) e writable
