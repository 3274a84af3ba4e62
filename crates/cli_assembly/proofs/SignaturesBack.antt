-- A signature that was written is read again.
use Rattle.std.proofs.Common.{◌≡◌, ◌<◌, ◌^◌, ℕ, Bool, true, false, List, [], ◌∷◌, ◌++◌, length, drop}
use Rattle.std.proofs.Common.{flat_map, Option, Some, refl, sym, ap, ◌∙◌, append_assoc, append-nil}
use Rattle.std.specs.Prelude.{All}
use Rattle.std.specs.List.{AllByRecursion}
use Rattle.std.specs.Option.{option_map, option_map_or, option_and_then}
use Rattle.std.proofs.Math.Seq.{drop-append_seam}
use Rattle.std.proofs.lemmas.List.Elements.{recursion_from_All}
use Rattle.rtr_bytes.specs.Compressed.{compressed_bytes, number_in}
use Rattle.cli_assembly.specs.declared.signature.TypeSig.{TypeSig}
use Rattle.cli_assembly.specs.declared.signature.TypeSig.TheVariants as types
use Rattle.cli_assembly.specs.declared.signature.MethodSig.{MethodSig}
use Rattle.cli_assembly.specs.Types.{after_number, after_type, after_type_within, before, class_in, coded_type}
use Rattle.cli_assembly.specs.Types.{type_in, type_of, types_in}
use Rattle.cli_assembly.specs.Signatures.{field_sig_of, has_this_of, local_sig_of, method_after}
use Rattle.cli_assembly.specs.Signatures.{method_sig, method_sig_of, params_after, whole}
use Rattle.cli_assembly.specs.Shortest.{IsWritable, IsWritableType, coded_of_token, convention_of, field_sig_bytes}
use Rattle.cli_assembly.specs.Shortest.{local_sig_bytes, method_sig_bytes, type_bytes}
use Rattle.cli_assembly.proofs.Classes.{coded_back, coded_small}
use Rattle.cli_assembly.proofs.Compressed.{written_in}
use Rattle.cli_assembly.proofs.ReadBack.{array_again, integer_again, object_again, string_again, void_again}

-- ---- numbers

abbrev after_found : List ℕ → ℕ × ℕ → ℕ × List ℕ
after_found bytes found = (found.0, drop found.1 bytes)

number_again : (n : ℕ) (rest : List ℕ) → n < 2 ^ 29 → number_in (compressed_bytes n ++ rest) ≡ Some (n, rest)
number_again n rest small =
    ap (option_map (after_found (compressed_bytes n ++ rest))) (written_in n rest small)
    ∙ ap (λ (xs : List ℕ). Some (n, xs)) (drop-append_seam (compressed_bytes n) rest)

-- ---- types

class_after : (bytes : List ℕ) → type_in (0x12 ∷ bytes) ≡ option_map (λ (rest : List ℕ). (class_in bytes, rest)) (after_number bytes)
unfolding type_in after_type after_type_within type_of
class_after bytes = refl

class_again : (token : ℕ) (rest : List ℕ) → IsWritableType (types.Class token)
    → type_in (type_bytes (types.Class token) ++ rest) ≡ Some (types.Class token, rest)
class_again token rest some =
    let n = coded_of_token token in
    let bytes = compressed_bytes n ++ rest in
    let found : after_number bytes ≡ Some rest = ap (option_map (λ (x : ℕ × List ℕ). x.1)) (number_again n rest (coded_small token some)) in
    let class : class_in bytes ≡ types.Class token =
    ap (λ (o : Option (ℕ × ℕ)). option_map_or types.Class (option_and_then (λ found. coded_type found.0) o)
    types.Outside) (written_in n rest (coded_small token some))
    ∙ ap (λ (o : Option ℕ). option_map_or types.Class o types.Outside) (coded_back token some) in
    class_after bytes
    ∙ ap (option_map (λ (rest : List ℕ). (class_in bytes, rest))) found
    ∙ ap (λ (type : TypeSig). Some (type, rest)) class

pub type_again : (of : TypeSig) (rest : List ℕ) → IsWritableType of → type_in (type_bytes of ++ rest) ≡ Some (of, rest)
type_again types.Void rest h = void_again rest
type_again (types.Int elem) rest h = integer_again elem rest
type_again types.Str rest h = string_again rest
type_again types.Object rest h = object_again rest
type_again (types.Class token) rest h = class_again token rest h
type_again (types.Array elem) rest h = array_again elem rest
type_again types.Outside rest h = absurd (cc)

all_again : (list : List TypeSig) (rest : List ℕ) → AllByRecursion IsWritableType list
    → types_in (length list) (flat_map type_bytes list ++ rest) ≡ Some (list, rest)
unfolding types_in
all_again [] rest h = refl
all_again (type ∷ list) rest h =
    ap (λ (xs : List ℕ). option_and_then (λ (found : TypeSig × List ℕ). before found.0 (types_in (length list) found.1)) (type_in xs))
    (append_assoc (type_bytes type) (flat_map type_bytes list) rest)
    ∙ ap (option_and_then (λ (found : TypeSig × List ℕ). before found.0 (types_in (length list) found.1)))
    (type_again type (flat_map type_bytes list ++ rest) h.0)
    ∙ ap (before type) (all_again list rest h.1)

types_again : (list : List TypeSig) → All IsWritableType list → types_in (length list) (flat_map type_bytes list) ≡ Some (list, [])
types_again list h =
    ap (types_in (length list)) (sym (append-nil (flat_map type_bytes list))) ∙ all_again list [] (recursion_from_All IsWritableType list h)

-- ---- signatures

method_after_again : (has_this : Bool) (ret : TypeSig) (params : List TypeSig) → length params < 2 ^ 29
    → IsWritableType ret → All IsWritableType params
    → method_after (compressed_bytes (length params) ++ (type_bytes ret ++ flat_map type_bytes params)) has_this
    ≡ Some (method_sig has_this ret params, [])
method_after_again has_this ret params few r p =
    let all = flat_map type_bytes params in
    ap (option_and_then (λ (count : ℕ × List ℕ). option_and_then (params_after has_this count.0) (type_in count.1)))
    (number_again (length params) (type_bytes ret ++ all) few)
    ∙ ap (option_and_then (params_after has_this (length params))) (type_again ret all r)
    ∙ ap (option_map (λ (found : List TypeSig × List ℕ). (method_sig has_this ret found.0, found.1))) (types_again params p)

has_this_again : (has_this : Bool) → has_this_of (convention_of has_this) ≡ Some has_this
has_this_again true = refl
has_this_again false = refl

pub method_again : (sig : MethodSig) → IsWritable sig → method_sig_of (method_sig_bytes sig) ≡ Some sig
unfolding method_sig_of method_sig_bytes
method_again sig h =
    let bytes = compressed_bytes (length sig.params) ++ (type_bytes sig.ret ++ flat_map type_bytes sig.params) in
    ap (option_and_then (λ (has_this : Bool). whole (method_after bytes has_this))) (has_this_again sig.has_this)
    ∙ ap whole (method_after_again sig.has_this sig.ret sig.params h.few h.ret h.params)

pub field_again : (of : TypeSig) → IsWritableType of → field_sig_of (field_sig_bytes of) ≡ Some of
unfolding field_sig_of
field_again of h =
    ap (λ (xs : List ℕ). whole (type_in xs)) (sym (append-nil (type_bytes of))) ∙ ap whole (type_again of [] h)

pub locals_again : (locals : List TypeSig) → length locals < 2 ^ 29 → All IsWritableType locals
    → local_sig_of (local_sig_bytes locals) ≡ Some locals
unfolding local_sig_of local_sig_bytes
locals_again locals few h =
    ap (λ (o : Option (ℕ × List ℕ)). whole (option_and_then (λ (count : ℕ × List ℕ). types_in count.0 count.1) o))
    (number_again (length locals) (flat_map type_bytes locals) few)
    ∙ ap whole (types_again locals h)
