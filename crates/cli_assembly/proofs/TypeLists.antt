-- Types one after the other, as the loop goes on, and what is found where no bytes are left.
use Rattle.std.proofs.Common.{◌≡◌, ◌<◌, ℕ, suc, ◌+◌, ◌-◌, List, [], ◌∷◌, ◌++◌, length, Option, Some, None, refl}
use Rattle.std.proofs.Common.{sym, ap, ◌∙◌, arith, append_assoc, append-nil}
use Rattle.std.specs.Option.{option_map, option_and_then, option_map_or}
use Rattle.rtr_bytes.specs.Compressed.{compressed_at}
use Rattle.cli_assembly.specs.declared.signature.TypeSig.{TypeSig}
use Rattle.cli_assembly.specs.declared.signature.TypeSig.TheVariants as types
use Rattle.cli_assembly.specs.Types.{class_in, coded_type, type_in, types_in}
use Rattle.cli_assembly.specs.Signatures.{whole}
use Rattle.cli_assembly.proofs.Numbers.{number_at}

-- the type after CLASS, by the number that was found
pub class_found : (bytes : List ℕ) (o : Option (ℕ × ℕ)) → o ≡ compressed_at bytes 0
    → option_map_or types.Class (option_and_then (λ found. coded_type found.0) o) types.Outside ≡ class_in bytes
class_found bytes o e =
    ap (λ (o : Option (ℕ × ℕ)). option_map_or types.Class (option_and_then (λ found. coded_type found.0) o)
    types.Outside) (e ∙ number_at bytes)

-- ---- types one after the other

abbrev Found : Type 0
Found = List TypeSig × List ℕ

abbrev behind : List TypeSig → Found → Found
behind front found = (front ++ found.0, found.1)

-- what was found, after those before it
pub with_front : List TypeSig → Option (List TypeSig × List ℕ) → Option (List TypeSig × List ℕ)
with_front front o = option_map (behind front) o

pub front_none : (o : Option (List TypeSig × List ℕ)) → with_front [] o ≡ o
unfolding with_front
front_none None = refl
front_none (Some found) = refl

more_of : (front : List TypeSig) (type : TypeSig) (o : Option (List TypeSig × List ℕ))
    → option_map (behind (front ++ type ∷ [])) o ≡ option_map (behind front) (option_map (behind (type ∷ [])) o)
more_of front type None = refl
more_of front type (Some found) = ap (λ (xs : List TypeSig). Some (xs, found.1)) (append_assoc front (type ∷ []) found.0)

pub front_more : (front : List TypeSig) (type : TypeSig) (count i : ℕ) (bytes rest : List ℕ) → i < count
    → Some (type, rest) ≡ type_in bytes
    → with_front (front ++ type ∷ []) (types_in (count - (i + 1)) rest) ≡ with_front front (types_in (count - i) bytes)
unfolding with_front types_in
front_more front type count i bytes rest less e =
    let k : count - i ≡ suc (count - (i + 1)) = omega arith in
    rw k (rw (sym e) (more_of front type (types_in (count - (i + 1)) rest)))

pub front_stop : (front : List TypeSig) (count i : ℕ) (bytes : List ℕ) → i < count → None ≡ type_in bytes
    → None ≡ with_front front (types_in (count - i) bytes)
unfolding with_front types_in
front_stop front count i bytes less e =
    let k : count - i ≡ suc (count - (i + 1)) = omega arith in
    rw k (rw (sym e) refl)

pub front_end : (front : List TypeSig) (k : ℕ) (bytes : List ℕ) → k ≡ 0 → Some (front, bytes) ≡ with_front front (types_in k bytes)
unfolding with_front types_in
front_end front k bytes e = rw e (ap (λ (xs : List TypeSig). Some (xs, bytes)) (sym (append-nil front)))

-- ---- no bytes are after it

pub whole_end : {X : Type 0} (x : X) (rest : List ℕ) → length rest ≡ 0 → Some x ≡ whole (Some (x, rest))
whole_end x [] e = refl
whole_end x (b ∷ rest) e = absurd (omega arith)

pub whole_more : {X : Type 0} (x : X) (rest : List ℕ) → (length rest ≡ 0 → ⊥) → None ≡ whole (Some (x, rest))
whole_more x [] e = absurd (e refl)
whole_more x (b ∷ rest) e = refl
