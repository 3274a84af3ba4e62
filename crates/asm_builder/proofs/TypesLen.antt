-- The lengths of types in signatures.
use Rattle.std.proofs.Common.{◌≡◌, ◌<◌, ◌+◌, ℕ, List, [], ◌∷◌, ◌++◌, length, take, get_or, refl, ap, arith, length-append}
use Rattle.std.specs.List.{flat_map}
use Rattle.std.proofs.lemmas.List.{append-nil, take_more}
use Rattle.std.proofs.lemmas.List.Concat.{flat_map-append}
use Rattle.metadata.specs.declared.schema.CodedKind.TheVariants as kinds
use Rattle.cli_assembly.specs.declared.signature.TypeSig.{TypeSig}
use Rattle.cli_assembly.specs.Shortest.{coded_of_token, type_bytes, type_tag}
use Rattle.asm_builder.specs.Content.{coded_index, tag_of}

pub coded_is : (token : ℕ) → coded_index kinds.TypeDefOrRef token ≡ coded_of_token token
unfolding tag_of type_tag
coded_is token = refl

pub types_step : (types : List TypeSig) (i len more : ℕ) (of : TypeSig) → i < length types → of ≡ get_or types i of
    → len ≡ length (flat_map type_bytes (take i types)) → more ≡ length (type_bytes of)
    → len + more ≡ length (flat_map type_bytes (take (i + 1) types))
types_step types i len more of below is before here =
    let one = take_more types i of below in
    let all = ap (λ (l : List TypeSig). length (flat_map type_bytes l)) one in
    let parts = ap (λ (l : List ℕ). length l) (flat_map-append type_bytes (take i types) (get_or types i of ∷ [])) in
    let sum = length-append (flat_map type_bytes (take i types)) (type_bytes (get_or types i of) ++ []) in
    let last = ap (λ (l : List ℕ). length l) (append-nil (type_bytes (get_or types i of))) in
    let same = ap (λ (t : TypeSig). length (type_bytes t)) is in
    omega (arith, before, here, all, parts, sum, last, same)
