-- The coded TypeDefOrRef of a token is read as the token.
use Rattle.std.proofs.Common.{◌≡◌, ◌<◌, ◌^◌, ℕ, ◌+◌, ◌*◌, ◌/◌, ◌%◌, true, false, eqb, Option, Some, None, ◌⊎◌}
use Rattle.std.proofs.Common.{inl, inr, refl, sym, ap, ◌∙◌, arith}
use Rattle.std.specs.Prelude.{is_some, unwrap_or, IsTrue}
use Rattle.std.proofs.lemmas.Bool.{lt-ltb}
use Rattle.std.proofs.lemmas.Bool.Decides.{eqb_tells}
use Rattle.metadata.specs.declared.schema.Table.{Table}
use Rattle.metadata.specs.declared.schema.Table.TheVariants as tables
use Rattle.metadata.specs.declared.schema.CodedKind.TheVariants as kinds
use Rattle.metadata.specs.declared.schema.TheConstants.{CODED_TABLES}
use Rattle.metadata.specs.Schema.{table_number, tagged_table}
use Rattle.metadata.specs.Heaps.{token}
use Rattle.cli_assembly.specs.Types.{coded_type}
use Rattle.cli_assembly.specs.Shortest.{coded_of_token, tag_in, type_tag}

-- ---- three tables have a tag

no_tag : (table : ℕ) → eqb 2 table ≡ false → eqb 1 table ≡ false → eqb 0x1B table ≡ false → tag_in CODED_TABLES table ≡ None
no_tag table a b c = rw a (rw b (rw c refl))

tag_cases : (table : ℕ) → is_some (tag_in CODED_TABLES table) ≡ true → (table ≡ 2) ⊎ ((table ≡ 1) ⊎ (table ≡ 0x1B))
tag_cases table some = elim (eqb_tells 2 table) [
  | inl h ↦ inl (sym h.1)
  | inr a ↦ elim (eqb_tells 1 table) [
    | inl h ↦ inr (inl (sym h.1))
    | inr b ↦ elim (eqb_tells 0x1B table) [
      | inl h ↦ inr (inr (sym h.1))
      | inr d ↦ let none : is_some (tag_in CODED_TABLES table) ≡ false = ap is_some (no_tag table a.0 b.0 d.0) in absurd (cc)
    ]
  ]
]

-- ---- each of them

at_tag : (row tag : ℕ) (table : Table) → tag < 4 → row < 2 ^ 24 → tagged_table kinds.TypeDefOrRef tag ≡ Some table
    → coded_type (row * 4 + tag) ≡ Some (token (table_number table) row)
unfolding coded_type
at_tag row tag table small fits e =
    let q : (row * 4 + tag) / 4 ≡ row = omega arith in
    let r : (row * 4 + tag) % 4 ≡ tag = omega arith in
    rw q (rw r (rw (lt-ltb row (2 ^ 24) fits) (rw e refl)))

pub def_tag : tagged_table kinds.TypeDefOrRef 0 ≡ Some tables.TypeDef
unfolding tagged_table
def_tag = refl

pub ref_tag : tagged_table kinds.TypeDefOrRef 1 ≡ Some tables.TypeRef
unfolding tagged_table
ref_tag = refl

pub spec_tag : tagged_table kinds.TypeDefOrRef 2 ≡ Some tables.TypeSpec
unfolding tagged_table
spec_tag = refl

-- a token of a table with a tag
with_tag : (t number tag : ℕ) (table : Table) → t / 2 ^ 24 ≡ number → number ≡ table_number table → tag < 4
    → tag_in CODED_TABLES number ≡ Some tag
    → tagged_table kinds.TypeDefOrRef tag ≡ Some table → coded_type (coded_of_token t) ≡ Some t
unfolding type_tag
with_tag t number tag table e is small tagged back =
    let coded : coded_of_token t ≡ t % 2 ^ 24 * 4 + tag =
    ap (λ (n : ℕ). t % 2 ^ 24 * 4 + unwrap_or (tag_in CODED_TABLES n) 0) e ∙ ap (λ (o : Option ℕ). t % 2 ^ 24 * 4 + unwrap_or o 0) tagged in
    let whole : token (table_number table) (t % 2 ^ 24) ≡ t = omega arith in
    ap coded_type coded ∙ at_tag (t % 2 ^ 24) tag table small (omega arith) back ∙ ap (λ (n : ℕ). Some n) whole

pub coded_back : (t : ℕ) → IsTrue (is_some (type_tag t)) → coded_type (coded_of_token t) ≡ Some t
unfolding type_tag
coded_back t some = elim (tag_cases (t / 2 ^ 24) some) [
  | inl e ↦ with_tag t 2 0 tables.TypeDef e refl (omega arith) refl def_tag
  | inr other ↦ elim other [
    | inl e ↦ with_tag t 1 1 tables.TypeRef e refl (omega arith) refl ref_tag
    | inr e ↦ with_tag t 0x1B 2 tables.TypeSpec e refl (omega arith) refl spec_tag
  ]
]

coded_small_of : (t number tag : ℕ) → t / 2 ^ 24 ≡ number → tag < 4 → tag_in CODED_TABLES number ≡ Some tag → coded_of_token t < 2 ^ 29
unfolding type_tag
coded_small_of t number tag e small tagged =
    let coded : coded_of_token t ≡ t % 2 ^ 24 * 4 + tag =
    ap (λ (n : ℕ). t % 2 ^ 24 * 4 + unwrap_or (tag_in CODED_TABLES n) 0) e ∙ ap (λ (o : Option ℕ). t % 2 ^ 24 * 4 + unwrap_or o 0) tagged in
    rw coded (omega arith)

pub coded_small : (t : ℕ) → IsTrue (is_some (type_tag t)) → coded_of_token t < 2 ^ 29
unfolding type_tag
coded_small t some = elim (tag_cases (t / 2 ^ 24) some) [
  | inl e ↦ coded_small_of t 2 0 e (omega arith) refl
  | inr other ↦ elim other [
    | inl e ↦ coded_small_of t 1 1 e (omega arith) refl
    | inr e ↦ coded_small_of t 0x1B 2 e (omega arith) refl
  ]
]
