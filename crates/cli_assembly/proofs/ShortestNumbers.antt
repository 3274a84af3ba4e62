-- A compressed number that bytes begin with takes at least the bytes of its shortest spelling, and a class its coded token's.
use Rattle.std.proofs.Common.{◌≡◌, ◌≤◌, ◌<◌, ◌^◌, ℕ, ◌+◌, ◌-◌, ◌*◌, ◌/◌, ◌%◌, Bool, true, false, cond, List, [], ◌∷◌, drop, length}
use Rattle.std.proofs.Common.{Option, Some, None, IfSome, inl, inr, refl, ap, ◌∙◌, arith}
use Rattle.std.specs.Prelude.{if◌then◌else◌, nat_lt, unwrap_or}
use Rattle.std.specs.Option.{option_map}
use Rattle.std.proofs.lemmas.Bool.{lt-ltb, ltb-false, ltb-true}
use Rattle.std.proofs.lemmas.Bool.Decides.{eqb_tells}
use Rattle.byteorder.specs.Endian.{big_bytes}
use Rattle.rtr_bytes.specs.Compressed.{compressed_bytes, compressed_in, four_bytes_in, two_bytes_in}
use Rattle.metadata.specs.declared.schema.Table.{Table}
use Rattle.metadata.specs.declared.schema.CodedKind.TheVariants as kinds
use Rattle.metadata.specs.declared.schema.TheConstants.{CODED_TABLES}
use Rattle.metadata.specs.Schema.{table_number, tagged_table}
use Rattle.metadata.specs.Heaps.{token}
use Rattle.cli_assembly.specs.Types.{coded_type}
use Rattle.cli_assembly.specs.Shortest.{coded_of_token, tag_in, type_tag}
use Rattle.cli_assembly.proofs.BytesKept.{AreBytes}
use Rattle.cli_assembly.proofs.Classes.{def_tag, ref_tag, spec_tag}

-- ---- how long the shortest spelling is

len_one : (n : ℕ) → n < 2 ^ 7 → length (compressed_bytes n) ≡ 1
len_one n lt = rw (lt-ltb n (2 ^ 7) lt) refl

abbrev spelled : Bool → Bool → ℕ → List ℕ
spelled one two n = cond one (n ∷ []) (cond two (big_bytes 2 (0x8000 + n)) (big_bytes 4 (0xC000_0000 + n)))

at_most_two : (one two : Bool) (n : ℕ) → two ≡ true → length (spelled one two n) ≤ 2
at_most_two true two n e = omega arith
at_most_two false true n e = let two_bytes : length (big_bytes 2 (0x8000 + n)) ≡ 2 = refl in omega (arith, two_bytes)
at_most_two false false n e = absurd (let x : ⊥ = cc in x)

at_most_four : (one two : Bool) (n : ℕ) → length (spelled one two n) ≤ 4
at_most_four true two n = omega arith
at_most_four false true n = let two_bytes : length (big_bytes 2 (0x8000 + n)) ≡ 2 = refl in omega (arith, two_bytes)
at_most_four false false n = let four_bytes : length (big_bytes 4 (0xC000_0000 + n)) ≡ 4 = refl in omega (arith, four_bytes)

len_two : (n : ℕ) → n < 2 ^ 14 → length (compressed_bytes n) ≤ 2
len_two n lt = at_most_two (nat_lt n (2 ^ 7)) (nat_lt n (2 ^ 14)) n (lt-ltb n (2 ^ 14) lt)

len_four : (n : ℕ) → length (compressed_bytes n) ≤ 4
len_four n = at_most_four (nat_lt n (2 ^ 7)) (nat_lt n (2 ^ 14)) n

-- ---- what bytes begin with

abbrev pub IsNoShorter : List ℕ → ℕ × ℕ → Type 0
IsNoShorter bytes found = length (compressed_bytes found.0) + length (drop found.1 bytes) ≤ length bytes

pub by_test : {A : Type 0} (P : A → Type 0) (b : Bool) (x y : Option A) → (b ≡ true → IfSome x P) → (b ≡ false → IfSome y P)
    → IfSome (if b then x else y) P
by_test P true x y f g = f refl
by_test P false x y f g = g refl

one_fits : (a : ℕ) (rest : List ℕ) → a < 0x80 → IsNoShorter (a ∷ rest) (a, 1)
one_fits a rest lt = let one = len_one a lt in omega (arith, one)

two_fit : (a : ℕ) (rest : List ℕ) → 0x80 ≤ a → a < 0xC0 → AreBytes rest → IfSome (two_bytes_in a rest) (IsNoShorter (a ∷ rest))
two_fit a [] first last h = tt
two_fit a (b ∷ rest) first last h =
    let two = len_two ((a - 0x80) * 256 + b) (omega (arith, first, last, h.0)) in omega (arith, two)

four_fit : (a : ℕ) (rest : List ℕ) → IfSome (four_bytes_in a rest) (IsNoShorter (a ∷ rest))
four_fit a [] = tt
four_fit a (b ∷ []) = tt
four_fit a (b ∷ c ∷ []) = tt
four_fit a (b ∷ c ∷ d ∷ rest) =
    let four = len_four ((((a - 0xC0) * 256 + b) * 256 + c) * 256 + d) in omega (arith, four)

pub no_shorter : (bytes : List ℕ) → AreBytes bytes → IfSome (compressed_in bytes) (IsNoShorter bytes)
no_shorter [] h = tt
no_shorter (a ∷ rest) h =
    by_test (IsNoShorter (a ∷ rest)) (nat_lt a 0x80) _ _ (λ e. one_fits a rest (ltb-true a 0x80 e))
    (λ e. by_test (IsNoShorter (a ∷ rest)) (nat_lt a 0xC0) _ _
    (λ f. two_fit a rest (ltb-false a 0x80 e) (ltb-true a 0xC0 f) h.1)
    (λ f. by_test (IsNoShorter (a ∷ rest)) (nat_lt a 0xE0) _ _ (λ g. four_fit a rest) (λ g. tt)))

-- ---- the coded number of a token that was read is the number that it was read from

of_tag : (value number tag : ℕ) → value % 4 ≡ tag → value / 4 < 2 ^ 24 → tag_in CODED_TABLES number ≡ Some tag
    → coded_of_token (token number (value / 4)) ≡ value
unfolding type_tag
of_tag value number tag e small tagged =
    let row = value / 4 in
    let above : token number row / 2 ^ 24 ≡ number = omega (arith, small) in
    let below : token number row % 2 ^ 24 ≡ row = omega (arith, small) in
    let whole : row * 4 + tag ≡ value = omega (arith, e) in
    ap (λ (n : ℕ). n * 4 + unwrap_or (tag_in CODED_TABLES (token number row / 2 ^ 24)) 0) below
    ∙ ap (λ (n : ℕ). row * 4 + unwrap_or (tag_in CODED_TABLES n) 0) above
    ∙ ap (λ (o : Option ℕ). row * 4 + unwrap_or o 0) tagged ∙ whole

no_tag : tagged_table kinds.TypeDefOrRef 3 ≡ None
unfolding tagged_table
no_tag = refl

-- what a table makes of the number
abbrev IsCodedFrom : ℕ → Option Table → Type 0
IsCodedFrom value table = IfSome table (λ t. coded_of_token (token (table_number t) (value / 4)) ≡ value)

by_tag : (value tag : ℕ) → value % 4 ≡ tag → value / 4 < 2 ^ 24 → tag < 4 → IsCodedFrom value (tagged_table kinds.TypeDefOrRef tag)
by_tag value tag e small few = elim (eqb_tells tag 0) [
  | inl zero_is ↦ rw zero_is.1 (rw def_tag (of_tag value 2 0 (omega (arith, e, zero_is.1)) small refl))
  | inr not_zero ↦ elim (eqb_tells tag 1) [
    | inl one_is ↦ rw one_is.1 (rw ref_tag (of_tag value 1 1 (omega (arith, e, one_is.1)) small refl))
    | inr not_one ↦ elim (eqb_tells tag 2) [
      | inl two_is ↦ rw two_is.1 (rw spec_tag (of_tag value 0x1B 2 (omega (arith, e, two_is.1)) small refl))
      | inr not_two ↦
          let three : tag ≡ 3 = omega (arith, few, not_zero.1, not_one.1, not_two.1) in
          rw three (rw no_tag tt)
    ]
  ]
]

mapped : (value : ℕ) (table : Option Table) → IsCodedFrom value table
    → IfSome (option_map (λ (t : Table). token (table_number t) (value / 4)) table) (λ t. coded_of_token t ≡ value)
mapped value None h = tt
mapped value (Some table) h = h

pub coded_from : (value : ℕ) → IfSome (coded_type value) (λ t. coded_of_token t ≡ value)
unfolding coded_type
coded_from value =
    by_test (λ t. coded_of_token t ≡ value) (nat_lt (value / 4) (2 ^ 24)) _ _
    (λ e. mapped value (tagged_table kinds.TypeDefOrRef (value % 4))
    (by_tag value (value % 4) refl (ltb-true (value / 4) (2 ^ 24) e) (omega arith)))
    (λ e. tt)
