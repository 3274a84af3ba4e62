-- Coded indexes: the tag of a table is small, and the index names the token that it was made of.
use Rattle.std.proofs.Common.{◌≡◌, ◌≤◌, ◌<◌, ◌+◌, ◌*◌, ◌/◌, ◌%◌, ◌^◌, ℕ, zero, suc, Bool, true, false, cond, List}
use Rattle.std.proofs.Common.{[], ◌∷◌, length, map, get_or, Option, Some, None, inl, inr, refl, sym, ap, ◌∙◌, subst}
use Rattle.std.proofs.Common.{arith}
use Rattle.std.specs.Prelude.{◌==◌, ◌&&◌, filter, find, is_some, nat_le, nat_lt, unwrap_or, IsTrue}
use Rattle.std.specs.List.{list_all}
use Rattle.std.specs.Option.{option_and_then, option_map}
use Rattle.std.proofs.Math.Nat.{mul-le-mul_left}
use Rattle.std.proofs.lemmas.Nat.{div-mul-add, mod-mul-add}
use Rattle.std.proofs.lemmas.Bool.{and_parts, cases_Bool, eqb-true, leb-true, le-leb, ltb-true}
use Rattle.std.proofs.Math.ListN.{get_or-map}
use Rattle.metadata.specs.declared.schema.CodedKind.{CodedKind}
use Rattle.metadata.specs.declared.schema.CodedKind.TheVariants as kinds
use Rattle.metadata.specs.declared.schema.CodedTable.{CodedTable}
use Rattle.metadata.specs.declared.schema.Table.{Table}
use Rattle.metadata.specs.declared.schema.TheConstants.{CODED_TABLES}
use Rattle.metadata.specs.Schema.{kind_number, table_number, tag_bits, tagged_table}
use Rattle.metadata.specs.Heaps.{token}
use Rattle.cli_assembly.specs.Assemblies.{Assembly, coded_token, row_count, row_token}
use Rattle.asm_builder.specs.Sound.{is_row, takes}
use Rattle.asm_builder.specs.Content.{coded_index, tag_in, tag_of}

abbrev has_small_tag : CodedTable → Bool
has_small_tag t = nat_lt t.tag 32

abbrev matches : CodedKind → ℕ → CodedTable → Bool
matches kind table t = (kind_number t.kind == kind_number kind) && (table_number t.table == table)

abbrev find_in : List CodedTable → CodedKind → ℕ → Option CodedTable
find_in tagged kind table = find (matches kind table) tagged

tag_below : (tagged : List CodedTable) (kind : CodedKind) (table : ℕ) → list_all has_small_tag tagged ≡ true
    → unwrap_or (tag_in tagged kind table) 0 < 32
tag_below [] kind table small = omega arith
tag_below (t ∷ tagged) kind table small =
    let parts = and_parts (has_small_tag t) (list_all has_small_tag tagged) small in
    by_first (matches kind table t) (ltb-true t.tag 32 parts.0) (tag_below tagged kind table parts.1)
  where
    by_first : (b : Bool) → t.tag < 32 → unwrap_or (option_map (λ (t : CodedTable). t.tag) (find_in tagged kind table)) 0 < 32
        → unwrap_or (option_map (λ (t : CodedTable). t.tag) (cond b (Some t) (find_in tagged kind table))) 0 < 32
    by_first true here rest = here
    by_first false here rest = rest

pub tag_small : (kind : CodedKind) (table : ℕ) → unwrap_or (tag_in CODED_TABLES kind table) 0 < 32
tag_small kind table = tag_below CODED_TABLES kind table refl

power_small : (k : ℕ) → k ≤ 5 → 2 ^ k ≤ 32
power_small zero h = omega arith
power_small (suc zero) h = omega arith
power_small (suc (suc zero)) h = omega arith
power_small (suc (suc (suc zero))) h = omega arith
power_small (suc (suc (suc (suc zero)))) h = omega arith
power_small (suc (suc (suc (suc (suc zero))))) h = omega arith
power_small (suc (suc (suc (suc (suc (suc k)))))) h = absurd (omega arith)

-- the index of a token fits four bytes
pub index_small : (row k tag : ℕ) → row < 2 ^ 24 → k ≤ 5 → tag < 32 → row * 2 ^ k + tag < 2 ^ 30
index_small row k tag few bits small = let product = mul-le-mul_left row (power_small k bits) in omega (arith, product)

pub no_wrap : (row k tag : ℕ) → row < 2 ^ 24 → k ≤ 5 → tag < 32 → row * 2 ^ k % 2 ^ 32 + tag ≡ row * 2 ^ k + tag
no_wrap row k tag few bits small = let bound = index_small row k tag few bits small in omega (arith, bound)

-- ---- a tag of a table names the table

-- how many bits a tag has, by the kind's number
abbrev bits_of : ℕ → ℕ
bits_of number = get_or (2 ∷ 2 ∷ 5 ∷ 1 ∷ 2 ∷ 3 ∷ 1 ∷ 1 ∷ 1 ∷ 2 ∷ 3 ∷ 2 ∷ 1 ∷ []) number 0

bits_are : (kind : CodedKind) → tag_bits kind ≡ bits_of (kind_number kind)
bits_are kinds.TypeDefOrRef = refl
bits_are kinds.HasConstant = refl
bits_are kinds.HasCustomAttribute = refl
bits_are kinds.HasFieldMarshal = refl
bits_are kinds.HasDeclSecurity = refl
bits_are kinds.MemberRefParent = refl
bits_are kinds.HasSemantics = refl
bits_are kinds.MethodDefOrRef = refl
bits_are kinds.MemberForwarded = refl
bits_are kinds.Implementation = refl
bits_are kinds.CustomAttributeType = refl
bits_are kinds.ResolutionScope = refl
bits_are kinds.TypeOrMethodDef = refl

abbrev has_number : Option Table → ℕ → Bool
has_number None number = false
has_number (Some table) number = table_number table == number

-- the table of a tag, by the kind's number
abbrev table_by : ℕ → ℕ → Option Table
table_by number tag =
    option_map (λ (t : CodedTable). t.table) (find (λ (t : CodedTable). (kind_number t.kind == number) && (t.tag == tag)) CODED_TABLES)

abbrev goes_back : CodedTable → Bool
goes_back t = has_number (table_by (kind_number t.kind) t.tag) (table_number t.table) && nat_lt t.tag (2 ^ bits_of (kind_number t.kind))

record Tagged (kind : CodedKind) (table : ℕ) (tag : Option ℕ) : Type 0 where
  number : ℕ
  is : tag ≡ Some number
  back : has_number (table_by (kind_number kind) number) table ≡ true
  small : number < 2 ^ bits_of (kind_number kind)

found : (tagged : List CodedTable) (kind : CodedKind) (table : ℕ) → list_all goes_back tagged ≡ true
    → is_some (tag_in tagged kind table) ≡ true
    → Tagged kind table (tag_in tagged kind table)
found [] kind table back some = absurd (let h : ⊥ = cc in h)
found (t ∷ tagged) kind table back some = elim (cases_Bool (matches kind table t)) [
  | inl e ↦
      let parts = and_parts (goes_back t) (list_all goes_back tagged) back in
      let same = and_parts (kind_number t.kind == kind_number kind) (table_number t.table == table) e in
      let kind_is = eqb-true (kind_number t.kind) (kind_number kind) same.0 in
      let table_is = eqb-true (table_number t.table) table same.1 in
      let here =
      and_parts (has_number (table_by (kind_number t.kind) t.tag) (table_number t.table))
      (nat_lt t.tag (2 ^ bits_of (kind_number t.kind))) parts.0 in
      record {
        number = t.tag;
        is = ap (λ b. option_map (λ (t : CodedTable). t.tag) (cond b (Some t) (find_in tagged kind table))) e;
        back =
            subst (λ n. has_number (table_by n t.tag) table ≡ true) kind_is
            (subst (λ n. has_number (table_by (kind_number t.kind) t.tag) n ≡ true) table_is here.0);
        small = subst (λ n. t.tag < 2 ^ bits_of n) kind_is (ltb-true t.tag (2 ^ bits_of (kind_number t.kind)) here.1);
      }
  | inr e ↦
      let rest : tag_in (t ∷ tagged) kind table ≡ tag_in tagged kind table =
      ap (λ b. option_map (λ (t : CodedTable). t.tag) (cond b (Some t) (find_in tagged kind table))) e in
      let parts = and_parts (goes_back t) (list_all goes_back tagged) back in
      let later = found tagged kind table parts.1 (sym (ap is_some rest) ∙ some) in
      record { number = later.number; is = rest ∙ later.is; back = later.back; small = later.small }
]

all_go_back : list_all goes_back CODED_TABLES ≡ true
all_go_back = refl

pub bits_few : (kind : CodedKind) → tag_bits kind ≤ 5
bits_few kinds.TypeDefOrRef = omega arith
bits_few kinds.HasConstant = omega arith
bits_few kinds.HasCustomAttribute = omega arith
bits_few kinds.HasFieldMarshal = omega arith
bits_few kinds.HasDeclSecurity = omega arith
bits_few kinds.MemberRefParent = omega arith
bits_few kinds.HasSemantics = omega arith
bits_few kinds.MethodDefOrRef = omega arith
bits_few kinds.MemberForwarded = omega arith
bits_few kinds.Implementation = omega arith
bits_few kinds.CustomAttributeType = omega arith
bits_few kinds.ResolutionScope = omega arith
bits_few kinds.TypeOrMethodDef = omega arith

pub tag_fits : (kind : CodedKind) (token : ℕ) → is_some (tag_of kind token) ≡ true → unwrap_or (tag_of kind token) 0 < 2 ^ tag_bits kind
unfolding tag_of
tag_fits kind token some =
    let tag = found CODED_TABLES kind (token / 2 ^ 24) all_go_back some in
    let small : tag.number < 2 ^ tag_bits kind = subst (λ k. tag.number < 2 ^ k) (sym (bits_are kind)) tag.small in
    subst (λ (o : Option ℕ). unwrap_or o 0 < 2 ^ tag_bits kind) (sym tag.is) small

-- what holds of each table of a kind holds of one that has a tag
pub tagged_holds : (p : ℕ → Bool) (tagged : List CodedTable) (kind : CodedKind) (table : ℕ) → is_some (tag_in tagged kind table) ≡ true
    → list_all (λ (t : CodedTable). p (table_number t.table))
    (filter (λ (t : CodedTable). kind_number t.kind == kind_number kind) tagged) ≡ true → p table ≡ true
tagged_holds p [] kind table some all = absurd (let h : ⊥ = cc in h)
tagged_holds p (t ∷ tagged) kind table some all =
    by_kind (kind_number t.kind == kind_number kind) (table_number t.table == table)
    (eqb-true (table_number t.table) table) some all (tagged_holds p tagged kind table)
  where
    by_kind : (b c : Bool) → (c ≡ true → table_number t.table ≡ table)
        → is_some (option_map (λ (t : CodedTable). t.tag) (cond (b && c) (Some t) (find_in tagged kind table))) ≡ true
        → list_all (λ (t : CodedTable). p (table_number t.table))
        (cond b (t ∷ filter (λ (t : CodedTable). kind_number t.kind == kind_number kind) tagged)
        (filter (λ (t : CodedTable). kind_number t.kind == kind_number kind) tagged)) ≡ true
        → (is_some (tag_in tagged kind table) ≡ true
        → list_all (λ (t : CodedTable). p (table_number t.table))
        (filter (λ (t : CodedTable). kind_number t.kind == kind_number kind) tagged) ≡ true → p table ≡ true)
        → p table ≡ true
    by_kind true true same some all rest =
        let parts =
        and_parts (p (table_number t.table))
        (list_all (λ (t : CodedTable). p (table_number t.table))
        (filter (λ (t : CodedTable). kind_number t.kind == kind_number kind) tagged)) all in
        ap p (sym (same refl)) ∙ parts.0
    by_kind true false same some all rest =
        let parts =
        and_parts (p (table_number t.table))
        (list_all (λ (t : CodedTable). p (table_number t.table))
        (filter (λ (t : CodedTable). kind_number t.kind == kind_number kind) tagged)) all in
        rest some parts.1
    by_kind false true same some all rest = rest some all
    by_kind false false same some all rest = rest some all

-- ---- an index names its token

named : (a : Assembly) (token_ row : ℕ) (o : Option Table) → has_number o (token_ / 2 ^ 24) ≡ true → row ≡ token_ % 2 ^ 24
    → row ≤ length (get_or a.tables (token_ / 2 ^ 24) []) → option_and_then (row_token a row) o ≡ Some token_
named a token_ row None back row_is fits = absurd (let h : ⊥ = cc in h)
named a token_ row (Some table) back row_is fits =
    let table_is = eqb-true (table_number table) (token_ / 2 ^ 24) back in
    let there : nat_le row (row_count a table) ≡ true = le-leb _ _ (subst (λ n. row ≤ length (get_or a.tables n [])) (sym table_is) fits) in
    let whole : token (table_number table) row ≡ token_ = omega arith in
    ap (λ b. cond b (Some (token (table_number table) row)) None) there ∙ ap (λ n. Some n) whole

pub coded_back : (a : Assembly) (rows : List ℕ) (kind : CodedKind) (token : ℕ) → map (λ (l : List (List ℕ)). length l) a.tables ≡ rows
    → IsTrue (takes rows kind token) → coded_token a kind (coded_index kind token) ≡ Some token
unfolding coded_token tag_of tagged_table
coded_back a rows kind token rows_are ok =
    let parts = and_parts (is_some (tag_of kind token)) (is_row rows token) ok in
    let row = and_parts (nat_lt 0 (token % 2 ^ 24)) (nat_le (token % 2 ^ 24) (get_or rows (token / 2 ^ 24) 0)) parts.1 in
    let fits = leb-true (token % 2 ^ 24) (get_or rows (token / 2 ^ 24) 0) row.1 in
    let count : get_or rows (token / 2 ^ 24) 0 ≡ length (get_or a.tables (token / 2 ^ 24) []) =
    ap (λ (l : List ℕ). get_or l (token / 2 ^ 24) 0) (sym rows_are)
    ∙ get_or-map (λ (l : List (List ℕ)). length l) a.tables (token / 2 ^ 24) [] in
    let tag = found CODED_TABLES kind (token / 2 ^ 24) all_go_back parts.0 in
    let bits = bits_are kind in
    let value : coded_index kind token ≡ token % 2 ^ 24 * 2 ^ tag_bits kind + tag.number =
    ap (λ (o : Option ℕ). token % 2 ^ 24 * 2 ^ tag_bits kind + unwrap_or o 0) tag.is in
    let small : tag.number < 2 ^ tag_bits kind = subst (λ k. tag.number < 2 ^ k) (sym bits) tag.small in
    let row_back = div-mul-add (token % 2 ^ 24) (2 ^ tag_bits kind) tag.number small in
    let tag_back = mod-mul-add (token % 2 ^ 24) (2 ^ tag_bits kind) tag.number small in
    ap (coded_token a kind) value
    ∙ ap (λ r. option_and_then (row_token a r)
    (tagged_table kind ((token % 2 ^ 24 * 2 ^ tag_bits kind + tag.number) % 2 ^ tag_bits kind))) row_back
    ∙ ap (λ t. option_and_then (row_token a (token % 2 ^ 24)) (tagged_table kind t)) tag_back
    ∙ named a token (token % 2 ^ 24) (table_by (kind_number kind) tag.number) tag.back refl (subst (λ n. token % 2 ^ 24 ≤ n) count fits)
