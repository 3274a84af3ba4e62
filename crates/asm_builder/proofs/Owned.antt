-- Where the fields and methods of types begin: in order, and at most at the last.
use Rattle.std.proofs.Common.{◌≡◌, ◌≤◌, ◌<◌, ◌^◌, ℕ, zero, suc, true, List, [], ◌∷◌, length, map}
use Rattle.std.proofs.Common.{Some, refl, ap, ◌∙◌, arith}
use Rattle.std.specs.Prelude.{◌&&◌, nat_le, nat_lt, slice_get, IsTrue}
use Rattle.std.specs.List.{list_all}
use Rattle.std.proofs.lemmas.Bool.{and_from, and_parts, leb-true, lt-ltb}
use Rattle.asm_builder.specs.declared.asked.TypeDef.{TypeDef}
use Rattle.asm_builder.specs.Asked.{Asked}
use Rattle.asm_builder.specs.Room.{begins_early}
use Rattle.asm_builder.specs.Sound.{IsSound, are_owned, are_rising, begins_at_first, has_number}
use Rattle.std.specs.Option.{option_map}
use Rattle.std.proofs.lemmas.Option.{slice_get-map}
use Rattle.asm_builder.proofs.Methods.{all_item}
use Rattle.asm_builder.proofs.Counts.{few_fields, few_methods}

abbrev pub fields_of_type : TypeDef → ℕ
fields_of_type t = t.fields_before

abbrev pub methods_of_type : TypeDef → ℕ
methods_of_type t = t.methods_before

pub rising_le : (from : ℕ) (ns : List ℕ) (last : ℕ) → are_rising from ns last ≡ true → from ≤ last
rising_le from [] last ok = leb-true from last ok
rising_le from (n ∷ ns) last ok =
    let parts = and_parts (nat_le from n) (are_rising n ns last) ok in
    let first = leb-true from n parts.0 in
    let rest = rising_le n ns last parts.1 in
    omega (arith, first, rest)

early_all : (types : List TypeDef) (f m fields methods : ℕ) → are_rising f (map fields_of_type types) fields ≡ true
    → are_rising m (map methods_of_type types) methods ≡ true → fields < 2 ^ 24 → methods < 2 ^ 24 → list_all begins_early types ≡ true
early_all [] f m fields methods a b few_f few_m = refl
early_all (t ∷ types) f m fields methods a b few_f few_m =
    let a2 = (and_parts (nat_le f t.fields_before) (are_rising t.fields_before (map fields_of_type types) fields) a).1 in
    let b2 = (and_parts (nat_le m t.methods_before) (are_rising t.methods_before (map methods_of_type types) methods) b).1 in
    let fb = rising_le t.fields_before (map fields_of_type types) fields a2 in
    let mb = rising_le t.methods_before (map methods_of_type types) methods b2 in
    and_from (begins_early t) (list_all begins_early types)
    (and_from (nat_lt t.fields_before (2 ^ 24)) (nat_lt t.methods_before (2 ^ 24))
    (lt-ltb _ _ (omega (arith, fb, few_f))) (lt-ltb _ _ (omega (arith, mb, few_m))))
    (early_all types t.fields_before t.methods_before fields methods a2 b2 few_f few_m)

-- the parts of what is asked of the starts of lists
pub record Owned (starts : List ℕ) (last : ℕ) : Type 0 where
  pub rising : are_rising 0 starts last ≡ true
  pub numbers : list_all (has_number last) starts ≡ true

owned_parts : (starts : List ℕ) (last : ℕ) → are_owned starts last ≡ true → Owned starts last
owned_parts starts last ok =
    let rest = (and_parts (begins_at_first starts last) (are_rising 0 starts last && list_all (has_number last) starts) ok).1 in
    let parts = and_parts (are_rising 0 starts last) (list_all (has_number last) starts) rest in
    record { rising = parts.0; numbers = parts.1 }

pub fields_owned : (asked : Asked) → IsSound asked → Owned (map fields_of_type asked.type_defs) (length asked.fields)
fields_owned asked sound = owned_parts (map fields_of_type asked.type_defs) (length asked.fields) sound.field_lists

pub methods_owned : (asked : Asked) → IsSound asked → Owned (map methods_of_type asked.type_defs) (length asked.methods)
methods_owned asked sound = owned_parts (map methods_of_type asked.type_defs) (length asked.methods) sound.method_lists

pub early : (asked : Asked) → IsSound asked → IsTrue (list_all begins_early asked.type_defs)
early asked sound =
    early_all asked.type_defs 0 0 (length asked.fields) (length asked.methods) (fields_owned asked sound).rising
    (methods_owned asked sound).rising
    (few_fields asked sound (length asked.fields) refl) (few_methods asked sound (length asked.methods) refl)

-- each start is at most the last
pub rising_item : (from : ℕ) (ns : List ℕ) (last i n : ℕ) → are_rising from ns last ≡ true → slice_get ns i ≡ Some n → n ≤ last
rising_item from [] last i n ok e = absurd (let h : ⊥ = cc in h)
rising_item from (m ∷ ns) last zero n ok e =
    let same : m ≡ n = cc in
    let rest = rising_le m ns last (and_parts (nat_le from m) (are_rising m ns last) ok).1 in
    omega (arith, same, rest)
rising_item from (m ∷ ns) last (suc i) n ok e = rising_item m ns last i n (and_parts (nat_le from m) (are_rising m ns last) ok).1 e

-- the number of a type's first is that of a row, or of the end, and fits two bytes where it has to
pub start_fits : {X : Type 0} (before : X → ℕ) (types : List X) (last i : ℕ) (t : X) → Owned (map before types) last
    → slice_get types i ≡ Some t
    → (before t ≤ last) × (has_number last (before t) ≡ true)
start_fits before types last i t owned e =
    let at : slice_get (map before types) i ≡ Some (before t) = slice_get-map before types i ∙ ap (option_map before) e in (
      rising_item 0 (map before types) last i (before t) owned.rising at,
      all_item (has_number last) (map before types) i (before t) at owned.numbers,
    )
