-- What a row fixes of its words, and the words outside the table.
use Rattle.std.proofs.Common.{◌≡◌, ◌≢◌, ◌<◌, ◌==◌, ◌^◌, ◌↔◌, ℕ, Bool, true, false, cond, List, [], ◌∷◌, refl, sym, ap}
use Rattle.std.proofs.Common.{◌∙◌, bit_and, slice_index, position, Option, Some, None, option_and_then}
use Rattle.std.specs.List.{All, AllByRecursion}
use Rattle.std.proofs.lemmas.List.Elements.{All-from_recursion, recursion_from_All}
use Rattle.std.specs.Option.{option_or}
use Rattle.std.proofs.lemmas.Bool.{eqb-true}
use Rattle.std.proofs.lemmas.List.Quantifiers.{position-Some}
use Rattle.a64_code.proofs.Written.{is_in_order, in_order, written_fixed, written_below, written_held, base_found}
use Rattle.a64_code.proofs.Inverse.{known, instruction_is_word, AllSound, table_sound}
use Rattle.a64_code.specs.declared.inst.Inst.{Inst}
use Rattle.a64_code.specs.declared.inst.Inst.TheVariants as insts
use Rattle.a64_code.specs.Table.{Row, parts_of, table}
use Rattle.a64_code.specs.Words.{bits, held, mask, is_allowed, allowed, word_of, InRange, by_row, by_rows, instruction, HasNot}

-- ---- what a row fixes

row_in_order : (inst : Inst) → in_order (parts_of inst).row ≡ true
row_in_order (insts.AddImmediate base rd rn imm12 sh) = refl
row_in_order inst = refl

pub row_fixes : (inst : Inst) → InRange inst
    → bit_and (word_of inst) (mask (parts_of inst).row.fields) ≡ slice_index (parts_of inst).row.bases (parts_of inst).base
row_fixes inst h =
    written_fixed (parts_of inst).row (is_in_order (parts_of inst).row (row_in_order inst)) (parts_of inst).base
    (parts_of inst).values h.base h.fields

pub row_holds : (inst : Inst) → InRange inst → held (word_of inst) (parts_of inst).row.fields ≡ (parts_of inst).values
row_holds inst h =
    written_held (parts_of inst).row (is_in_order (parts_of inst).row (row_in_order inst)) (parts_of inst).base
    (parts_of inst).values h.base h.fields

pub word_small : (inst : Inst) → InRange inst → word_of inst < 2 ^ 32
word_small inst h =
    written_below (parts_of inst).row (is_in_order (parts_of inst).row (row_in_order inst)) (parts_of inst).base
    (parts_of inst).values h.base h.fields

-- ---- outside

-- no instruction in range has the word
pub outside_words : (word : ℕ) → word < 2 ^ 32 → (instruction word ≡ None) ↔ ((inst : Inst) → InRange inst → word_of inst ≢ word)
outside_words word below = (apart, none)
  where
    apart : instruction word ≡ None → (inst : Inst) → InRange inst → word_of inst ≢ word
    apart e inst range same = differ (sym (known inst range) ∙ ap instruction same ∙ e)
      where
        differ : Some inst ≡ None → ⊥
        differ d = cc

    none : ((inst : Inst) → InRange inst → word_of inst ≢ word) → instruction word ≡ None
    none never = by_answer (instruction word) refl
      where
        by_answer : (o : Option Inst) → instruction word ≡ o → instruction word ≡ None
        by_answer None e = e
        by_answer (Some inst) e =
            let is = instruction_is_word word inst below e in
            absurd (never inst is.range is.spelled)

-- a row that has not the word answers nothing, and only such a row
allowed_none : (inst : Inst) → allowed inst ≡ None → is_allowed inst ≡ false
allowed_none inst h = by_test (is_allowed inst) refl h
  where
    by_test : (b : Bool) → is_allowed inst ≡ b → cond b (Some inst) None ≡ None → is_allowed inst ≡ false
    by_test false e none = e
    by_test true e none = absurd (differ none)
      where
        differ : Some inst ≡ None → ⊥
        differ d = cc

none_has_not : (row : Row) (word : ℕ) → in_order row ≡ true → by_row row word ≡ None → HasNot word row
none_has_not row word ordered none base within e =
    allowed_none (row.inst base (λ field. bits field word))
    (sym (ap (option_and_then (λ n. allowed (row.inst n (λ field. bits field word))))
    (base_found row (is_in_order row ordered) word base within e)) ∙ none)

has_not_none : (row : Row) (word : ℕ) → HasNot word row → by_row row word ≡ None
has_not_none row word has_not = by_place (position (λ base. base == bit_and word (mask row.fields)) row.bases) refl
  where
    by_place : (o : Option ℕ) → position (λ base. base == bit_and word (mask row.fields)) row.bases ≡ o
        → option_and_then (λ base. allowed (row.inst base (λ field. bits field word))) o ≡ None
    by_place None e = refl
    by_place (Some base) e =
        let at = position-Some (λ b. b == bit_and word (mask row.fields)) row.bases base 0 e in
        ap (λ b. cond b (Some (row.inst base (λ field. bits field word))) None) (has_not base at.0 (sym (eqb-true _ _ at.1)))

rows_have_not : (rows : List Row) (word : ℕ) → AllSound rows → by_rows rows word ≡ None → AllByRecursion (HasNot word) rows
rows_have_not [] word sound none = tt
rows_have_not (row ∷ rows) word sound none = by_first (by_row row word) refl (rows_have_not rows word sound.2) none
  where
    by_first : (o : Option Inst) → by_row row word ≡ o → (by_rows rows word ≡ None → AllByRecursion (HasNot word) rows)
        → option_or o (by_rows rows word) ≡ None → HasNot word row × AllByRecursion (HasNot word) rows
    by_first None e later rest = (none_has_not row word sound.0 e, later rest)
    by_first (Some inst) e later rest = absurd (differ rest)
      where
        differ : Some inst ≡ None → ⊥
        differ d = cc

have_not_rows : (rows : List Row) (word : ℕ) → AllByRecursion (HasNot word) rows → by_rows rows word ≡ None
have_not_rows [] word h = refl
have_not_rows (row ∷ rows) word h =
    ap (λ o. option_or o (by_rows rows word)) (has_not_none row word h.0) ∙ have_not_rows rows word h.1

pub outside_rows : (word : ℕ) → (instruction word ≡ None) ↔ All (HasNot word) table
unfolding instruction
outside_rows word = (
  λ none. All-from_recursion (HasNot word) table (rows_have_not table word table_sound none),
  λ h. have_not_rows table word (recursion_from_All (HasNot word) table h),
)
