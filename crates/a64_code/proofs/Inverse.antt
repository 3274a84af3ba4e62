-- The word of an instruction and the instruction of a word are inverse over the table.
use Rattle.std.proofs.Common.{◌≡◌, ◌<◌, ◌+◌, ◌^◌, ◌==◌, ℕ, Bool, true, false, cond, IsTrue, List, [], ◌∷◌, ◌++◌, length}
use Rattle.std.proofs.Common.{map, take, drop, refl, sym, ap, ◌∙◌, subst, bit_and, slice_index, position, Option, Some}
use Rattle.std.proofs.Common.{None}
use Rattle.std.specs.List.{list_all}
use Rattle.std.specs.Option.{option_or}
use Rattle.std.proofs.lemmas.Bool.{eqb-true}
use Rattle.std.proofs.lemmas.Option.{option_and_then_some}
use Rattle.std.proofs.lemmas.List.Quantifiers.{position-Some}
use Rattle.a64_code.proofs.Held.{held_fit, whole_word}
use Rattle.a64_code.proofs.Written.{InOrder, is_in_order, in_order, written, written_fixed, written_held, read_back}
use Rattle.a64_code.proofs.Searched.{rows_apart, found}
use Rattle.a64_code.specs.declared.inst.Inst.{Inst}
use Rattle.a64_code.specs.declared.inst.Inst.TheVariants as insts
use Rattle.a64_code.specs.Table.{Field, Row, Parts, parts, parts_of, table, add_immediate, sub_immediate, add_register}
use Rattle.a64_code.specs.Table.{sub_register, logical_register, or_not_register, multiply_add, multiply_long}
use Rattle.a64_code.specs.Table.{multiply_high, divide, shift_variable, bitfield, move_wide, store_immediate}
use Rattle.a64_code.specs.Table.{load_immediate, load_signed_immediate_64, load_signed_immediate_32, store_register}
use Rattle.a64_code.specs.Table.{load_register, load_signed_register, pair, pc_relative, branch, branch_conditional}
use Rattle.a64_code.specs.Table.{compare_and_branch, branch_register, conditional_select}
use Rattle.a64_code.specs.Words.{bits, held, mask, spread, Fit, is_allowed, allowed, word_of, InRange, IsWord, by_row, by_rows, instruction}

-- ---- what is read by a row is written by it

-- the parts of what a row makes are that row, the base, and what was in its fields
abbrev pub Faithful : Row → Type 0
Faithful row = (base : ℕ) (at : Field → ℕ) → parts_of (row.inst base at) ≡ parts row base (map at row.fields)

abbrev pub WordOf : Parts → ℕ
WordOf p = slice_index p.row.bases p.base + spread p.row.fields p.values

allowed_made : (inst other : Inst) → allowed inst ≡ Some other → (IsTrue (is_allowed inst)) × (inst ≡ other)
allowed_made inst other h = by_test (is_allowed inst) refl h
  where
    by_test : (b : Bool) → is_allowed inst ≡ b → cond b (Some inst) None ≡ Some other → (IsTrue (is_allowed inst)) × (inst ≡ other)
    by_test true e made = (e, cc)
    by_test false e made = absurd (cc)

made_is_word : (row : Row) → InOrder row → Faithful row → (word base : ℕ) → word < 2 ^ 32 → base < length row.bases
    → slice_index row.bases base ≡ bit_and word (mask row.fields)
    → IsTrue (is_allowed (row.inst base (λ field. bits field word))) → IsWord (row.inst base (λ field. bits field word)) word
made_is_word row o faithful word base below within e ok =
    let inst = row.inst base (λ field. bits field word) in
    let made : parts row base (held word row.fields) ≡ parts_of inst = sym (faithful base (λ field. bits field word)) in
    let HasBase : Parts → Type 0 = λ p. p.base < length p.row.bases in
    let HasFields : Parts → Type 0 = λ p. Fit p.row.fields p.values in
    record {
      range = record { base = subst HasBase made within; fields = subst HasFields made (held_fit word row.fields); allowed = ok };
      spelled = ap WordOf (sym made) ∙ ap (λ n. n + spread row.fields (held word row.fields)) e
          ∙ whole_word word row.fields o.apart o.small below;
    }

row_is_word : (row : Row) → InOrder row → Faithful row → (word : ℕ) (inst : Inst) → word < 2 ^ 32
    → by_row row word ≡ Some inst → IsWord inst word
row_is_word row o faithful word inst below h =
    option_and_then_some (λ base. allowed (row.inst base (λ field. bits field word)))
    (position (λ b. b == bit_and word (mask row.fields)) row.bases) inst h
    (λ base at made. by_base base (position-Some (λ b. b == bit_and word (mask row.fields)) row.bases base 0 at) made)
  where
    by_base : (base : ℕ) → (base < length row.bases)
        × ((slice_index row.bases base == bit_and word (mask row.fields)) ≡ true)
        × ((k : ℕ) → k < base → (slice_index row.bases k == bit_and word (mask row.fields)) ≡ false)
        → allowed (row.inst base (λ field. bits field word)) ≡ Some inst → IsWord inst word
    by_base base found made =
        let same = allowed_made (row.inst base (λ field. bits field word)) inst made in
        let P : Inst → Type 0 = λ i. IsWord i word in
        subst P same.1 (made_is_word row o faithful word base below found.0 (eqb-true _ _ found.1) same.0)

-- rows that are in order, and whose instructions are faithful
abbrev pub AllSound : List Row → Type 0
AllSound [] = Unit {0}
AllSound (row ∷ rows) = (in_order row ≡ true) × Faithful row × AllSound rows

rows_are_words : (rows : List Row) → AllSound rows → (word : ℕ) (inst : Inst) → word < 2 ^ 32
    → by_rows rows word ≡ Some inst → IsWord inst word
rows_are_words [] sound word inst below h = absurd (cc)
rows_are_words (row ∷ rows) sound word inst below h =
    by_first (by_row row word) refl (rows_are_words rows sound.2 word inst below) h
  where
    by_first : (o : Option Inst) → by_row row word ≡ o → (by_rows rows word ≡ Some inst → IsWord inst word)
        → option_or o (by_rows rows word) ≡ Some inst → IsWord inst word
    by_first None e later made = later made
    by_first (Some other) e later made =
        row_is_word row (is_in_order row sound.0) sound.1 word inst below (e ∙ made)

pub table_sound : AllSound table
table_sound = (
  refl,
  λ base at. refl,
  (
    refl,
    λ base at. refl,
    (
      refl,
      λ base at. refl,
      (
        refl,
        λ base at. refl,
        (
          refl,
          λ base at. refl,
          (
            refl,
            λ base at. refl,
            (
              refl,
              λ base at. refl,
              (
                refl,
                λ base at. refl,
                (
                  refl,
                  λ base at. refl,
                  (
                    refl,
                    λ base at. refl,
                    (
                      refl,
                      λ base at. refl,
                      (
                        refl,
                        λ base at. refl,
                        (
                          refl,
                          λ base at. refl,
                          (
                            refl,
                            λ base at. refl,
                            (
                              refl,
                              λ base at. refl,
                              (
                                refl,
                                λ base at. refl,
                                (
                                  refl,
                                  λ base at. refl,
                                  (
                                    refl,
                                    λ base at. refl,
                                    (
                                      refl,
                                      λ base at. refl,
                                      (
                                        refl,
                                        λ base at. refl,
                                        (
                                          refl,
                                          λ base at. refl,
                                          (
                                            refl,
                                            λ base at. refl,
                                            (
                                              refl,
                                              λ base at. refl,
                                              (
                                                refl,
                                                λ base at. refl,
                                                (refl, λ base at. refl, (refl, λ base at. refl, (refl, λ base at. refl, tt))),
                                              ),
                                            ),
                                          ),
                                        ),
                                      ),
                                    ),
                                  ),
                                ),
                              ),
                            ),
                          ),
                        ),
                      ),
                    ),
                  ),
                ),
              ),
            ),
          ),
        ),
      ),
    ),
  ),
)

-- the instruction of a word is in range, and the word is its
pub instruction_is_word : (word : ℕ) (inst : Inst) → word < 2 ^ 32 → instruction word ≡ Some inst → IsWord inst word
unfolding instruction
instruction_is_word word inst below h = rows_are_words table table_sound word inst below h

-- ---- what is written by a row is read by the table

written_found : (before rest : List Row) (row : Row) → in_order row ≡ true → list_all (rows_apart row) before ≡ true
    → (inst : Inst) (base : ℕ) (values : List ℕ) → base < length row.bases → Fit row.fields values
    → IsTrue (is_allowed inst)
    → ((word : ℕ) → held word row.fields ≡ values → row.inst base (λ field. bits field word) ≡ inst)
    → by_rows (before ++ row ∷ rest) (written row base values) ≡ Some inst
written_found before rest row ordered apart inst base values within fit ok rebuilt =
    let word = written row base values in
    let o = is_in_order row ordered in
    let here : by_row row word ≡ Some inst =
    read_back row o base values within fit
    ∙ ap allowed (rebuilt word (written_held row o base values within fit))
    ∙ ap (λ b. cond b (Some inst) None) ok in
    found before rest row word base inst apart within (written_fixed row o base values within fit) here

-- the instruction of an instruction's word is the instruction
pub known_by_table : (inst : Inst) → InRange inst → by_rows table (word_of inst) ≡ Some inst
known_by_table (insts.AddImmediate base rd rn imm12 sh) h =
    written_found (take 0 table) (drop 1 table) add_immediate refl refl (insts.AddImmediate base rd rn imm12 sh) base
    (rd ∷ rn ∷ imm12 ∷ sh ∷ []) h.base h.fields h.allowed (λ word e. cc)
known_by_table (insts.SubImmediate base rd rn imm12 sh) h =
    written_found (take 1 table) (drop 2 table) sub_immediate refl refl (insts.SubImmediate base rd rn imm12 sh) base
    (rd ∷ rn ∷ imm12 ∷ sh ∷ []) h.base h.fields h.allowed (λ word e. cc)
known_by_table (insts.AddRegister base rd rn imm6 rm shift) h =
    written_found (take 2 table) (drop 3 table) add_register refl refl (insts.AddRegister base rd rn imm6 rm shift) base
    (rd ∷ rn ∷ imm6 ∷ rm ∷ shift ∷ []) h.base h.fields h.allowed (λ word e. cc)
known_by_table (insts.SubRegister base rd rn imm6 rm shift) h =
    written_found (take 3 table) (drop 4 table) sub_register refl refl (insts.SubRegister base rd rn imm6 rm shift) base
    (rd ∷ rn ∷ imm6 ∷ rm ∷ shift ∷ []) h.base h.fields h.allowed (λ word e. cc)
known_by_table (insts.LogicalRegister base rd rn imm6 rm shift) h =
    written_found (take 4 table) (drop 5 table) logical_register refl refl
    (insts.LogicalRegister base rd rn imm6 rm shift) base (rd ∷ rn ∷ imm6 ∷ rm ∷ shift ∷ []) h.base h.fields h.allowed (λ word e. cc)
known_by_table (insts.OrNotRegister base rd rn imm6 rm shift) h =
    written_found (take 5 table) (drop 6 table) or_not_register refl refl (insts.OrNotRegister base rd rn imm6 rm shift)
    base (rd ∷ rn ∷ imm6 ∷ rm ∷ shift ∷ []) h.base h.fields h.allowed (λ word e. cc)
known_by_table (insts.MultiplyAdd base rd rn ra rm) h =
    written_found (take 6 table) (drop 7 table) multiply_add refl refl (insts.MultiplyAdd base rd rn ra rm) base
    (rd ∷ rn ∷ ra ∷ rm ∷ []) h.base h.fields h.allowed (λ word e. cc)
known_by_table (insts.MultiplyLong base rd rn rm) h =
    written_found (take 7 table) (drop 8 table) multiply_long refl refl (insts.MultiplyLong base rd rn rm) base
    (rd ∷ rn ∷ rm ∷ []) h.base h.fields h.allowed (λ word e. cc)
known_by_table (insts.MultiplyHigh base rd rn rm) h =
    written_found (take 8 table) (drop 9 table) multiply_high refl refl (insts.MultiplyHigh base rd rn rm) base
    (rd ∷ rn ∷ rm ∷ []) h.base h.fields h.allowed (λ word e. cc)
known_by_table (insts.Divide base rd rn rm) h =
    written_found (take 9 table) (drop 10 table) divide refl refl (insts.Divide base rd rn rm) base (rd ∷ rn ∷ rm ∷ [])
    h.base h.fields h.allowed (λ word e. cc)
known_by_table (insts.ShiftVariable base rd rn rm) h =
    written_found (take 10 table) (drop 11 table) shift_variable refl refl (insts.ShiftVariable base rd rn rm) base
    (rd ∷ rn ∷ rm ∷ []) h.base h.fields h.allowed (λ word e. cc)
known_by_table (insts.Bitfield base rd rn imms immr) h =
    written_found (take 11 table) (drop 12 table) bitfield refl refl (insts.Bitfield base rd rn imms immr) base
    (rd ∷ rn ∷ imms ∷ immr ∷ []) h.base h.fields h.allowed (λ word e. cc)
known_by_table (insts.MoveWide base rd imm16 hw) h =
    written_found (take 12 table) (drop 13 table) move_wide refl refl (insts.MoveWide base rd imm16 hw) base
    (rd ∷ imm16 ∷ hw ∷ []) h.base h.fields h.allowed (λ word e. cc)
known_by_table (insts.StoreImmediate base rt rn imm12) h =
    written_found (take 13 table) (drop 14 table) store_immediate refl refl (insts.StoreImmediate base rt rn imm12) base
    (rt ∷ rn ∷ imm12 ∷ []) h.base h.fields h.allowed (λ word e. cc)
known_by_table (insts.LoadImmediate base rt rn imm12) h =
    written_found (take 14 table) (drop 15 table) load_immediate refl refl (insts.LoadImmediate base rt rn imm12) base
    (rt ∷ rn ∷ imm12 ∷ []) h.base h.fields h.allowed (λ word e. cc)
known_by_table (insts.LoadSignedImmediate64 base rt rn imm12) h =
    written_found (take 15 table) (drop 16 table) load_signed_immediate_64 refl refl
    (insts.LoadSignedImmediate64 base rt rn imm12) base (rt ∷ rn ∷ imm12 ∷ []) h.base h.fields h.allowed (λ word e. cc)
known_by_table (insts.LoadSignedImmediate32 base rt rn imm12) h =
    written_found (take 16 table) (drop 17 table) load_signed_immediate_32 refl refl
    (insts.LoadSignedImmediate32 base rt rn imm12) base (rt ∷ rn ∷ imm12 ∷ []) h.base h.fields h.allowed (λ word e. cc)
known_by_table (insts.StoreRegister base rt rn s rm) h =
    written_found (take 17 table) (drop 18 table) store_register refl refl (insts.StoreRegister base rt rn s rm) base
    (rt ∷ rn ∷ s ∷ rm ∷ []) h.base h.fields h.allowed (λ word e. cc)
known_by_table (insts.LoadRegister base rt rn s rm) h =
    written_found (take 18 table) (drop 19 table) load_register refl refl (insts.LoadRegister base rt rn s rm) base
    (rt ∷ rn ∷ s ∷ rm ∷ []) h.base h.fields h.allowed (λ word e. cc)
known_by_table (insts.LoadSignedRegister base rt rn s rm) h =
    written_found (take 19 table) (drop 20 table) load_signed_register refl refl
    (insts.LoadSignedRegister base rt rn s rm) base (rt ∷ rn ∷ s ∷ rm ∷ []) h.base h.fields h.allowed (λ word e. cc)
known_by_table (insts.Pair base rt rn rt2 imm7) h =
    written_found (take 20 table) (drop 21 table) pair refl refl (insts.Pair base rt rn rt2 imm7) base
    (rt ∷ rn ∷ rt2 ∷ imm7 ∷ []) h.base h.fields h.allowed (λ word e. cc)
known_by_table (insts.PcRelative base rd immhi immlo) h =
    written_found (take 21 table) (drop 22 table) pc_relative refl refl (insts.PcRelative base rd immhi immlo) base
    (rd ∷ immhi ∷ immlo ∷ []) h.base h.fields h.allowed (λ word e. cc)
known_by_table (insts.Branch base imm26) h =
    written_found (take 22 table) (drop 23 table) branch refl refl (insts.Branch base imm26) base (imm26 ∷ []) h.base
    h.fields h.allowed (λ word e. cc)
known_by_table (insts.BranchConditional base cond imm19) h =
    written_found (take 23 table) (drop 24 table) branch_conditional refl refl (insts.BranchConditional base cond imm19)
    base (cond ∷ imm19 ∷ []) h.base h.fields h.allowed (λ word e. cc)
known_by_table (insts.CompareAndBranch base rt imm19) h =
    written_found (take 24 table) (drop 25 table) compare_and_branch refl refl (insts.CompareAndBranch base rt imm19)
    base (rt ∷ imm19 ∷ []) h.base h.fields h.allowed (λ word e. cc)
known_by_table (insts.BranchRegister base rn) h =
    written_found (take 25 table) (drop 26 table) branch_register refl refl (insts.BranchRegister base rn) base
    (rn ∷ []) h.base h.fields h.allowed (λ word e. cc)
known_by_table (insts.ConditionalSelect base rd rn cond rm) h =
    written_found (take 26 table) (drop 27 table) conditional_select refl refl
    (insts.ConditionalSelect base rd rn cond rm) base (rd ∷ rn ∷ cond ∷ rm ∷ []) h.base h.fields h.allowed (λ word e. cc)

pub known : (inst : Inst) → InRange inst → instruction (word_of inst) ≡ Some inst
unfolding instruction
known inst h = known_by_table inst h
