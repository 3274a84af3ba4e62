-- In each group the rows that are tried are those of the table that a word of the group can have.
use Rattle.std.proofs.Common.{[], ◌∷◌, refl, sym, ◌∙◌, arith}
use Rattle.a64_code.proofs.Searched.{group_answers, groups_answer}
use Rattle.a64_code.specs.Table.{table, add_immediate, add_register, bitfield, branch, branch_conditional}
use Rattle.a64_code.specs.Table.{branch_register, compare_and_branch, conditional_select, divide, load_immediate}
use Rattle.a64_code.specs.Table.{load_register, load_signed_immediate_32, load_signed_immediate_64}
use Rattle.a64_code.specs.Table.{load_signed_register, logical_register, move_wide, multiply_add, multiply_high}
use Rattle.a64_code.specs.Table.{multiply_long, or_not_register, pair, pc_relative, shift_variable, store_immediate}
use Rattle.a64_code.specs.Table.{store_register, sub_immediate, sub_register}
use Rattle.a64_code.specs.Words.{instruction}
use Rattle.a64_code.proofs.decoding.by_group.Goals as goal

pub returns-in-10 : goal.returns-in-10
unfolding instruction
returns-in-10 c =
    c.logical.ensures ∙ group_answers table (logical_register ∷ or_not_register ∷ []) c.args.word 10
    (sym c.number.ensures ∙ c.in-10.is) refl

pub returns-in-11 : goal.returns-in-11
unfolding instruction
returns-in-11 c =
    c.add_subtract_register.ensures
    ∙ group_answers table (add_register ∷ sub_register ∷ []) c.args.word 11 (sym c.number.ensures ∙ c.in-11.is) refl

pub returns-in-16 : goal.returns-in-16
unfolding instruction
returns-in-16 c =
    c.pc_relative.ensures ∙ group_answers table (pc_relative ∷ []) c.args.word 16 (sym c.number.ensures ∙ c.in-16.is) refl

pub returns-in-17 : goal.returns-in-17
unfolding instruction
returns-in-17 c =
    c.add_subtract_immediate.ensures
    ∙ group_answers table (add_immediate ∷ sub_immediate ∷ []) c.args.word 17 (sym c.number.ensures ∙ c.in-17.is) refl

pub returns-in-18 : goal.returns-in-18
unfolding instruction
returns-in-18 c =
    c.move_wide.ensures ∙ group_answers table (move_wide ∷ []) c.args.word 18 (sym c.number.ensures ∙ c.in-18.is) refl

pub returns-in-19 : goal.returns-in-19
unfolding instruction
returns-in-19 c =
    c.bitfield.ensures ∙ group_answers table (bitfield ∷ []) c.args.word 19 (sym c.number.ensures ∙ c.in-19.is) refl

pub returns-in-24 : goal.returns-in-24
unfolding instruction
returns-in-24 c =
    c.register_offset.ensures
    ∙ group_answers table (store_register ∷ load_register ∷ load_signed_register ∷ []) c.args.word 24
    (sym c.number.ensures ∙ c.in-24.is) refl

pub returns-in-25 : goal.returns-in-25
unfolding instruction
returns-in-25 c =
    c.unsigned_offset.ensures
    ∙ group_answers table (store_immediate ∷ load_immediate ∷ load_signed_immediate_64 ∷ load_signed_immediate_32
    ∷ []) c.args.word 25 (sym c.number.ensures ∙ c.in-25.is) refl

pub returns-in-26 : goal.returns-in-26
unfolding instruction
returns-in-26 c =
    c.two_sources.ensures ∙ group_answers table (divide ∷ shift_variable ∷ conditional_select ∷ []) c.args.word 26
    (sym c.number.ensures ∙ c.in-26.is) refl

pub returns-in-27 : goal.returns-in-27
unfolding instruction
returns-in-27 c =
    c.three_sources.ensures ∙ group_answers table (multiply_add ∷ multiply_long ∷ multiply_high ∷ []) c.args.word 27
    (sym c.number.ensures ∙ c.in-27.is) refl

pub returns-in-8 : goal.returns-in-8
unfolding instruction
returns-in-8 c =
    c.pairs.ensures ∙ groups_answer table (pair ∷ []) c.args.word 8 2 (refl, (refl, tt)) (omega arith) (omega arith)

pub returns-in-20-to-23 : goal.returns-in-20-to-23
unfolding instruction
returns-in-20-to-23 c =
    c.branches.ensures ∙ groups_answer table (branch ∷ branch_conditional ∷ compare_and_branch ∷ branch_register ∷ [])
    c.args.word 20 4 (refl, (refl, (refl, (refl, tt)))) (omega arith) (omega arith)

pub returns-in_default : goal.returns-in_default
unfolding instruction
returns-in_default c =
    groups_answer table [] c.args.word 0 8 (refl, (refl, (refl, (refl, (refl, (refl, (refl, (refl, tt)))))))) (omega arith) (omega arith)

pub returns-in_default-2 : goal.returns-in_default-2
unfolding instruction
returns-in_default-2 c = groups_answer table [] c.args.word 12 4 (refl, (refl, (refl, (refl, tt)))) (omega arith) (omega arith)

pub returns-in_default-3 : goal.returns-in_default-3
unfolding instruction
returns-in_default-3 c = groups_answer table [] c.args.word 28 4 (refl, (refl, (refl, (refl, tt)))) (omega arith) (omega arith)
