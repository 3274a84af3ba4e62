use Rattle.std.proofs.Common.{◌+◌, ◌<◌, ◌≤◌, length, sym, ap, ◌∙◌, ltb-true, ltb-false}
use Rattle.std.proofs.lemmas.List.{get_or_default}
use Rattle.cil_decode.specs.declared.instr.Instr.{Instr}
use Rattle.cil_decode.specs.Instructions.{instr_size}
use Rattle.cil_verify.proofs.Followed.{end_is, next_is}
use Rattle.cil_verify.proofs.step.offset_after.Goals as goal

pub returns-in-Some : goal.returns-in-Some
returns-in-Some c = λ i.
    let found = c.in-Some.following.now in
    let more : c.args.k + 1 < length c.args.instrs.now =
    ltb-true (c.args.k + 1) (length c.args.instrs.now) (sym (c.in-Some.ensures).lookup.0) in
    ap (λ (j : Instr). j.at) (c.in-Some.ensures).lookup.1 ∙ next_is c.args.code.now c.args.instrs.now c.args.k found c.requires.code more
    ∙ ap (λ (j : Instr). j.at + instr_size j) (get_or_default c.args.instrs.now c.args.k found i c.requires.within)

pub returns-in-None : goal.returns-in-None
returns-in-None c = λ i.
    let out : length c.args.instrs.now ≤ c.args.k + 1 =
    ltb-false (c.args.k + 1) (length c.args.instrs.now) (sym (c.in-None.ensures).lookup.0) in
    end_is c.args.code.now c.args.instrs.now c.args.k i c.requires.code c.requires.within out
