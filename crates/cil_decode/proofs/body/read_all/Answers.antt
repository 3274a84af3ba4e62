use Rattle.std.proofs.Common.{rules, ℕ, ◌+◌, List, [], ◌∷◌, ◌++◌, sym, ap, subst, arith}
use Rattle.std.proofs.lemmas.Grind.{common_steps}
use Rattle.cil_decode.specs.declared.instr.Instr.{Instr}
use Rattle.cil_decode.specs.Bodies.{Follow}
use Rattle.cil_decode.proofs.Sizes.{is_read}
use Rattle.cil_decode.proofs.Followed.{follow_more, none_read, refused_so}
use Rattle.cil_decode.proofs.body.read_all.Goals as goal

pub returns-then-is_empty-clause-refused : goal.returns-then-is_empty-clause-refused
returns-then-is_empty-clause-refused c = none_read c.args.code.now (grind (arith, common_steps))

pub returns-in_err-instr-clause-refused : goal.returns-in_err-instr-clause-refused
returns-in_err-instr-clause-refused c =
    let refused =
    refused_so c.args.code.now c.instructions.list.items c.instructions.at c.in_err-instr.field-0.0
    c.instructions.invariant.follow (omega arith) c.in_err-instr.ensures.refused in
    search (rules, refused)

pub instructions-smaller : goal.instructions-smaller
instructions-smaller c =
    let read = is_read c.args.code.now c.instructions.at c.in_ok-instr.instr c.in_ok-instr.ensures.read in
    let size = c.size-at.ensures in
    let inside = c.in_ok-instr.ensures.inside in
    omega (arith, read.some, size, inside)

pub instructions-preserved : goal.instructions-preserved
instructions-preserved c =
    let size = c.size-at.ensures in
    let inside = c.in_ok-instr.ensures.inside in
    let followed =
    follow_more c.args.code.now 0 c.instructions.at c.instructions.list.items c.in_ok-instr.instr
    c.instructions.invariant.follow c.in_ok-instr.ensures.read in
    record {
      within = omega (arith, size, inside);
      follow =
          let there : ℕ → Type 0 = λ n. Follow c.args.code.now 0 (c.instructions.list.items ++ c.in_ok-instr.instr ∷ []) n in
          let at_next = subst there (ap (λ n. c.instructions.at + n) (sym size)) followed in
          let here : List Instr → Type 0 = λ is. Follow c.args.code.now 0 is (c.instructions.at + c.size-at.result) in
          subst here (sym c.in_ok-push.ensures.items) at_next;
    }
