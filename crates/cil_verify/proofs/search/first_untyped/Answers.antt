use Rattle.std.proofs.Common.{◌≡◌, ◌+◌, ◌-◌, ◌/◌, ◌<◌, true, false, Some, length, get_or, is_none, sym, ap, ◌∙◌, subst, arith}
use Rattle.cil_decode.specs.declared.instr.Instr.{Instr}
use Rattle.cil_verify.specs.Subjects.{least_of, no_typing_at}
use Rattle.cil_verify.proofs.Halves.{first_is, low_in, more_typed}
use Rattle.cil_verify.proofs.search.first_untyped.Goals as goal

pub loop-low-preserved : goal.loop-low-preserved
loop-low-preserved c =
    let s = c.args.code.now in
    let d = c.index-steps-middle.result in
    let middle = c.loop-low.low + (c.loop-low.high - c.loop-low.low) / 2 in
    let m_in : middle < length s.instrs = omega (arith, c.loop-low-test.true, c.loop-low.invariant.within) in
    let is : d ≡ get_or s.instrs middle d = c.index-steps-middle.is ∙ ap (λ l. get_or l middle d) c.steps-steps.ensures in
    let miss : no_typing_at s (get_or s.instrs middle d) ≡ false =
    ap (λ (i : Instr). no_typing_at s i) (sym is) ∙ ap (λ n. is_none (least_of s n)) (sym c.at.ensures)
    ∙ sym c.in_ok-is_untyped.ensures ∙ c.if-branch.false in
    record {
      in_order = omega (arith, c.loop-low-test.true);
      within = c.loop-low.invariant.within;
      typed =
          more_typed c.rounds_find_typings.ensures c.untyped_code_has_a_first_offset.ensures.narrow s c.args.bytes.now c.requires.code
          middle d m_in miss;
      untyped = c.loop-low.invariant.untyped;
    }

pub bounds-steps-low : goal.bounds-steps-low
bounds-steps-low c =
    subst (λ n. c.loop-low.low < n) (ap length (sym c.steps-steps.ensures))
    (low_in c.args.code.now c.loop-low.low c.loop-low.high c.loop-low.invariant.in_order c.loop-low.invariant.within
    c.loop-low-test.false c.loop-low.invariant.typed c.requires.some)

pub returns : goal.returns
returns c =
    let s = c.args.code.now in
    let d = c.index-steps-low.result in
    let low_is : c.loop-low.high ≡ c.loop-low.low = omega (arith, c.loop-low.invariant.in_order, c.loop-low-test.false) in
    let in_list = low_in s c.loop-low.low c.loop-low.high c.loop-low.invariant.in_order c.loop-low.invariant.within
    c.loop-low-test.false c.loop-low.invariant.typed c.requires.some in
    let high_in : c.loop-low.high < length s.instrs = omega (arith, low_is, in_list) in
    let hit : no_typing_at s (get_or s.instrs c.loop-low.low d) ≡ true =
    subst (λ n. no_typing_at s (get_or s.instrs n d) ≡ true) low_is (c.loop-low.invariant.untyped d high_in) in
    let is : d ≡ get_or s.instrs c.loop-low.low d = c.index-steps-low.is ∙ ap (λ l. get_or l c.loop-low.low d) c.steps-steps.ensures in
    first_is s c.loop-low.low d in_list c.loop-low.invariant.typed hit ∙ ap (λ (i : Instr). Some i.at) (sym is)
    ∙ ap Some (sym c.at-2.ensures)
