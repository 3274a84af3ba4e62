use Rattle.std.proofs.Common.{◌<◌, length, ◌∙◌, sym, arith}
use Rattle.cil_meaning.specs.declared.kind.Kind.TheVariants as kinds
use Rattle.type_world.specs.Loading.{world_of}
use Rattle.cil_verify.proofs.Widened.{widens_end, widens_more}
use Rattle.cil_verify.proofs.stack.widen_stack.Goals as goal
use Rattle.cil_verify.proofs.stack.widen_stack.Goals.{then-widen_at, else-widen_at}

pub loop-i-preserved : goal.loop-i-preserved
loop-i-preserved c =
    let s_in : c.loop-i.i < length c.loop-i.stack = omega (arith, c.min-i-end.ensures, c.loop-i.invariant.long) in
    let o_in : c.loop-i.i < length c.args.other.now = omega (arith, c.min-i-end.ensures) in
    widens_more (world_of c.args.world.now) c.args.stack.now c.loop-i.stack c.widen_at.new.stack c.args.other.now c.loop-i.i
    c.loop-i.changed c.if-widen_at.changed kinds.I4 s_in o_in (c.widen_at.ensures.widened kinds.I4)
    (elim c.if-widen_at.branch [
      | then-widen_at w ↦ λ e. absurd (let on = w.changed-is in cc)
      | else-widen_at w ↦ λ e. (sym w.changed-is ∙ e, c.widen_at.ensures.unchanged w.if-widen_at.false)
    ])
    c.loop-i.invariant

pub returns-clause-widened : goal.returns-clause-widened
returns-clause-widened c =
    widens_end (world_of c.args.world.now) c.args.stack.now c.loop-i.stack c.args.other.now c.loop-i.i c.loop-i.changed
    (omega (arith, c.min-i-end.ensures)) c.loop-i.invariant
