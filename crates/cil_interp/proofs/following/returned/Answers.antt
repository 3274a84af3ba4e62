use Rattle.std.proofs.Common.{◌∙◌, sym, arith}
use Rattle.type_world.specs.Loading.{world_of}
use Rattle.cil_interp.proofs.Arrived.{returned_last, returned_on}
use Rattle.cil_interp.proofs.following.returned.Goals as goal

pub returns-then-len-eq0-clause-goes : goal.returns-then-len-eq0-clause-goes
returns-then-len-eq0-clause-goes c = λ output ticks begun run g. (
  begun,
  returned_last (world_of c.args.world.now) c.args.stack.now c.args.words.now output c.args.word ticks begun run
      (sym c.len.ensures.count ∙ c.if-len-eq0.true) g,
)
