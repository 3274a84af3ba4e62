use Rattle.std.proofs.Common.{◌≡◌, sym, ap, ◌∙◌, refl, arith, rules}
use Rattle.cil_meaning.specs.declared.ending.Ending.TheVariants as endings
use Rattle.type_world.specs.Loading.{world_of}
use Rattle.cil_meaning.specs.State.{no_objects}
use Rattle.cil_interp.specs.Frames.{ended}
use Rattle.cil_interp.proofs.Entering.{no_ticks}
use Rattle.cil_interp.proofs.Printed.{output_full, printed_line}
use Rattle.cil_interp.proofs.printing.built_in.Goals as goal

pub returns-then-not-tick-clause-printed : goal.returns-then-not-tick-clause-printed
returns-then-not-tick-clause-printed c = λ waiting begun.
    no_ticks (world_of c.args._world.now) waiting _ _ c.args.memory.now c.args.meter.now.ticks_left begun
    (c.if-not-tick.ensures.none refl).0

pub returns-in-Ok-clause-printed : goal.returns-in-Ok-clause-printed
returns-in-Ok-clause-printed c = λ waiting begun. (
  refl,
  printed_line (world_of c.args._world.now) waiting c.args.row c.args.arguments.now c.args.memory.now c.args.meter.now.ticks_left
      c.tick.new.meter.ticks_left begun (c.if-not-tick.ensures.taken (search rules)).0 c.requires.first c.requires.last c.requires.arguments
      c.print.new.self
      (ap (no_objects.print c.args.memory.now) (sym (c.as_bytes.ensures.value ∙ c.line_of-line.ensures)) ∙ c.in-Ok.ensures.printed),
)

pub returns-in-Err-clause-printed : goal.returns-in-Err-clause-printed
returns-in-Err-clause-printed c = λ waiting begun.
    output_full (world_of c.args._world.now) waiting c.args.row c.args.arguments.now c.args.memory.now c.args.meter.now.ticks_left
    c.tick.new.meter.ticks_left begun (c.if-not-tick.ensures.taken (search rules)).0 c.requires.first c.requires.last c.requires.arguments
    (ap (no_objects.print c.args.memory.now) (sym (c.as_bytes.ensures.value ∙ c.line_of-line.ensures)) ∙ c.in-Err.ensures.full)
    ∙ ap (λ o. ended begun o endings.OutputFull) (sym c.in-Err.ensures.err)
