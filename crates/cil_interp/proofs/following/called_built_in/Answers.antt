use Rattle.std.proofs.Common.{◌≡◌, [], ap, refl}
use Rattle.type_world.specs.Loading.{world_of}
use Rattle.cil_interp.specs.declared.meter.Event.TheVariants as events
use Rattle.cil_interp.specs.Frames.{frames_are, waiting_in}
use Rattle.cil_interp.proofs.Calls.{goes_printed}
use Rattle.cil_interp.proofs.following.called_built_in.Goals as goal

pub returns-in-Returned-clause-goes : goal.returns-in-Returned-clause-goes
returns-in-Returned-clause-goes c = λ begun. (
  begun,
  goes_printed (world_of c.args.world.now) c.args.stack.now c.args.words.now (frames_are c.give_last.new.stack c.give_last.new.words)
      c.built_in.new.memory c.built_in.new.meter.ticks_left begun _ c.requires.result
      (c.in-Returned.ensures.printed (waiting_in (world_of c.args.world.now) (frames_are c.args.stack.now c.args.words.now)) begun).1
      (c.give_last.ensures.given c.built_in.new.memory c.built_in.new.meter.ticks_left begun),
)

pub returns-in-Returned-clause-ticks : goal.returns-in-Returned-clause-ticks
returns-in-Returned-clause-ticks c = λ e.
    c.in-Returned.ensures.ticks (ap (λ n. events.Returned n) (c.in-Returned.ensures.printed [] []).0)

pub returns-in-End-clause-goes : goal.returns-in-End-clause-goes
returns-in-End-clause-goes c = λ begun. (
  begun,
  c.in-End.ensures.printed (waiting_in (world_of c.args.world.now) (frames_are c.args.stack.now c.args.words.now)) begun,
)

pub returns-in-Call-clause-goes : goal.returns-in-Call-clause-goes
returns-in-Call-clause-goes c = absurd (c.in-Call.ensures.printed [] [])

pub returns-in-Call-clause-ticks : goal.returns-in-Call-clause-ticks
returns-in-Call-clause-ticks c = absurd (c.in-Call.ensures.printed [] [])

pub returns-in-Next-clause-goes : goal.returns-in-Next-clause-goes
returns-in-Next-clause-goes c = absurd (c.in-Next.ensures.printed [] [])

pub returns-in-Next-clause-ticks : goal.returns-in-Next-clause-ticks
returns-in-Next-clause-ticks c = absurd (c.in-Next.ensures.printed [] [])
