use Rattle.std.proofs.Common.{◌≡◌, true, Option, sym, ap, subst, ◌∙◌}
use Rattle.std.specs.Option.{option_map}
use Rattle.type_world.specs.Loading.{world_of}
use Rattle.type_world.specs.Entries.{can_start}
use Rattle.rtr_runner.specs.Workers.{Ended, Job, WorkerState, ends_as, ran_in}
use Rattle.rtr_runner.proofs.Entry.{ends_so, not_ended, passes}
use Rattle.rtr_runner.proofs.worker.Worker.run_plain.Goals as goal

pub run_entry-ending-requires-clause-arguments : goal.run_entry-ending-requires-clause-arguments
run_entry-ending-requires-clause-arguments c =
    let world = world_of c.args.world.now in
    let job : Job = record { entry = c.self.inside.entry; numbers = c.self.inside.numbers.items; ticks = c.self.inside.ticks } in
    let starts : can_start world job.entry job.numbers ≡ true =
    subst (λ (w : WorkerState). can_start world w.job.entry w.job.numbers ≡ true) (sym c.self.view_is) c.requires.ready.starts in
    passes world job c.as_slice.result.now (c.as_slice.ensures.value ∙ c.self.invariant.2) starts

pub returns-clause-ran : goal.returns-clause-ran
returns-clause-ran c =
    let world = world_of c.args.world.now in
    let job : Job = record { entry = c.self.inside.entry; numbers = c.self.inside.numbers.items; ticks = c.self.inside.ticks } in
    let starts : can_start world job.entry job.numbers ≡ true =
    subst (λ (w : WorkerState). can_start world w.job.entry w.job.numbers ≡ true) (sym c.self.view_is) c.requires.ready.starts in
    let new = not_ended _ c.self.inside.ending (ap (λ (w : WorkerState). w.ended) c.self.view_is ∙ c.requires.ready.new) in
    let ended = ends_so world job c.as_slice.result.now (c.as_slice.ensures.value ∙ c.self.invariant.2) starts c.self.inside.memory
    c.run_entry-ending.new.memory c.run_entry-ending.result (c.self.invariant.0 new) c.self.invariant.3
    (c.runs_end.ensures.reached world job.entry job.numbers job.ticks) c.run_entry-ending.ensures.ends in
    ap (λ (x : Option Ended). (let w : WorkerState = record { number = c.self.inside.number; job = job; ended = x } in w)) (sym ended)
    ∙ ap (ran_in world) c.self.view_is

pub returns-clause-ending : goal.returns-clause-ending
returns-clause-ending c =
    let world = world_of c.args.world.now in
    let job : Job = record { entry = c.self.inside.entry; numbers = c.self.inside.numbers.items; ticks = c.self.inside.ticks } in
    let starts : can_start world job.entry job.numbers ≡ true =
    subst (λ (w : WorkerState). can_start world w.job.entry w.job.numbers ≡ true) (sym c.self.view_is) c.requires.ready.starts in
    let new = not_ended _ c.self.inside.ending (ap (λ (w : WorkerState). w.ended) c.self.view_is ∙ c.requires.ready.new) in
    let ended = ends_so world job c.as_slice.result.now (c.as_slice.ensures.value ∙ c.self.invariant.2) starts c.self.inside.memory
    c.run_entry-ending.new.memory c.run_entry-ending.result (c.self.invariant.0 new) c.self.invariant.3
    (c.runs_end.ensures.reached world job.entry job.numbers job.ticks) c.run_entry-ending.ensures.ends in
    sym (ap (option_map (λ (x : Ended). x.ending)) (ap (λ (w : WorkerState). ends_as world w.job) (sym c.self.view_is) ∙ ended))
