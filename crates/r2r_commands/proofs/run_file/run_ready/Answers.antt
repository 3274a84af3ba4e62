use Rattle.std.proofs.Common.{List, All, true, false, sym, ap, subst, ◌∙◌}
use Rattle.std.specs.List.{list_all}
use Rattle.type_world.specs.Loading.{world_of}
use Rattle.rtr_runner.specs.Workers.{IsReady, WorkerState, ran_in}
use Rattle.r2r_commands.specs.Printing.{has_returned}
use Rattle.r2r_commands.proofs.RunPrinted.{all_written, each_ready, printed_cut, printed_whole}
use Rattle.r2r_commands.proofs.run_file.run_ready.Goals as goal

pub run_all-requires-clause-ready : goal.run_all-requires-clause-ready
run_all-requires-clause-ready g c =
    let ready = c.args.ready in
    subst (λ (ws : List WorkerState). All (IsReady (world_of ready.world)) ws) (sym c.deref_mut.ensures.value)
    (each_ready c.args.words.now ready.world ready c.requires.ready)

pub returns-then-all_returned-clause-printed : goal.returns-then-all_returned-clause-printed
returns-then-all_returned-clause-printed g c =
    let sink = g.S.Sink in
    let ready = c.args.ready in
    let ran = all_written (ran_in (world_of ready.world)) ready.workers c.deref_mut.result.now c.run_all.new.workers c.deref.result.now
    c.deref_mut.ensures.value c.run_all.ensures c.deref.ensures.value in
    let returned = ap (λ (ws : List WorkerState). list_all has_returned ws) (c.deref.ensures.value ∙ sym c.deref-in-Ok.ensures.value)
    ∙ sym c.all_returned.ensures ∙ c.if-all_returned.true in
    printed_whole c.args.words.now ready.world ready c.requires.ready c.runs_end.ensures c.deref.result.now ran sink.written sink.faults
    c.args.out.now c.write_workers.new.out true returned c.in-Ok.ensures.written

pub returns-in-Ok-clause-printed : goal.returns-in-Ok-clause-printed
returns-in-Ok-clause-printed g c =
    let sink = g.S.Sink in
    let ready = c.args.ready in
    let ran = all_written (ran_in (world_of ready.world)) ready.workers c.deref_mut.result.now c.run_all.new.workers c.deref.result.now
    c.deref_mut.ensures.value c.run_all.ensures c.deref.ensures.value in
    let returned = ap (λ (ws : List WorkerState). list_all has_returned ws) (c.deref.ensures.value ∙ sym c.deref-in-Ok.ensures.value)
    ∙ sym c.all_returned.ensures ∙ c.if-all_returned.false in
    printed_whole c.args.words.now ready.world ready c.requires.ready c.runs_end.ensures c.deref.result.now ran sink.written sink.faults
    c.args.out.now c.write_workers.new.out false returned c.in-Ok.ensures.written

pub returns-clause-printed : goal.returns-clause-printed
returns-clause-printed g c =
    let sink = g.S.Sink in
    let ready = c.args.ready in
    let ran = all_written (ran_in (world_of ready.world)) ready.workers c.deref_mut.result.now c.run_all.new.workers c.deref.result.now
    c.deref_mut.ensures.value c.run_all.ensures c.deref.ensures.value in
    printed_cut c.args.words.now ready.world ready c.requires.ready c.runs_end.ensures c.deref.result.now ran sink.written sink.faults
    c.args.out.now c.write_workers.new.out c.in-Err.ensures.written
