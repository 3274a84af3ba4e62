use Rattle.std.proofs.Common.{◌<◌, ◌∷◌, ◌++◌, [], List, length, map, take, sym, ap, ◌∙◌, arith, vec_items}
use Rattle.type_world.specs.Entries.{can_start}
use Rattle.type_world.specs.Loading.{world_of}
use Rattle.rtr_runner.specs.Workers.{WorkerState, new_worker}
use Rattle.r2r_commands.specs.Loaded.{new_workers}
use Rattle.r2r_commands.proofs.EachFile.{items_at, items_long}
use Rattle.r2r_commands.proofs.Starts.{made_more, starts_at}
use Rattle.r2r_commands.proofs.starting.new_workers.Goals as goal

pub plain-requires-clause-starts : goal.plain-requires-clause-starts
plain-requires-clause-starts c =
    let world = world_of c.args.world.now in
    let i = c.loop-i.i in
    let one = c.index-workers-i.result in
    let all = c.args.workers.now in
    let h : i < length all = omega arith in
    let long : i < length (map vec_items all) = omega (arith, h, items_long all) in
    ap (can_start world c.args.entry) (c.as_slice.ensures.value ∙ items_at all i one h c.index-workers-i.is)
    ∙ starts_at world c.args.entry (map vec_items all) i [] c.requires.start long

pub loop-i-preserved : goal.loop-i-preserved
loop-i-preserved c =
    let i = c.loop-i.i in
    let one = c.index-workers-i.result in
    let all = c.args.workers.now in
    let entry = c.args.entry in
    let ticks = c.args.ticks in
    let front = new_workers entry ticks 0 (take i (map vec_items all)) in
    let h : i < length all = omega arith in
    let long : i < length (map vec_items all) = omega (arith, h, items_long all) in
    let made = c.in_ok-worker.ensures
    ∙ ap (new_worker entry ticks i) (c.as_slice.ensures.value ∙ items_at all i one h c.index-workers-i.is) in
    c.in_ok-push.ensures.items
    ∙ ap (λ (before : List WorkerState). before ++ c.in_ok-worker.worker ∷ []) c.loop-i.invariant
    ∙ ap (λ (worker : WorkerState). front ++ worker ∷ []) made
    ∙ sym (made_more entry ticks (map vec_items all) i [] long)
