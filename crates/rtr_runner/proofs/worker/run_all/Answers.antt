use Rattle.std.proofs.Common.{◌≡◌, ℕ, suc, ◌+◌, ◌<◌, List, length, get_or, set, sym, ap, subst, ◌∙◌, arith}
use Rattle.type_world.specs.Loading.{world_of}
use Rattle.rtr_runner.specs.Workers.{IsReady, WorkerState, ran_in}
use Rattle.rtr_runner.proofs.InTurn.{all_changed, changed, in_turn, unchanged}
use Rattle.rtr_runner.proofs.worker.run_all.Goals as goal

pub run_plain-requires-clause-ready : goal.run_plain-requires-clause-ready
run_plain-requires-clause-ready c =
    let world = world_of c.args.world.now in
    let i = c.loop-worker.worker-index in
    let d = c.worker-item.result in
    let xs = c.args.workers.now in
    let same : get_or c.loop-worker.workers i d ≡ get_or xs i d =
    ap (λ (ws : List WorkerState). get_or ws i d) c.loop-worker.invariant ∙ unchanged (ran_in world) i xs d in
    let here : i < length xs = omega arith in
    subst (λ (w : WorkerState). IsReady world w) (sym same) (c.requires.ready i d here)

pub loop-worker-preserved : goal.loop-worker-preserved
loop-worker-preserved c =
    let world = world_of c.args.world.now in
    let i = c.loop-worker.worker-index in
    let d = c.worker-item.result in
    let xs = c.args.workers.now in
    let same : get_or c.loop-worker.workers i d ≡ get_or xs i d =
    ap (λ (ws : List WorkerState). get_or ws i d) c.loop-worker.invariant ∙ unchanged (ran_in world) i xs d in
    let here : i < length xs = omega arith in
    let next : suc i ≡ i + 1 = omega arith in
    let ran : c.run_plain.new.self ≡ ran_in world (get_or xs i d) = c.run_plain.ensures.ran ∙ ap (ran_in world) same in
    ap (λ (ws : List WorkerState). set ws i c.run_plain.new.self) c.loop-worker.invariant
    ∙ ap (λ (w : WorkerState). set (in_turn (ran_in world) i xs) i w) ran
    ∙ changed (ran_in world) i xs d here
    ∙ ap (λ (n : ℕ). in_turn (ran_in world) n xs) next

pub returns : goal.returns
returns c =
    let world = world_of c.args.world.now in
    let xs = c.args.workers.now in
    let end : c.loop-worker.worker-index ≡ length xs = omega arith in
    c.loop-worker.invariant ∙ ap (λ (n : ℕ). in_turn (ran_in world) n xs) end ∙ all_changed (ran_in world) xs
