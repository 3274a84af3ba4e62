use Rattle.std.proofs.Common.{◌≡◌, ℕ, List, [], Err, map, vec_items, subst, ◌∙◌}
use Rattle.std.proofs.lemmas.Result.{err_from_is_err_and}
use Rattle.type_world.specs.Loading.{world_of}
use Rattle.r2r_commands.specs.declared.run_file.Ready.{Ready}
use Rattle.r2r_commands.specs.RunRefusals.{file_refusals, start_refusals}
use Rattle.r2r_commands.specs.Loaded.{IsUnlessRefused}
use Rattle.r2r_commands.specs.Ready.{IsReadyRun}
use Rattle.r2r_commands.proofs.EachFile.{texts}
use Rattle.r2r_commands.proofs.Prepared.{load_stops, start_ends}
use Rattle.r2r_commands.proofs.run_file.prepared.Goals as goal

pub returns-in_err-world : goal.returns-in_err-world
returns-in_err-world c =
    let p = err_from_is_err_and c.from_residual-in_err-world.result c.from_residual-in_err-world.ensures.1 in
    let run = c.args.words.now in
    let names = texts c.args.names.now in
    let files = map vec_items c.args.files.now in
    let stop = c.in_err-world.field-0.0 in
    let well = c.in_ok-assemblies.ensures.0 in
    let h = subst (λ (all : List (List ℕ)). IsUnlessRefused (file_refusals names all) (λ (w : List (List ℕ)). w ≡ all) (Err stop))
    c.in_ok-assemblies.ensures.1 c.in_err-world.ensures in
    rw (p.1, p.2) (load_stops run names files c.requires.names (λ (ready : Ready). IsReadyRun run files ready)
    (λ (w : List (List ℕ)). w ≡ files) stop well h)

pub returns : goal.returns
returns c =
    let run = c.args.words.now in
    let names = texts c.args.names.now in
    let files = map vec_items c.args.files.now in
    let well = c.in_ok-assemblies.ensures.0 in
    let read = c.in_ok-assemblies.ensures.1 in
    let same = c.in_ok-world.ensures.1 ∙ read in
    let loaded = subst (λ (all : List (List ℕ)). file_refusals names all ≡ []) read c.in_ok-world.ensures.0 in
    let h = subst (λ (w : List (List ℕ)). IsUnlessRefused (start_refusals run (world_of w)) (λ (ready : Ready). IsReadyRun run w ready)
    c.ready_in.result) same c.ready_in.ensures in
    start_ends run names files c.requires.names (λ (ready : Ready). IsReadyRun run files ready) c.ready_in.result well loaded h
