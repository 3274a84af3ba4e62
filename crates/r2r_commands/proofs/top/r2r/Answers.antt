use Rattle.std.proofs.Common.{ℕ, List, map, string_bytes, refl, sym, subst}
use Rattle.r2r_commands.specs.Outside.{PrintsText, seen}
use Rattle.r2r_commands.proofs.RunsOf.{usage_runs, dump_runs, run_runs}
use Rattle.r2r_commands.proofs.top.r2r.Goals as goal

pub returns-in-Usage : goal.returns-in-Usage
returns-in-Usage g c =
    let sink = g.S.Sink in
    let files = g.F.Files in
    let before = seen files.contents files.failed_calls sink.written sink.faults c.args.files.now c.args.out.now in
    let after = seen files.contents files.failed_calls sink.written sink.faults c.args.files.now c.print.new.out in
    let line = subst (λ (text : List ℕ). PrintsText sink.written sink.faults text c.args.out.now c.print.new.out) c.as_bytes.ensures.value
    c.print.ensures.printed in
    usage_runs (map string_bytes c.args.words.now) before after c.from.result refl c.print.ensures.never_falls
    (sym c.in-Usage.ensures) c.from.ensures line refl

pub returns-in-Dump : goal.returns-in-Dump
returns-in-Dump g c =
    let sink = g.S.Sink in
    let files = g.F.Files in
    let before = seen files.contents files.failed_calls sink.written sink.faults c.args.files.now c.args.out.now in
    let after = seen files.contents files.failed_calls sink.written sink.faults c.dump_file.new.files c.dump_file.new.out in
    dump_runs (map string_bytes c.args.words.now) before after c.from-in-Dump.result c.dump_file.ensures.contents
    c.dump_file.ensures.never_falls c.in-Dump.name.now (sym c.in-Dump.ensures)
    (rw c.from-in-Dump.ensures c.dump_file.ensures.ends)

pub returns-in-Run : goal.returns-in-Run
returns-in-Run g c =
    let sink = g.S.Sink in
    let files = g.F.Files in
    let before = seen files.contents files.failed_calls sink.written sink.faults c.args.files.now c.args.out.now in
    let after = seen files.contents files.failed_calls sink.written sink.faults c.run_file.new.files c.run_file.new.out in
    run_runs (map string_bytes c.args.words.now) before after c.from-in-Run.result c.run_file.ensures.contents
    c.run_file.ensures.never_falls c.in-Run.asked (sym c.in-Run.ensures) (rw c.from-in-Run.ensures c.run_file.ensures.ends)
