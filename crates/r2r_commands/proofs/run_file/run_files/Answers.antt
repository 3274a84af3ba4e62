use Rattle.std.proofs.Common.{map, vec_items}
use Rattle.r2r_commands.specs.Command.{Run}
use Rattle.r2r_commands.specs.Refusals.{meaning}
use Rattle.r2r_commands.specs.Status.{code_of}
use Rattle.r2r_commands.proofs.RunEnds.{answered, refused}
use Rattle.r2r_commands.proofs.run_file.run_files.Goals as goal

pub returns-in-Ok-clause-printed : goal.returns-in-Ok-clause-printed
returns-in-Ok-clause-printed g c =
    let sink = g.S.Sink in
    answered sink.written sink.faults c.args.words.now (map vec_items c.args.files.now) c.in-Ok.ready.world c.args.out.now
    c.run_ready.new.out (code_of c.run_ready.result) c.in-Ok.ensures.1.world c.in-Ok.ensures.0 c.run_ready.ensures.printed

pub returns-in-Err-Refused-clause-printed : goal.returns-in-Err-Refused-clause-printed
returns-in-Err-Refused-clause-printed g c =
    let sink = g.S.Sink in
    let first = rw c.in-Err-Refused.field-0-is at c.in-Err-Refused.ensures in
    refused (Run c.args.words.now) (map vec_items c.args.files.now) sink.written sink.faults c.args.out.now c.refuse.new.out
    (code_of c.refuse.result) (meaning c.in-Err-Refused.refusal) first c.refuse.ensures.printed
