use Rattle.std.proofs.Common.{ℕ, List, Vec, get_or, ap, subst, ◌∙◌}
use Rattle.std.specs.Global.{Global}
use Rattle.r2rdump.specs.Dump.{file_fault}
use Rattle.r2r_commands.specs.Command.{Dump}
use Rattle.r2r_commands.specs.Dump.{dump_reply}
use Rattle.r2r_commands.specs.Ending.{PrintsIfMemory}
use Rattle.r2r_commands.specs.Outside.{seen}
use Rattle.r2r_commands.specs.Refusals.{meaning}
use Rattle.r2r_commands.specs.Status.{code_of}
use Rattle.r2r_commands.proofs.Endings.{as_seen, only_file, read_ends, stopped_ends}
use Rattle.r2r_commands.proofs.dump_file.dump_file.Goals as goal

pub returns-in-Ok-clause-ends : goal.returns-in-Ok-clause-ends
returns-in-Ok-clause-ends g c =
    let sink = g.S.Sink in
    let files = g.F.Files in
    let before = seen files.contents files.failed_calls sink.written sink.faults c.args.files.now c.args.out.now in
    let after = seen files.contents files.failed_calls sink.written sink.faults c.read_inputs.new.files c.dump_bytes.new.out in
    let read = c.in-Ok.ensures.read in
    let first = c.index.result.now in
    let only = only_file before.contents c.args.name.now c.in-Ok.inputs.items first read.1 in
    let bytes = c.deref.ensures.value ∙ ap (λ (file : Vec ℕ Global). file.items) c.index.ensures in
    let printed = subst (λ (file : List ℕ). PrintsIfMemory sink.written sink.faults (dump_reply c.args.name.now file (file_fault file))
    c.args.out.now c.dump_bytes.new.out (code_of c.dump_bytes.result)) bytes c.dump_bytes.ensures.printed in
    let file = (get_or c.in-Ok.inputs.items 0 first).items in
    read_ends c.args.name.now file before after (code_of c.dump_bytes.result) read.0 only
    (as_seen files.contents files.failed_calls sink.written sink.faults c.args.files.now c.read_inputs.new.files c.args.out.now
    c.dump_bytes.new.out (code_of c.dump_bytes.result) (dump_reply c.args.name.now file (file_fault file)) printed)

pub returns-in-Err-Refused-clause-ends : goal.returns-in-Err-Refused-clause-ends
returns-in-Err-Refused-clause-ends g c =
    let sink = g.S.Sink in
    let files = g.F.Files in
    let before = seen files.contents files.failed_calls sink.written sink.faults c.args.files.now c.args.out.now in
    let after = seen files.contents files.failed_calls sink.written sink.faults c.read_inputs.new.files c.refuse.new.out in
    let read = rw c.in-Err-Refused.field-0-is at c.in-Err-Refused.ensures.read in
    stopped_ends (Dump c.args.name.now) before after (code_of c.refuse.result) (meaning c.in-Err-Refused.refusal) read.0 read.1
    c.refuse.ensures.printed
