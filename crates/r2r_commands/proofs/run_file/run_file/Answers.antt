use Rattle.std.proofs.Common.{ℕ, ◌≤◌, ◌^◌, List, All, Bor, Vec, length, map, vec_items, sym, ap, subst, ◌∙◌}
use Rattle.std.specs.Global.{Global}
use Rattle.r2r_commands.specs.Command.{Run}
use Rattle.r2r_commands.specs.Outside.{seen}
use Rattle.r2r_commands.specs.Reading.{AllRead, ComesTo}
use Rattle.r2r_commands.specs.Inputs.{IsStoppedBy}
use Rattle.r2r_commands.specs.Refusals.{meaning}
use Rattle.r2r_commands.specs.Status.{code_of}
use Rattle.r2r_commands.specs.Ready.{PrintsReply}
use Rattle.r2r_commands.proofs.EachFile.{texts, texts_long}
use Rattle.r2r_commands.proofs.Endings.{stopped_ends}
use Rattle.r2r_commands.proofs.RunEnds.{run_ends}
use Rattle.r2r_commands.proofs.WereRead.{all_small, as_many}
use Rattle.r2r_commands.proofs.run_file.run_file.Goals as goal

pub run_files-requires-clause-each : goal.run_files-requires-clause-each
run_files-requires-clause-each g c =
    let contents = g.F.Files.contents c.args.files.now in
    let names = c.deref.result.now in
    let inputs = c.in-Ok-read_inputs.inputs.items in
    let read = c.in-Ok-read_inputs.ensures.read.1.1 in
    ap (λ (all : List (Bor (List ℕ))). length all) (c.deref-in-Ok-read_inputs.ensures.value ∙ sym c.deref.ensures.value)
    ∙ sym (texts_long names) ∙ as_many contents (texts names) inputs read
    ∙ ap (λ (all : List (Vec ℕ Global)). length all) (sym c.deref-in-Ok-read_inputs-2.ensures.value)

pub run_files-requires-clause-small : goal.run_files-requires-clause-small
run_files-requires-clause-small g c =
    let contents = g.F.Files.contents c.args.files.now in
    let names = c.deref.result.now in
    let inputs = c.in-Ok-read_inputs.inputs.items in
    let read = c.in-Ok-read_inputs.ensures.read.1.1 in
    subst (λ (all : List (Vec ℕ Global)). All (λ (file : Vec ℕ Global). length file.items ≤ 2 ^ 31) all)
    (sym c.deref-in-Ok-read_inputs-2.ensures.value) (all_small contents (texts names) inputs read)

pub returns-in-Ok-read_inputs-clause-ends : goal.returns-in-Ok-read_inputs-clause-ends
returns-in-Ok-read_inputs-clause-ends g c =
    let sink = g.S.Sink in
    let files = g.F.Files in
    let run = c.args.words.now in
    let read = c.in-Ok-read_inputs.ensures.read in
    let inputs = c.in-Ok-read_inputs.inputs.items in
    let named = ap texts c.deref.ensures.value ∙ c.in-Ok.ensures in
    let comes = subst (λ (all : List (List ℕ)). ComesTo (files.contents c.args.files.now) all (AllRead (map vec_items inputs)))
    named read.1 in
    let replied = subst (λ (all : List (Vec ℕ Global)). PrintsReply sink.written sink.faults (Run run) (map vec_items all) c.args.out.now
    c.run_files.new.out (code_of c.run_files.result)) c.deref-in-Ok-read_inputs-2.ensures.value c.run_files.ensures.printed in
    run_ends files.contents files.failed_calls sink.written sink.faults c.args.files.now c.read_inputs.new.files c.args.out.now
    c.run_files.new.out (code_of c.run_files.result) (Run run) (map vec_items inputs) read.0 comes replied

pub returns-in-Err-Refused-clause-ends : goal.returns-in-Err-Refused-clause-ends
returns-in-Err-Refused-clause-ends g c =
    let sink = g.S.Sink in
    let files = g.F.Files in
    let run = c.args.words.now in
    let before = seen files.contents files.failed_calls sink.written sink.faults c.args.files.now c.args.out.now in
    let after = seen files.contents files.failed_calls sink.written sink.faults c.read_inputs.new.files c.refuse.new.out in
    let refusal = meaning c.in-Err-Refused.refusal in
    let read = rw c.in-Err-Refused.field-0-is at c.in-Err-Refused.ensures.read in
    let named = ap texts c.deref.ensures.value ∙ c.in-Ok.ensures in
    let stopped = subst (λ (all : List (List ℕ)). IsStoppedBy (files.contents c.args.files.now) all refusal) named read.1 in
    stopped_ends (Run run) before after (code_of c.refuse.result) refusal read.0 stopped c.refuse.ensures.printed
