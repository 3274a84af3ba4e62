use Rattle.std.proofs.Common.{◌+◌, ◌*◌, arith}
use Rattle.rtr_bytes.specs.Checks.{records}
use Rattle.rtr_bytes.proofs.Tables.{records-more, records-end}
use Rattle.rtr_sections.specs.Header.{rtr_section_at}
use Rattle.rtr_sections.proofs.header.read_sections.Goals as goal

pub loop-i-preserved : goal.loop-i-preserved
loop-i-preserved c =
    let section = rtr_section_at c.args.file.now in
    rw c.in_ok-push.ensures.items
    (records-more section c.args.at 12 c.args.count c.loop-i.i c.loop-i.sections.items (records section c.args.at 12 c.args.count) _
    (omega arith) c.read.ensures c.loop-i.invariant)

pub returns : goal.returns
returns c =
    let section = rtr_section_at c.args.file.now in
    records-end section (c.args.at + 12 * c.loop-i.i) 12 c.args.count c.loop-i.i c.loop-i.sections.items
    (records section c.args.at 12 c.args.count) (omega arith) c.loop-i.invariant
