use Rattle.std.proofs.Common.{rules, sym, ap, ◌∙◌}
use Rattle.metadata.specs.Heaps.{front_if}
use Rattle.metadata.proofs.Blobs.{no_blob, the_blob}
use Rattle.metadata.proofs.heaps.blob_at.Goals as goal

pub returns-in_err-len : goal.returns-in_err-len
returns-in_err-len c = let none = no_blob c.args.heap.now c.args.at c.in_err-len.ensures.exact in search (rules, none)

pub returns : goal.returns
returns c =
    c.front_if.ensures
    ∙ ap (front_if c.in_ok-len.len) c.rest_of.ensures
    ∙ sym (the_blob c.args.heap.now c.args.at c.in_ok-len.len c.in_ok-len.next c.in_ok-len.ensures.exact)
