use Rattle.std.proofs.Common.{ap, sym, ◌∙◌}
use Rattle.rtr_outside.specs.Named.{file_map}
use Rattle.rtr_outside.proofs.NamedLemmas.{file_map-set, file_map_push}
use Rattle.rtr_outside.proofs.named.NamedFiles.set.Goals as goal

pub returns-in-Some-clause-ok : goal.returns-in-Some-clause-ok
returns-in-Some-clause-ok c =
    let place = rw c.deref.ensures.value at (sym c.in-Some.ensures) in
    file_map-set c.args.name.now c.self.inside.entries.items c.in-Some.at c.index_mut.result.now c.in_ok-bytes.bytes place
    c.index_mut.ensures.value
    ∙ cc (c.self.view_is, c.in_ok-bytes.ensures.items)

pub returns-in_ok-push-in-None-clause-ok : goal.returns-in_ok-push-in-None-clause-ok
returns-in_ok-push-in-None-clause-ok c =
    let place = rw (c.deref.ensures.value, ← c.in_ok-from_str-in-None.ensures.ok) at (sym c.in-None.ensures) in
    ap file_map c.in_ok-push-in-None.ensures.items
    ∙ file_map_push c.self.inside.entries.items (c.in_ok-from_str-in-None.field-0, c.in_ok-bytes.bytes) place
    ∙ cc (c.self.view_is, c.in_ok-bytes.ensures.items, c.in_ok-from_str-in-None.ensures.ok)
