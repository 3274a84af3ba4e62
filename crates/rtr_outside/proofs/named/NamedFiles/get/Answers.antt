use Rattle.std.proofs.Common.{Some, ap, sym, ◌∙◌}
use Rattle.rtr_outside.specs.Named.{FileMap, bytes_of}
use Rattle.rtr_outside.proofs.NamedLemmas.{get_missing, get_at}
use Rattle.rtr_outside.proofs.named.NamedFiles.get.Goals as goal

pub returns-in_err-at : goal.returns-in_err-at
returns-in_err-at c =
    let missing = rw c.deref.ensures.value at (sym c.in_err-at.ensures) in
    rw c.from_residual.ensures (sym (get_missing c.args.name.now c.self.inside.entries.items missing)
    ∙ ap (λ (map : FileMap). bytes_of map c.args.name.now) c.self.view_is)

pub returns : goal.returns
returns c =
    let place = rw c.deref.ensures.value at (sym c.in_ok-at.ensures) in
    ap Some (c.as_slice.ensures.value ∙ ap (λ file. file.1.items) c.index.ensures)
    ∙ sym (get_at c.args.name.now c.self.inside.entries.items c.in_ok-at.at c.index.result.now place)
    ∙ ap (λ (map : FileMap). bytes_of map c.args.name.now) c.self.view_is
