use Rattle.std.proofs.Common.{Bor, List, ℕ, Some, sym, ap, ◌∙◌}
use Rattle.cli_assembly.proofs.Named.{name_is}
use Rattle.cli_assembly.proofs.Records.{file_strings}
use Rattle.cli_assembly.proofs.assembly.Assembly.name.Goals as goal

pub returns : goal.returns
returns c =
    let bytes = c.args.self.now in
    let found = rw (c.metadata.ensures.layout, c.bytes.ensures.bytes) at c.string-text.ensures in
    ap (λ (r : Bor (List ℕ)). Some r.now) c.unwrap_or.ensures
    ∙ name_is bytes c.column-at.result c.string-text.result _ c.bytes.ensures.well_formed c.column-at.ensures
    (found ∙ sym (file_strings bytes c.column-at.result))
