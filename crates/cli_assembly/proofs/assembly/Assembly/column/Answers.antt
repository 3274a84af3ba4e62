use Rattle.std.proofs.Common.{ℕ, Option, ap, ◌∙◌}
use Rattle.std.specs.Prelude.{unwrap_or}
use Rattle.cli_assembly.proofs.Columns.{columns_are}
use Rattle.cli_assembly.proofs.assembly.Assembly.column.Goals as goal

pub returns : goal.returns
returns c =
    let found = rw (c.number.ensures.number, c.metadata.ensures.layout, c.bytes.ensures.bytes) at c.column.ensures in
    c.unwrap_or.ensures ∙ ap (λ (o : Option ℕ). unwrap_or o 0) found
    ∙ columns_are c.args.self.now c.args.table c.args.row c.args.number
