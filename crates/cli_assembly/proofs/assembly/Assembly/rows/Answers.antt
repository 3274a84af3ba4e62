use Rattle.std.proofs.Common.{sym, ap, ◌∙◌, arith}
use Rattle.metadata.specs.Schema.{table_number}
use Rattle.metadata.specs.Tables.{Layout, rows_of}
use Rattle.cli_assembly.proofs.ByRow.{rows_of_file}
use Rattle.cli_assembly.proofs.Coded.{few}
use Rattle.cli_assembly.proofs.FewRows.{few_rows}
use Rattle.cli_assembly.proofs.assembly.Assembly.rows.Goals as goal

pub returns-clause-rows : goal.returns-clause-rows
returns-clause-rows c =
    c.rows.ensures ∙ ap (rows_of c.metadata.result.now) c.number.ensures.number
    ∙ ap (λ (layout : Layout). rows_of layout (table_number c.args.table)) c.metadata.ensures.layout
    ∙ sym (rows_of_file c.args.self.now c.args.table (few c.args.table))

pub returns-clause-few : goal.returns-clause-few
returns-clause-few c =
    omega (arith, returns-clause-rows c, few_rows c.args.self.now c.args.table c.metadata.ensures.well_formed)
