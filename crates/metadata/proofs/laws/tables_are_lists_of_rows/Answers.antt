use Rattle.metadata.proofs.ListsOfRows.{column_in, columns_in_row, rows_in}
use Rattle.metadata.proofs.laws.tables_are_lists_of_rows.Goals as goal

pub returns-clause-rows : goal.returns-clause-rows
returns-clause-rows c = rows_in

pub returns-clause-columns : goal.returns-clause-columns
returns-clause-columns c = columns_in_row

pub returns-clause-numbers : goal.returns-clause-numbers
returns-clause-numbers c = column_in
