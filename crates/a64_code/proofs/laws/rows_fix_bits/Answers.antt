use Rattle.a64_code.proofs.Outside.{row_fixes, row_holds, word_small, outside_rows}
use Rattle.a64_code.proofs.laws.rows_fix_bits.Goals as goal

pub returns-clause-fixed : goal.returns-clause-fixed
returns-clause-fixed c = row_fixes

pub returns-clause-held : goal.returns-clause-held
returns-clause-held c = row_holds

pub returns-clause-small : goal.returns-clause-small
returns-clause-small c = word_small

pub returns-clause-outside : goal.returns-clause-outside
returns-clause-outside c = outside_rows
