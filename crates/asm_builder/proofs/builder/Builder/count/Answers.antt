use Rattle.std.proofs.Common.{sym, arith}
use Rattle.asm_builder.proofs.CountsWith.{count_past}
use Rattle.asm_builder.proofs.builder.Builder.count.Goals as goal

pub returns-else-table-lt64 : goal.returns-else-table-lt64
returns-else-table-lt64 c = sym (count_past c.args.self.now c.args.table (omega arith))
