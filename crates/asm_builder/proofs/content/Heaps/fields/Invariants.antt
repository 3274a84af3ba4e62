use Rattle.std.proofs.Common.{map, take}
use Rattle.asm_builder.specs.Cells.{field_cells}
use Rattle.asm_builder.proofs.Spelled.{Spelling}
use Rattle.asm_builder.proofs.content.Heaps.fields.Given as goal

abbrev pub invariant-loop-f : goal.invariant-loop-f
invariant-loop-f l = Spelling l.initial.self (map field_cells (take l.f-index l.fields)) l.rows.items l.self
