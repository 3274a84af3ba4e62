use Rattle.std.proofs.Common.{map, take}
use Rattle.asm_builder.specs.Cells.{attribute_cells}
use Rattle.asm_builder.proofs.Spelled.{Spelling}
use Rattle.asm_builder.proofs.content.Heaps.attributes.Given as goal

abbrev pub invariant-loop-a : goal.invariant-loop-a
invariant-loop-a l = Spelling l.initial.self (map attribute_cells (take l.a-index l.attributes)) l.rows.items l.self
