use Rattle.std.proofs.Common.{map, take}
use Rattle.asm_builder.specs.Cells.{type_def_cells}
use Rattle.asm_builder.proofs.Spelled.{Spelling}
use Rattle.asm_builder.proofs.content.Heaps.type_defs.Given as goal

abbrev pub invariant-loop-t : goal.invariant-loop-t
invariant-loop-t l = Spelling l.initial.self (map type_def_cells (take l.t-index l.types)) l.rows.items l.self
