use Rattle.std.proofs.Common.{map, take}
use Rattle.asm_builder.specs.Cells.{assembly_ref_cells}
use Rattle.asm_builder.proofs.Spelled.{Spelling}
use Rattle.asm_builder.proofs.content.Heaps.assembly_refs.Given as goal

abbrev pub invariant-loop-name : goal.invariant-loop-name
invariant-loop-name l = Spelling l.initial.self (map assembly_ref_cells (take l.name-index l.names)) l.rows.items l.self
