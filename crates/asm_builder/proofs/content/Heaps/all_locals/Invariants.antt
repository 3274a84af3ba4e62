use Rattle.std.proofs.Common.{map, take}
use Rattle.asm_builder.specs.Cells.{locals_cells, locals_of}
use Rattle.asm_builder.proofs.Spelled.{Spelling}
use Rattle.asm_builder.proofs.content.Heaps.all_locals.Given as goal

abbrev pub invariant-loop-m : goal.invariant-loop-m
invariant-loop-m l = Spelling l.initial.self (map locals_cells (locals_of (take l.m-index l.methods))) l.rows.items l.self
