use Rattle.std.proofs.Common.{map, take}
use Rattle.asm_builder.specs.Cells.{member_ref_cells}
use Rattle.asm_builder.proofs.Spelled.{Spelling}
use Rattle.asm_builder.proofs.content.Heaps.member_refs.Given as goal

abbrev pub invariant-loop-m : goal.invariant-loop-m
invariant-loop-m l = Spelling l.initial.self (map member_ref_cells (take l.m-index l.members)) l.rows.items l.self
