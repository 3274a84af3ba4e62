use Rattle.std.proofs.Common.{◌≡◌, take, map}
use Rattle.rtr_sections.specs.Parts.{span_of_cells}
use Rattle.rtr_sections.proofs.written.cell_spans.Given as goal

abbrev pub invariant-loop-import : goal.invariant-loop-import
invariant-loop-import l = l.spans.items ≡ map span_of_cells (take l.import-index l.imports)
