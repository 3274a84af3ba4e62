use Rattle.std.proofs.Common.{◌≡◌, ◌++◌, drop}
use Rattle.std.specs.List.{flat_map}
use Rattle.pe_image.specs.Places.{placed_from, end_from}
use Rattle.pe_image.specs.Pieces.{section_bytes}
use Rattle.pe_image.proofs.written.put_table.Given as goal

abbrev pub invariant-loop-section : goal.invariant-loop-section
invariant-loop-section l =
    let left = drop l.section-index l.sections in
    record {
      -- what was put and what is left are all
      put : l.out.items ++ flat_map section_bytes (placed_from l.at left) ≡ l.initial.out.items ++ flat_map section_bytes
          (placed_from l.first l.sections);
      -- what is left ends where all does
      end : end_from l.at left ≡ end_from l.first l.sections;
    }
