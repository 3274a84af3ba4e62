use Rattle.std.proofs.Common.{◌≡◌, ◌++◌, ◌<◌, ◌^◌, drop, take, All}
use Rattle.std.specs.List.{flat_map}
use Rattle.rtr_sections.specs.Parts.{import_bytes}
use Rattle.rtr_sections.proofs.pieces.put_imports.Given as goal

abbrev pub invariant-loop-import : goal.invariant-loop-import
invariant-loop-import l = record {
  -- what was put and what is left are all
  put : l.out.items ++ flat_map import_bytes (drop l.import-index l.imports) ≡ l.initial.out.items ++ flat_map import_bytes l.imports;
  flags : All (λ i. i.flags < 2 ^ 16) (take l.import-index l.imports);
}
