use Rattle.std.proofs.Common.{◌≡◌, map, take, vec_items}
use Rattle.r2rdump.specs.Dump.{file_fault}
use Rattle.r2r_commands.specs.Ending.{malformed, malformed_by}
use Rattle.r2r_commands.proofs.EachFile.{left, texts}
use Rattle.r2r_commands.proofs.checked.checked_files.Given as goal

-- the files so far have no fault
abbrev pub invariant-loop-i : goal.invariant-loop-i
invariant-loop-i l = record {
  made : l.assemblies.items ≡ take l.i (map vec_items l.files);
  left : malformed (texts l.names) (map vec_items l.files)
      ≡ left (λ name bytes. malformed_by name (file_fault bytes)) (texts l.names) (map vec_items l.files) l.i;
}
