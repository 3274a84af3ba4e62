use Rattle.std.proofs.Common.{◌≡◌, ◌≤◌, map, length, take, vec_items}
use Rattle.r2r_commands.specs.Reading.{AreRead, most_files}
use Rattle.r2r_commands.proofs.inputs.read_inputs.Given as goal

abbrev pub invariant-loop-name : goal.invariant-loop-name
invariant-loop-name g l = record {
  most : length l.names ≤ most_files;
  failed : g.F.Files.failed_calls l.files ≡ g.F.Files.failed_calls l.fn.files;
  contents : g.F.Files.contents l.files ≡ g.F.Files.contents l.fn.files;
  -- the files before this one were read
  read : AreRead (g.F.Files.contents l.fn.files) (take l.name-index (map (λ name. name.now) l.names)) (map vec_items l.inputs.items);
}
