use Rattle.std.proofs.Common.{◌≡◌, map}
use Rattle.std.specs.List.{range_with_len}
use Rattle.metadata.specs.Tables.{rows_of}
use Rattle.cli_assembly.specs.Assemblies.{placed_in}
use Rattle.cli_assembly.specs.Checks.{malformed_header, unplaced_body}
use Rattle.cli_assembly.proofs.FirstOf.{Reading}
use Rattle.cli_assembly.proofs.bodies.read_bodies.Given as goal

abbrev pub invariant-loop-index : goal.invariant-loop-index
invariant-loop-index l =
    Reading (unplaced_body l.bytes l.metadata) (malformed_header l.bytes l.metadata) (rows_of l.metadata 6) l.index l.malformed
    × (l.bodies.items ≡ map (placed_in l.bytes l.metadata) (range_with_len 1 l.index))
