use Rattle.std.proofs.Common.{◌≡◌, ◌++◌, take, flat_map}
use Rattle.cli_assembly.specs.Shortest.{type_bytes}
use Rattle.cli_assembly.proofs.writing.put_types.Given as goal

abbrev pub invariant-loop-of : goal.invariant-loop-of
invariant-loop-of l = l.out.items ≡ l.initial.out.items ++ flat_map type_bytes (take l.of-index l.types)
