use Rattle.std.proofs.Common.{◌≡◌, ◌≤◌, ◌*◌, length, take}
use Rattle.std.specs.List.{flat_map}
use Rattle.cli_assembly.specs.Shortest.{type_bytes}
use Rattle.asm_builder.proofs.room.types_len.Given as goal

abbrev pub invariant-loop-of : goal.invariant-loop-of
invariant-loop-of l = (l.len ≡ length (flat_map type_bytes (take l.of-index l.types))) × (l.len ≤ 5 * l.of-index)
