use Rattle.std.proofs.Common.{◌≡◌, ◌≤◌, length, ◌-◌}
use Rattle.cli_assembly.specs.Types.{types_in}
use Rattle.cli_assembly.proofs.TypeLists.{with_front}
use Rattle.cli_assembly.proofs.reading.types_in.Given as goal

-- the types so far and those of what is left are all
abbrev pub invariant-loop : goal.invariant-loop
invariant-loop l = record {
  found : with_front l.types.items (types_in (l.count - l.counter) l.rest) ≡ types_in l.count l.bytes;
  no_longer : length l.rest ≤ length l.bytes;
}
