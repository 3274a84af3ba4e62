use Rattle.std.proofs.Common.{◌≡◌, ◌≤◌, length, ◌-◌}
use Rattle.cli_assembly.specs.Types.{after_items, after_number}
use Rattle.cli_assembly.proofs.shape.after_numbers.Given as goal

abbrev pub invariant-loop : goal.invariant-loop
invariant-loop l = record {
  after : after_items after_number (l.count - l.counter) l.rest ≡ after_items after_number l.count l.bytes;
  no_longer : length l.rest ≤ length l.bytes;
}
