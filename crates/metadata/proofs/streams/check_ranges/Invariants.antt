use Rattle.std.proofs.Common.{◌≡◌, drop}
use Rattle.metadata.specs.Streams.{first_outside}
use Rattle.metadata.proofs.streams.check_ranges.Given as goal

abbrev pub invariant-loop-header : goal.invariant-loop-header
invariant-loop-header l = first_outside l.span (drop l.header-index l.headers) ≡ first_outside l.span l.headers
