use Rattle.std.proofs.Common.{◌≡◌, [], drop}
use Rattle.metadata.specs.Streams.{first_repeated}
use Rattle.metadata.proofs.streams.check_names.Given as goal

abbrev pub invariant-loop-header : goal.invariant-loop-header
invariant-loop-header l = first_repeated l.names (drop l.header-index l.headers) ≡ first_repeated [] l.headers
