use Rattle.std.proofs.Common.{◌≡◌, ◌<◌, drop}
use Rattle.type_world.specs.NameNumbers.{number_from}
use Rattle.type_world.proofs.name_numbers.number_from.Given as goal

abbrev pub invariant-loop-byte : goal.invariant-loop-byte
invariant-loop-byte l = (number_from l.start l.bytes ≡ number_from l.number (drop l.byte-index l.bytes)) × (l.number < 16777213)
