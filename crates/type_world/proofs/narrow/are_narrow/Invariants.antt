use Rattle.std.proofs.Common.{◌≡◌, drop}
use Rattle.type_world.specs.Profile.{are_narrow}
use Rattle.type_world.proofs.narrow.are_narrow.Given as goal

abbrev pub invariant-loop-place : goal.invariant-loop-place
invariant-loop-place l = are_narrow l.places ≡ are_narrow (drop l.place-index l.places)
