use Rattle.std.proofs.Common.{◌≡◌, drop}
use Rattle.type_world.specs.Loading.{world_of}
use Rattle.type_world.specs.Profile.{places_of}
use Rattle.type_world.proofs.PlaceLists.{after}
use Rattle.type_world.proofs.types.Types.then_places.Given as goal

abbrev pub invariant-loop-sig : goal.invariant-loop-sig
invariant-loop-sig l =
    after l.fn.places.items (places_of (world_of l.self) l.asm l.sigs)
    ≡ after l.all.items (places_of (world_of l.self) l.asm (drop l.sig-index l.sigs))
