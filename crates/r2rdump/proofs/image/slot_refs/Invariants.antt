use Rattle.std.proofs.Common.{◌≡◌, ◌++◌, take}
use Rattle.std.specs.List.{flat_map}
use Rattle.r2rdump.specs.Text.{slot_ref}
use Rattle.r2rdump.proofs.image.slot_refs.Given as goal

abbrev pub invariant-loop-slot : goal.invariant-loop-slot
invariant-loop-slot l = l.text ≡ l.fn.text ++ flat_map slot_ref (take l.slot-index l.slots)
