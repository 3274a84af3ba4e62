use Rattle.std.proofs.Common.{◌≡◌, ◌-◌}
use Rattle.type_world.specs.Loading.{world_of}
use Rattle.type_world.specs.Profile.{class_within, type_in_profile}
use Rattle.type_world.proofs.classes_in_profile.Classes.type_in_profile.Given as goal

abbrev pub invariant-loop-passed : goal.invariant-loop-passed
invariant-loop-passed l = type_in_profile (world_of l.self) l.fn.of ≡ class_within (64 - l._passed) (world_of l.self) l.class
