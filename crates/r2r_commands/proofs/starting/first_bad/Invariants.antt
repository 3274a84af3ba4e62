use Rattle.std.proofs.Common.{◌≡◌, map, vec_items}
use Rattle.type_world.specs.Loading.{world_of}
use Rattle.r2r_commands.specs.RunRefusals.{bad_arguments}
use Rattle.r2r_commands.specs.Loaded.{first_of}
use Rattle.r2r_commands.proofs.Starts.{left}
use Rattle.r2r_commands.proofs.starting.first_bad.Given as goal

-- the first is among those that are left
abbrev pub invariant-loop-i : goal.invariant-loop-i
invariant-loop-i l =
    first_of (bad_arguments (world_of l.world) l.entry 0 (map vec_items l.workers))
    ≡ first_of (left (world_of l.world) l.entry (map vec_items l.workers) l.i)
