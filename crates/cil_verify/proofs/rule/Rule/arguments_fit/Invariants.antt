use Rattle.std.proofs.Common.{◌≡◌, ◌-◌, [], take, drop, length}
use Rattle.type_world.specs.Loading.{world_of}
use Rattle.cil_meaning.specs.Typing.{last_first, under_arguments}
use Rattle.cil_verify.proofs.rule.Rule.arguments_fit.Given as goal

abbrev pub invariant-loop-i : goal.invariant-loop-i
invariant-loop-i l =
    under_arguments (world_of l.self.world.now) (last_first (take (length l.arguments - l.i) l.arguments) []) (drop l.i l.stack)
    ≡ under_arguments (world_of l.self.world.now) (last_first l.arguments []) l.stack
