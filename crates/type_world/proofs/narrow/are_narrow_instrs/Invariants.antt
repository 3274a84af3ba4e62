use Rattle.std.proofs.Common.{◌≡◌, drop}
use Rattle.std.specs.List.{list_all}
use Rattle.type_world.specs.Profile.{is_narrow_instr}
use Rattle.type_world.proofs.narrow.are_narrow_instrs.Given as goal

abbrev pub invariant-loop-instr : goal.invariant-loop-instr
invariant-loop-instr l = list_all is_narrow_instr l.instrs ≡ list_all is_narrow_instr (drop l.instr-index l.instrs)
