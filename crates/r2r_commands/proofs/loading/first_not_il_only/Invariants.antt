use Rattle.std.proofs.Common.{◌≡◌}
use Rattle.r2r_commands.specs.RunRefusals.{not_il_only, not_il_only_by}
use Rattle.r2r_commands.specs.Loaded.{first_of}
use Rattle.r2r_commands.proofs.EachFile.{left, texts}
use Rattle.r2r_commands.proofs.loading.first_not_il_only.Given as goal

-- the first is among those that are left
abbrev pub invariant-loop-i : goal.invariant-loop-i
invariant-loop-i l =
    first_of (not_il_only (texts l.names) l.assemblies) ≡ first_of (left not_il_only_by (texts l.names) l.assemblies l.i)
