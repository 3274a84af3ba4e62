use Rattle.std.proofs.Common.{◌≡◌, ◌≤◌, length, take}
use Rattle.r2rdump.specs.Text.{trimmed}
use Rattle.r2rdump.proofs.text.without_padding.Given as goal

abbrev pub invariant-loop-len : goal.invariant-loop-len
invariant-loop-len l = (l.len ≤ length l.name) × (trimmed (take l.len l.name) ≡ trimmed l.name)

abbrev pub decreases-loop-len : goal.decreases-loop-len
decreases-loop-len l = l.len
