use Rattle.std.proofs.Common.{◌≡◌, ◌++◌, take}
use Rattle.rtr_outside.specs.Text.{printed_name}
use Rattle.rtr_outside.proofs.text.Text.name.Given as goal

abbrev pub invariant-loop-byte : goal.invariant-loop-byte
invariant-loop-byte l = l.self ≡ l.fn.self ++ l.words ++ printed_name (take l.byte-index l.name)
