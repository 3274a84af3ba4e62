use Rattle.std.proofs.Common.{◌≡◌, length, take}
use Rattle.native_format.specs.SparseLengths.{capped}
use Rattle.rtr_sections.specs.Parts.{signature_bytes_of}
use Rattle.rtr_sections.proofs.length.signatures_len.Given as goal

abbrev pub invariant-loop-slot : goal.invariant-loop-slot
invariant-loop-slot l = l.length ≡ capped (length (signature_bytes_of (take l.slot-index l.slots)))
