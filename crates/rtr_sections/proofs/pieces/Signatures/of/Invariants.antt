use Rattle.std.proofs.Common.{◌≡◌, ◌+◌, ◌++◌, length, drop}
use Rattle.rtr_sections.specs.Parts.{signature_bytes_of, signature_rvas, words}
use Rattle.rtr_sections.proofs.pieces.Signatures.of.Given as goal

abbrev pub invariant-loop-slot : goal.invariant-loop-slot
invariant-loop-slot l =
    let left = drop l.slot-index l.slots in
    record {
      -- what was written and what is left are all
      bytes : l.bytes.items ++ signature_bytes_of left ≡ signature_bytes_of l.slots;
      rvas : l.rvas.items ++ words (signature_rvas (l.first + length l.bytes.items) left) ≡ words (signature_rvas l.first l.slots);
    }
