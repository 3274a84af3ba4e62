use Rattle.std.proofs.Common.{◌≡◌, ◌++◌, take, map, nat_le, ◌&&◌, if◌then◌else◌}
use Rattle.r2rdump.proofs.text.section_name.Given as goal

abbrev pub invariant-loop-byte : goal.invariant-loop-byte
invariant-loop-byte l =
    l.text ≡ l.fn.text ++ map (λ b. if nat_le 0x21 b && nat_le b 0x7E then b else 0x3F) (take l.byte-index l.byte-items)
