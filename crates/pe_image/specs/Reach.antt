-- What a reader of the headers keeps of the places that it exposes: each is a file offset of 32 bits.
use Rattle.std.specs.Prelude.{◌+◌, ◌^◌, ◌<◌}
use Rattle.rtr_bytes.specs.declared.fault.Span.{Span}

-- the range ends at a file offset of 32 bits
abbrev pub EndsInReach : Span → Type 0
EndsInReach s = s.start + s.len < 2 ^ 32
