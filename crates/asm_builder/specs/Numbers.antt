-- Numbers in a row, each in so many bytes, lowest byte first.
use Rattle.std.specs.Prelude.{ℕ, Bool, List, nat_le}
use Rattle.std.specs.List.{flat_map, list_all}
use Rattle.byteorder.specs.Endian.{little_bytes}
use Rattle.asm_builder.specs.declared.headers.Number.{Number}

abbrev pub numbers_bytes : List Number → List ℕ
numbers_bytes numbers = flat_map (λ (n : Number). little_bytes n.width n.value) numbers

-- none has more than eight
abbrev pub are_narrow : List Number → Bool
are_narrow numbers = list_all (λ (n : Number). nat_le n.width 8) numbers
