-- Files that never fail.
use Rattle.std.specs.Prelude.{ℕ, List, [], unwrap_or}
use Rattle.rtr_outside.specs.Named.{FileMap, bytes_of}

-- the bytes that are read of a name: an empty file where there is no such name
abbrev pub read_of : FileMap → List ℕ → List ℕ
read_of files name = unwrap_or (bytes_of files name) []
