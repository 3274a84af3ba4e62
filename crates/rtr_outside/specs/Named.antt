-- Files in memory, as the finite map from their names to their bytes.
use Rattle.std.specs.Prelude.{ℕ, Bool, List, map, Option, String, Vec, string_bytes, vec_items}
use Rattle.std.specs.Ordering.{nat_cmp}
use Rattle.std.specs.Cmp.Lexicographic.{slice_cmp}
use Rattle.std.specs.Coded.{Coded, coded_list, coded_ℕ}
use Rattle.std.specs.Global.{Global}
use Rattle.std.specs.Str.{bytes_eq}
use Rattle.std.specs.FinMap.{FinMap, code, get, insert, from_entries}

-- from names to bytes
abbrev pub FileMap : Type 0
FileMap = FinMap (slice_cmp nat_cmp) (List ℕ)

abbrev pub file_map_code : Coded FileMap
file_map_code = code (coded_list coded_ℕ) (coded_list coded_ℕ)

-- the bytes of a name, none where there is no such name
abbrev pub bytes_of : FileMap → List ℕ → Option (List ℕ)
bytes_of files name = get files name

-- the files with these bytes under this name, and all others as they are
abbrev pub with_file : FileMap → List ℕ → List ℕ → FileMap
with_file files name bytes = insert files name bytes

-- a file in memory: its name and its bytes
abbrev pub File : Type 0
File = String Global × Vec ℕ Global

-- the files of a list. Of two with one name the first counts
abbrev pub file_map : List File → FileMap
file_map files = from_entries (map (λ file. (string_bytes file.0, vec_items file.1)) files)

-- whether a file has this name
abbrev pub is_named : List ℕ → File → Bool
is_named name file = bytes_eq name (string_bytes file.0)
