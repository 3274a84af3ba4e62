-- The definitions on examples, which compute.
use Rattle.std.proofs.Common.{◌≡◌, ℕ, List, [], ◌∷◌, Some, refl}
use Rattle.std.specs.Prelude.{◌==◌, map, if◌then◌else◌}
use Rattle.std.specs.List.{range_with_len}
use Rattle.cli_assembly.specs.Assemblies.{Assembly, column, methods_of}
use Rattle.r2rdump.specs.Dump.{dump_checks, file_fault}

-- an empty file
no_bytes : file_fault [] ≡ Some (record { check = 1; place = 0 })
unfolding dump_checks
no_bytes = refl

-- a class A.C with a static method F of int32(int32), and a class D whose methods G and H are after it; G has no signature
abbrev types : List (List ℕ)
types = (1 ∷ 3 ∷ 1 ∷ 0 ∷ 1 ∷ 1 ∷ []) ∷ (1 ∷ 9 ∷ 0 ∷ 0 ∷ 1 ∷ 2 ∷ []) ∷ []

abbrev methods : List (List ℕ)
methods = (0 ∷ 0 ∷ 0x96 ∷ 5 ∷ 1 ∷ 1 ∷ []) ∷ (0 ∷ 0 ∷ 0 ∷ 7 ∷ 0 ∷ 1 ∷ []) ∷ (0 ∷ 0 ∷ 0 ∷ 11 ∷ 1 ∷ 1 ∷ []) ∷ []

abbrev assemblies : List (List ℕ)
assemblies = (0 ∷ 0 ∷ 0 ∷ 0 ∷ 0 ∷ 0 ∷ 0 ∷ 1 ∷ 0 ∷ []) ∷ []

abbrev table : ℕ → List (List ℕ)
table n = if n == 0x02 then types else if n == 0x06 then methods else if n == 0x20 then assemblies else []

abbrev two_classes : Assembly
two_classes = record {
  tables = map table (range_with_len 0 64);
  strings = 0 ∷ 0x41 ∷ 0 ∷ 0x43 ∷ 0 ∷ 0x46 ∷ 0 ∷ 0x47 ∷ 0 ∷ 0x44 ∷ 0 ∷ 0x48 ∷ 0 ∷ [];
  user_strings = [];
  guids = [];
  blobs = 0 ∷ 4 ∷ 0 ∷ 1 ∷ 8 ∷ 8 ∷ [];
  bodies = [];
  flags = 1;
  entry_token = 0;
}

own_methods : (methods_of two_classes 1 ≡ 1 ∷ []) × (methods_of two_classes 2 ≡ 2 ∷ 3 ∷ [])
unfolding methods_of column
own_methods = (refl, refl)
