-- What the parts of the writer of sparse arrays ask and answer.
use Rattle.std.specs.Prelude.{◌≡◌, ℕ, ◌*◌, ◌<◌, ◌≤◌, ◌^◌, List, [], ◌∷◌, length, map, Option, Some, None}
use Rattle.std.specs.Option.{option_copied}
use denote.Ref.{Bor}
use Rattle.native_format.specs.declared.sparse.Element.{Element}
use Rattle.native_format.specs.Uint.{short_uint}
use Rattle.native_format.specs.SparseBytes.{content_by_index, fork_number}

-- as many slots as the weights tell apart
abbrev pub AreSlots : List ℕ → ℕ → Type 0
AreSlots [] n = n ≡ 1
AreSlots (weight ∷ lower) n = (n ≡ 2 * weight) × AreSlots lower weight

abbrev pub IsSmall : Option (List ℕ) → Type 0
IsSmall None = Unit {0}
IsSmall (Some bytes) = length bytes < 2 ^ 24

abbrev pub IsShort : Option ℕ → Type 0
IsShort None = Unit {0}
IsShort (Some n) = n < 2 ^ 24

-- the contents that slots lend
abbrev pub contents : List (Option (Bor (List ℕ))) → List (Option (List ℕ))
contents slots = map option_copied slots

-- a node's own bytes, by the lengths of the trees below
abbrev pub head_of_node : Option ℕ → Option ℕ → List ℕ
head_of_node None None = []
head_of_node (Some low) None = short_uint 1
head_of_node None (Some high) = short_uint 6
head_of_node (Some low) (Some high) = short_uint (fork_number low)

-- the contents are the same from an index on
abbrev pub SameFrom : ℕ → List Element → List Element → Type 0
SameFrom least before after = (index : ℕ) → least ≤ index → content_by_index after index ≡ content_by_index before index
