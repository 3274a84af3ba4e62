-- The bytes of a sparse array as the writer lays them out: entries of four bytes, whole trees, and the node
-- 64 for an empty block.
use Rattle.std.specs.Prelude.{◌≡◌, ℕ, ◌+◌, ◌*◌, ◌<◌, ◌≤◌, ◌^◌, ◌==◌, List, [], ◌∷◌, ◌++◌, length, map, take, drop, get_or, Option, Some}
use Rattle.std.specs.Prelude.{None, Ok, nat_lt, if◌then◌else◌, unwrap_or}
use Rattle.std.specs.List.{range_with_len, flat_map}
use Rattle.byteorder.specs.Endian.{little_bytes}
use Rattle.native_format.specs.declared.sparse.Element.{Element}
use Rattle.native_format.specs.Uint.{short_uint}
use Rattle.native_format.specs.Sparse.{Array, Answer, array_at, blocks_of, element_of, weights}

-- elements whose indexes ascend from a least one on and stay below the count
abbrev pub AreElements : ℕ → ℕ → List Element → Type 0
AreElements least count [] = Unit {0}
AreElements least count (e ∷ es) = (least ≤ e.index) × (e.index < count) × AreElements (e.index + 1) count es

-- the content of the element of an index
unfoldable pub content_by_index : List Element → ℕ → Option (List ℕ)
content_by_index [] index = None
content_by_index (e ∷ es) index = if e.index == index then Some e.content else content_by_index es index

-- ---- what the bytes hold

-- a content is at a place
pub record StandsAt (bytes : List ℕ) (place : ℕ) (content : List ℕ) : Type 0 where
  pub front : List ℕ
  pub behind : List ℕ
  pub place_is : place ≡ length front
  pub bytes_are : bytes ≡ front ++ (content ++ behind)

-- an answer finds the content where there is one, and nothing where there is none
abbrev pub Finds : List ℕ → Answer → Option (List ℕ) → Type 0
Finds bytes answer None = answer ≡ Ok None
Finds bytes answer (Some content) = (place : ℕ) × (answer ≡ Ok (Some place)) × StandsAt bytes place content

-- the bytes begin with an array of this count that has exactly these elements
pub record HoldsElements (bytes : List ℕ) (count : ℕ) (elements : List Element) : Type 0 where
  pub array : Array
  pub is_there : array_at bytes 0 ≡ Some array
  pub count_is : array.count ≡ count
  pub each : (index : ℕ) → Finds bytes (element_of array index) (content_by_index elements index)

-- ---- a block's tree

-- The number of a node with both children: the distance to the second counts the node's own bytes, which are
-- as few as hold it.
abbrev pub fork_in : ℕ → ℕ → ℕ
fork_in low n = 4 * (n + low) + 3

unfoldable pub fork_number : ℕ → ℕ
fork_number low =
    if nat_lt (fork_in low 1) (2 ^ 7) then fork_in low 1
    else if nat_lt (fork_in low 2) (2 ^ 14) then fork_in low 2
    else if nat_lt (fork_in low 3) (2 ^ 21) then fork_in low 3
    else fork_in low 4

-- a node above the trees of its clear and its set bit
abbrev pub node : Option (List ℕ) → Option (List ℕ) → Option (List ℕ)
node None None = None
node (Some low) None = Some (short_uint 1 ++ low)
node None (Some high) = Some (short_uint 6 ++ high)
node (Some low) (Some high) = Some (short_uint (fork_number (length low)) ++ (low ++ high))

-- the tree over the contents of as many indexes in a row as its weights tell apart; none without an element
unfoldable pub tree : List ℕ → List (Option (List ℕ)) → Option (List ℕ)
tree [] slots = get_or slots 0 None
tree (weight ∷ lower) slots = node (tree lower (take weight slots)) (tree lower (drop weight slots))

-- ---- the whole

-- the contents of n indexes from a first one on
unfoldable pub slots_from : List Element → ℕ → ℕ → List (Option (List ℕ))
slots_from elements first n = map (content_by_index elements) (range_with_len first n)

abbrev pub block_bytes : List (Option (List ℕ)) → List ℕ
block_bytes slots = unwrap_or (tree weights slots) (short_uint 64)

abbrev pub block : List Element → ℕ → List ℕ
block elements k = block_bytes (slots_from elements (16 * k) 16)

abbrev pub blocks : List Element → ℕ → List (List ℕ)
blocks elements n = map (block elements) (range_with_len 0 n)

abbrev pub joined : List (List ℕ) → List ℕ
joined bs = flat_map (λ b. b) bs

-- an entry for each block: its place, the first being at a given one
unfoldable pub index_bytes : ℕ → List (List ℕ) → List ℕ
index_bytes at [] = []
index_bytes at (b ∷ bs) = little_bytes 4 at ++ index_bytes (at + length b) bs

unfoldable pub sparse_bytes : ℕ → List Element → List ℕ
sparse_bytes count elements =
    let n = blocks_of count in
    let bs = blocks elements n in
    short_uint (4 * count + 2) ++ (index_bytes (4 * n) bs ++ joined bs)
