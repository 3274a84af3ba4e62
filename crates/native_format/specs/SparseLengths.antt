-- How long a written sparse array is, and where its contents are, from the lengths of the contents alone.
use Rattle.std.specs.Prelude.{◌≡◌, ℕ, ◌+◌, ◌-◌, ◌*◌, ◌/◌, ◌%◌, ◌<◌, ◌^◌, ◌==◌, min, Bool, List, [], ◌∷◌, length, map, take, drop, get_or}
use Rattle.std.specs.Prelude.{sum_by, Option, Some, None, Ok, nat_lt, if◌then◌else◌, unwrap_or}
use Rattle.std.specs.List.{range_with_len}
use Rattle.std.specs.Option.{option_map}
use Rattle.native_format.specs.declared.sparse.Element.{Element}
use Rattle.native_format.specs.Uint.{short_uint}
use Rattle.native_format.specs.Sparse.{Array, array_at, bit_of, blocks_of, element_of, weights}
use Rattle.native_format.specs.SparseBytes.{StandsAt, content_by_index, fork_number}

-- a number as u64 counts it, which stops at its last value
abbrev pub capped : ℕ → ℕ
capped n = min n (2 ^ 64 - 1)

-- ---- contents by their lengths

-- the index of each element, ascending, and the length of its content
abbrev pub Lengths : Type 0
Lengths = List (ℕ × ℕ)

abbrev pub length_of : Element → ℕ × ℕ
length_of e = (e.index, length e.content)

abbrev pub lengths_of : List Element → Lengths
lengths_of elements = map length_of elements

-- the length of the content of an index
unfoldable pub length_at : Lengths → ℕ → Option ℕ
length_at [] index = None
length_at (e ∷ es) index = if e.0 == index then Some e.1 else length_at es index

-- those of n indexes from a first one on
unfoldable pub lengths_from : Lengths → ℕ → ℕ → List (Option ℕ)
lengths_from lengths first n = map (length_at lengths) (range_with_len first n)

-- ---- lengths

-- the number of a node with two children, of which the first has so many bytes
unfoldable pub fork_len : ℕ → ℕ
fork_len low = length (short_uint (fork_number low))

-- a node's own bytes, by the lengths of the trees of its clear and its set bit
abbrev pub head_len : Option ℕ → Option ℕ → ℕ
head_len None None = 0
head_len (Some low) None = 1
head_len None (Some high) = 1
head_len (Some low) (Some high) = fork_len low

-- and with those trees
abbrev pub node_len : Option ℕ → Option ℕ → Option ℕ
node_len None None = None
node_len (Some low) None = Some (1 + low)
node_len None (Some high) = Some (1 + high)
node_len (Some low) (Some high) = Some (fork_len low + (low + high))

-- the tree over the contents of as many indexes in a row as its weights tell apart; none without an element
unfoldable pub tree_len : List ℕ → List (Option ℕ) → Option ℕ
tree_len [] slots = get_or slots 0 None
tree_len (weight ∷ lower) slots = node_len (tree_len lower (take weight slots)) (tree_len lower (drop weight slots))

-- a block, of one byte where it is empty
abbrev pub block_len : List (Option ℕ) → ℕ
block_len slots = unwrap_or (tree_len weights slots) 1

abbrev pub block_at : Lengths → ℕ → List (Option ℕ)
block_at lengths k = lengths_from lengths (16 * k) 16

-- the first n blocks
unfoldable pub blocks_len : Lengths → ℕ → ℕ
blocks_len lengths n = sum_by (λ k. block_len (block_at lengths k)) (range_with_len 0 n)

-- what is before the blocks: the header, and an index of four bytes a block
abbrev pub front_len : ℕ → ℕ
front_len count = length (short_uint (4 * count + 2)) + 4 * blocks_of count

-- the whole array
unfoldable pub sparse_len : ℕ → Lengths → ℕ
sparse_len count lengths = front_len count + blocks_len lengths (blocks_of count)

-- ---- places

-- the place of the tree of a bit, from its node's start
abbrev pub child_at : Bool → Option ℕ → Option ℕ → ℕ
child_at bit low high = head_len low high + (if bit then unwrap_or low 0 else 0)

-- the place of the content of an element's number in its block, from the start of a tree over these slots
unfoldable pub place_in : List ℕ → ℕ → List (Option ℕ) → Option ℕ
place_in [] low slots = option_map (λ _. 0) (get_or slots 0 None)
place_in (weight ∷ lower) low slots =
    option_map (λ place. child_at (bit_of low weight) (tree_len lower (take weight slots)) (tree_len lower (drop weight slots)) + place)
    (place_in lower low (if bit_of low weight then drop weight slots else take weight slots))

-- the place of the content of an index, from the array's start; none where no element has it
unfoldable pub content_place : ℕ → Lengths → ℕ → Option ℕ
content_place count lengths index =
    if nat_lt index count
    then option_map (λ place. front_len count + blocks_len lengths (index / 16) + place)
    (place_in weights (index % 16) (block_at lengths (index / 16)))
    else None

-- bytes that begin with an array of this count have each content at its place, and nothing of another index
pub record HoldsPlaced (bytes : List ℕ) (count : ℕ) (elements : List Element) : Type 0 where
  pub array : Array
  pub is_there : array_at bytes 0 ≡ Some array
  pub found : (index : ℕ) → element_of array index ≡ Ok (content_place count (lengths_of elements) index)
  pub stands : (index place : ℕ) → content_place count (lengths_of elements) index ≡ Some place
      → (content : List ℕ) × (content_by_index elements index ≡ Some content) × StandsAt bytes place content

-- ---- an array's length, added up element by element

-- What is kept: the count, the least index that may come next, the number of the block of the last element, the bytes of the
-- blocks before it, and the lengths of the contents of its elements so far.
pub record Measure : Type 0 where
  pub count : ℕ
  pub next : ℕ
  pub block : ℕ
  pub before : ℕ
  pub slots : List (Option ℕ)

-- each index of these is below one
abbrev pub AreBelow : ℕ → Lengths → Type 0
AreBelow limit [] = Unit {0}
AreBelow limit (e ∷ es) = (e.0 < limit) × AreBelow limit es

-- these contents of an array of this count were added
pub record Measures (measure : Measure) (count : ℕ) (lengths : Lengths) : Type 0 where
  pub count_is : measure.count ≡ count
  pub none_later : AreBelow measure.next lengths
  pub before_is : measure.before ≡ capped (blocks_len lengths measure.block)
  pub slots_are : measure.slots ≡ map (option_map capped) (block_at lengths measure.block)
