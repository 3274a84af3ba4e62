-- Sparse arrays (ReadyToRun File Format, "NativeArray").
use Rattle.std.specs.Prelude.{ℕ, ◌+◌, ◌*◌, ◌/◌, ◌%◌, ◌^◌, ◌≤◌, ◌==◌, ◌&&◌, not, Bool, List, [], ◌∷◌, length, Option, Some, None, Result, Ok}
use Rattle.std.specs.Prelude.{Err, nat_le, nat_lt, if◌then◌else◌}
use Rattle.std.specs.Option.{option_and_then}
use Rattle.rtr_bytes.specs.declared.fault.Fault.{Fault}
use Rattle.rtr_bytes.specs.Field.{field_at}
use Rattle.native_format.specs.declared.sparse.Step.{Step}
use Rattle.native_format.specs.declared.sparse.Step.TheVariants as steps
use Rattle.native_format.specs.Uint.{uint_at}

-- An array in bytes: where its block index begins, how many elements it counts, and how many bytes an
-- entry of the index has.
pub record Array : Type 0 where
  pub bytes : List ℕ
  pub index_at : ℕ
  pub count : ℕ
  pub entry_size : ℕ

-- one block for each 16 elements or last part of 16
abbrev pub blocks_of : ℕ → ℕ
blocks_of count = (count + 15) / 16

-- The header is a native integer: the count from bit 2 on, and below it the entry's size, as a power of 2
-- of at most 4 bytes. The index follows, whole.
abbrev pub array_of : List ℕ → ℕ × ℕ → Option Array
array_of bytes (header, index_at) =
    if header % 4 == 3 then None
    else if nat_le (index_at + 2 ^ (header % 4) * blocks_of (header / 4)) (length bytes)
    then Some (record { bytes = bytes; index_at = index_at; count = header / 4; entry_size = 2 ^ (header % 4) })
    else None

unfoldable pub array_at : List ℕ → ℕ → Option Array
array_at bytes at = option_and_then (array_of bytes) (uint_at bytes at)

abbrev pub header_fault : ℕ → Fault
header_fault at = record { check = 63; place = at }

-- what is found of an index: the place of the content, nothing, or a node or entry that is cut or names a
-- place outside, which is a place after the end
abbrev pub Answer : Type 0
Answer = Result (Option ℕ) Fault

abbrev pub broken : {X : Type 0} → ℕ → Result X Fault
broken at = Err (record { check = 64; place = at })

-- Where a node leads that is asked for a bit. Its number has a child for a clear bit, after it, where bit 0
-- is set; one for a set bit, as far from the node's start as the bits from 2 on say, where bit 1 is set; with
-- neither it is a single element, whose number in the block those bits are.
abbrev pub step_of : List ℕ → ℕ → Bool → ℕ → Option (ℕ × ℕ) → Result Step Fault
step_of bytes low bit at None = broken at
step_of bytes low bit at (Some (v, behind)) =
    if bit && (v / 2 % 2 == 1) then (if nat_le (at + v / 4) (length bytes) then Ok (steps.Child (at + v / 4)) else broken at)
    else if not bit && (v % 2 == 1) then Ok (steps.Child behind)
    else if (v % 4 == 0) && (v / 4 == low) then Ok (steps.Content behind)
    else Ok steps.Absent

abbrev pub bit_of : ℕ → ℕ → Bool
bit_of low weight = low / weight % 2 == 1

unfoldable pub step_at : List ℕ → ℕ → ℕ → ℕ → Result Step Fault
step_at bytes low weight at = step_of bytes low (bit_of low weight) at (uint_at bytes at)

-- from a step on
abbrev pub onward : (ℕ → Answer) → Result Step Fault → Answer
onward go (Ok (steps.Child at)) = go at
onward go (Ok (steps.Content at)) = Ok (Some at)
onward go (Ok steps.Absent) = Ok None
onward go (Err fault) = Err fault

-- the path from a node by the bits of these weights of an element's number in its block
unfoldable pub path : List ℕ → ℕ → List ℕ → ℕ → Answer
path bytes low [] at = Ok (Some at)
path bytes low (weight ∷ weights) at = onward (path bytes low weights) (step_at bytes low weight at)

abbrev pub weights : List ℕ
weights = 8 ∷ 4 ∷ 2 ∷ 1 ∷ []

-- an entry of the index is the place of its block, counted from the index's start
abbrev pub entry_place : Array → ℕ → ℕ
entry_place a index = a.index_at + a.entry_size * (index / 16)

abbrev pub in_block : Array → ℕ → Option ℕ → Answer
in_block a index None = broken (entry_place a index)
in_block a index (Some distance) =
    if nat_le (a.index_at + distance) (length a.bytes)
    then path a.bytes (index % 16) weights (a.index_at + distance)
    else broken (entry_place a index)

-- the element of an index
unfoldable pub element_of : Array → ℕ → Answer
element_of a index = if nat_lt index a.count then in_block a index (field_at a.entry_size a.bytes (entry_place a index)) else Ok None

-- a place that is answered is in so many bytes, or is their end
abbrev pub IsWithin : ℕ → Answer → Type 0
IsWithin size (Ok None) = Unit {0}
IsWithin size (Ok (Some place)) = place ≤ size
IsWithin size (Err fault) = fault.place ≤ size
