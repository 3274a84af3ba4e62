-- What is written is read back where it is written, whatever is before and after it.
use Rattle.std.specs.Prelude.{◌≡◌, ℕ, ◌+◌, ◌*◌, ◌<◌, ◌≤◌, ◌^◌, List, ◌++◌, length, drop, sum_by, Some}
use Rattle.std.specs.List.{AllByRecursion}
use Rattle.native_format.specs.declared.nibbles.SlotRef.{SlotRef}
use Rattle.native_format.specs.declared.sparse.Element.{Element}
use Rattle.native_format.specs.Nibbles.{FitsWords, IsSlotList, list_at, list_bytes}
use Rattle.native_format.specs.Sparse.{blocks_of}
use Rattle.native_format.specs.SparseBytes.{AreElements, HoldsElements, sparse_bytes}
use Rattle.native_format.specs.Uint.{short_uint, uint_at}

pub record WrittenIsRead : Type 0 where
  pub integers : (value : ℕ) (before rest : List ℕ) → value < 2 ^ 32
      → uint_at (before ++ (short_uint value ++ rest)) (length before) ≡ Some (value, length before + length (short_uint value))
  pub lists : (list : List SlotRef) (bytes rest : List ℕ) (at : ℕ) → IsSlotList list → AllByRecursion FitsWords list
      → drop at bytes ≡ list_bytes list ++ rest → list_at bytes at ≡ Some list
  pub arrays : (count : ℕ) (elements : List Element) (rest : List ℕ) → AreElements 0 count elements
      → length (sparse_bytes count elements) < 2 ^ 24 → HoldsElements (sparse_bytes count elements ++ rest) count elements
  -- an array has its header at least
  pub some : (count : ℕ) (elements : List Element) → 1 ≤ length (sparse_bytes count elements)

-- How long what is written can be, from counts alone.
pub record LengthsAreBounded : Type 0 where
  -- five bytes at most for a native integer
  pub integers : (value : ℕ) → length (short_uint value) ≤ 5
  -- 17 for each slot of a list, and 2 more
  pub lists : (list : List SlotRef) → AllByRecursion FitsWords list → length (list_bytes list) ≤ 17 * length list + 2
  -- 5 for an array, 5 for each of its blocks, and 20 for each element beside its content
  pub arrays : (count : ℕ) (elements : List Element)
      → length (sparse_bytes count elements) ≤ 5 + 5 * blocks_of count + sum_by (λ e. 20 + length e.content) elements
