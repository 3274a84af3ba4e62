-- What the readers of nibble lists answer.
use Rattle.std.specs.Prelude.{◌≡◌, ℕ, ◌+◌, ◌*◌, ◌^◌, ◌<◌, ◌≤◌, List, [], ◌∷◌, length, drop, Option, Some, None, Result, Ok, Err}
use Rattle.std.specs.Option.{option_map}
use Rattle.native_format.specs.declared.nibbles.SlotRef.{SlotRef}
use Rattle.native_format.specs.declared.nibbles.Next.{Next}
use Rattle.native_format.specs.declared.nibbles.Next.TheVariants as next
use Rattle.native_format.specs.declared.nibbles.MalformedList.{MalformedList}
use Rattle.native_format.specs.Nibbles.{nibbles, numbers, numbers_between, numbers_len, slots_behind, slots_of}

-- the numbers from a nibble on
abbrev pub numbers_from : List ℕ → ℕ → List ℕ
numbers_from bytes at = numbers (drop at (nibbles bytes))

-- the number of the nibble after so many numbers from a nibble on
abbrev pub nibble_after : ℕ → List ℕ → ℕ → ℕ
nibble_after k bytes at = at + numbers_len k (drop at (nibbles bytes))

-- how many numbers spell a slot: section and slot of the first one, and else those between the last slot and it
abbrev pub numbers_for : Option SlotRef → SlotRef → ℕ
numbers_for None slot = 2
numbers_for (Some last) slot = length (numbers_between last slot)

-- no number of 32 bits comes first
abbrev pub IsLost : List ℕ → Type 0
IsLost [] = Unit {0}
IsLost (v ∷ ns) = 2 ^ 32 ≤ v

-- a number was read, and the place of the nibble after it
pub record ReadsNumber (bytes : List ℕ) (at v after : ℕ) : Type 0 where
  pub further : at < after
  pub within : after ≤ 2 * length bytes
  pub fits : v < 2 ^ 32
  pub numbers_are : numbers_from bytes at ≡ v ∷ numbers_from bytes after
  pub after_is : after ≡ nibble_after 1 bytes at

-- a slot was read, and what is read of others comes after it
pub record ReadsSlot (bytes : List ℕ) (list : Option (List SlotRef)) (last : Option SlotRef) (at : ℕ) (slot : SlotRef) (after : ℕ)
    : Type 0 where
  pub further : at < after
  pub within : after ≤ 2 * length bytes
  pub list_is : list ≡ option_map (λ slots. slot ∷ slots) (slots_behind slot (numbers_from bytes after))
  pub after_is : after ≡ nibble_after (numbers_for last slot) bytes at

abbrev pub ReadsNext : List ℕ → Option (List SlotRef) → Option SlotRef → ℕ → Option Next → Type 0
ReadsNext bytes list last at None = list ≡ None
ReadsNext bytes list last at (Some (next.End after)) = (list ≡ Some []) × (after ≡ nibble_after 2 bytes at) × (after ≤ 2 * length bytes)
ReadsNext bytes list last at (Some (next.Slot slot after)) = ReadsSlot bytes list last at slot after

-- ---- slot by slot

-- the list that numbers begin with, or what is left of it after a slot
abbrev pub slots_from : Option SlotRef → List ℕ → Option (List SlotRef)
slots_from None ns = slots_of ns
slots_from (Some last) ns = slots_behind last ns

-- how many numbers spell the slots that are left, with the two zeros of the end
abbrev pub numbers_left : Option SlotRef → List SlotRef → ℕ
numbers_left last [] = 2
numbers_left last (slot ∷ slots) = numbers_for last slot + numbers_left (Some slot) slots

-- what a reader has read, and what it has not
pub record Unread : Type 0 where
  -- the slot that was read last
  pub last : Option SlotRef
  -- the nibbles after that slot, and the number of the first of them
  pub stream : List ℕ
  pub place : ℕ
  -- the number of the nibble after all that were read, those of the list's end too
  pub reached : ℕ

-- the slots that are left, none where they are malformed
abbrev pub left : Unread → Option (List SlotRef)
left u = slots_from u.last (numbers u.stream)

-- the number of the nibble after the end of the list, none where what is left is malformed
abbrev pub list_end : Unread → Option ℕ
list_end u = option_map (λ slots. u.place + numbers_len (numbers_left u.last slots) u.stream) (left u)

-- the numbers of a slot were read
abbrev pub after_slot : SlotRef → Unread → Unread
after_slot slot u = record {
  last = Some slot;
  stream = drop (numbers_len (numbers_for u.last slot) u.stream) u.stream;
  place = u.place + numbers_len (numbers_for u.last slot) u.stream;
  reached = u.place + numbers_len (numbers_for u.last slot) u.stream;
}

-- the two zeros of the end were read, and come again
abbrev pub after_end : Unread → Unread
after_end u = record { last = u.last; stream = u.stream; place = u.place; reached = u.place + numbers_len 2 u.stream }

-- The slot that comes next is the first of those that are left, and takes at least one nibble.
pub record GivesNext (slot : SlotRef) (old new : Unread) : Type 0 where
  pub first : left old ≡ option_map (λ slots. slot ∷ slots) (left new)
  pub further : new ≡ after_slot slot old
  pub fewer : length new.stream < length old.stream
  pub same_end : list_end new ≡ list_end old

-- At the end the reader stays but for what it reached, and where what is left is malformed it stays as it was.
abbrev pub GivesSlot : Result (Option SlotRef) MalformedList → Unread → Unread → Type 0
GivesSlot (Ok (Some slot)) old new = GivesNext slot old new
GivesSlot (Ok None) old new = (left old ≡ Some []) × (new ≡ after_end old)
GivesSlot (Err e) old new = (left old ≡ None) × (new ≡ old)
