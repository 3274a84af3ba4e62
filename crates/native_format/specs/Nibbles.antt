-- Lists of import slots, as streams of nibbles (ReadyToRun File Format, "Fixups").
use Rattle.std.specs.Prelude.{◌≡◌, ℕ, zero, suc, ◌+◌, ◌*◌, ◌-◌, ◌/◌, ◌%◌, ◌^◌, ◌<◌, ◌⊎◌, ◌==◌, ◌&&◌, Bool}
use Rattle.std.specs.Prelude.{List, [], ◌∷◌, ◌++◌, map, drop, length}
use Rattle.std.specs.Prelude.{Option, Some, None, Result, Ok, Err, nat_lt, if◌then◌else◌}
use Rattle.std.specs.List.{flat_map}
use Rattle.std.specs.Option.{option_map}
use Rattle.std.specs.Int.Digits.{digits_of}
use Rattle.std.specs.Global.{Vec}
use Rattle.native_format.specs.declared.nibbles.SlotRef.{SlotRef}
use Rattle.native_format.specs.declared.nibbles.ListRefusal.{ListRefusal}
use Rattle.native_format.specs.declared.nibbles.ListRefusal.TheVariants as refusals

-- the nibbles of bytes, the low one of each first
unfoldable pub nibbles : List ℕ → List ℕ
nibbles [] = []
nibbles (b ∷ bytes) = (b % 16) ∷ (b / 16) ∷ nibbles bytes

-- The whole numbers in a stream of nibbles. A nibble has three bits of a number, the highest first, and
-- bit 3 says that more of the number follows. A number that the stream cuts off is none.
unfoldable pub numbers_after : ℕ → List ℕ → List ℕ
numbers_after high [] = []
numbers_after high (n ∷ ns) = if nat_lt n 8 then (8 * high + n) ∷ numbers_after 0 ns else numbers_after (8 * high + (n - 8)) ns

abbrev pub numbers : List ℕ → List ℕ
numbers ns = numbers_after 0 ns

-- How many nibbles the first k numbers of a stream have: those up to the k-th that has no bit 3.
unfoldable pub numbers_len : ℕ → List ℕ → ℕ
numbers_len zero ns = 0
numbers_len (suc k) [] = 0
numbers_len (suc k) (n ∷ ns) = 1 + numbers_len (if nat_lt n 8 then k else suc k) ns

-- The numbers between a slot and the next: in one section how far the next slot is above the last one;
-- else 0, how far the next section is above the last one, and its first slot.
abbrev pub numbers_between : SlotRef → SlotRef → List ℕ
numbers_between last next =
    if next.section == last.section then (next.slot - last.slot) ∷ [] else 0 ∷ (next.section - last.section) ∷ next.slot ∷ []

-- the numbers after a slot; the list ends with 0 for the next slot and 0 for the next section
unfoldable pub numbers_after_slot : SlotRef → List SlotRef → List ℕ
numbers_after_slot last [] = 0 ∷ 0 ∷ []
numbers_after_slot last (next ∷ others) = numbers_between last next ++ numbers_after_slot next others

-- the first section and slot as they are, and then the others
unfoldable pub numbers_of : List SlotRef → List ℕ
numbers_of [] = []
numbers_of (r ∷ rs) = r.section ∷ r.slot ∷ numbers_after_slot r rs

-- one slot comes before another: by section, and then by slot
abbrev pub Precedes : SlotRef → SlotRef → Type 0
Precedes a b = (a.section < b.section) ⊎ ((a.section ≡ b.section) × (a.slot < b.slot))

abbrev pub AscendFrom : SlotRef → List SlotRef → Type 0
AscendFrom last [] = Unit {0}
AscendFrom last (r ∷ rs) = Precedes last r × AscendFrom r rs

-- a list that has a spelling: not empty, and strictly ascending
abbrev pub IsSlotList : List SlotRef → Type 0
IsSlotList [] = ⊥
IsSlotList (r ∷ rs) = AscendFrom r rs

abbrev pub FitsWords : SlotRef → Type 0
FitsWords r = (r.section < 2 ^ 32) × (r.slot < 2 ^ 32)

-- the bytes begin with nibbles that spell the list
pub record BeginsWithList (bytes : List ℕ) (list : List SlotRef) : Type 0 where
  pub ascending : IsSlotList list
  pub behind : List ℕ
  pub spelled : numbers (nibbles bytes) ≡ numbers_of list ++ behind

-- ---- the list that numbers begin with, as a function of them

abbrev pub fits_words : SlotRef → Bool
fits_words r = nat_lt r.section (2 ^ 32) && nat_lt r.slot (2 ^ 32)

abbrev pub with_first : SlotRef → Option (List SlotRef) → Option (List SlotRef)
with_first r others = if fits_words r then option_map (λ rs. r ∷ rs) others else None

abbrev pub at_slot : ℕ → ℕ → SlotRef
at_slot section slot = record { section = section; slot = slot }

unfoldable pub slots_behind : SlotRef → List ℕ → Option (List SlotRef)
slots_behind last [] = None
slots_behind last (zero ∷ []) = None
slots_behind last (zero ∷ zero ∷ ns) = Some []
slots_behind last (zero ∷ suc d ∷ []) = None
slots_behind last (zero ∷ suc d ∷ slot ∷ ns) =
    with_first (at_slot (last.section + suc d) slot) (slots_behind (at_slot (last.section + suc d) slot) ns)
slots_behind last (suc d ∷ ns) =
    with_first (at_slot last.section (last.slot + suc d)) (slots_behind (at_slot last.section (last.slot + suc d)) ns)

unfoldable pub slots_of : List ℕ → Option (List SlotRef)
slots_of [] = None
slots_of (section ∷ []) = None
slots_of (section ∷ slot ∷ ns) = with_first (at_slot section slot) (slots_behind (at_slot section slot) ns)

-- the list at a place; none where it is cut, or a number or a sum passes 32 bits
abbrev pub list_at : List ℕ → ℕ → Option (List SlotRef)
list_at bytes at = slots_of (numbers (nibbles (drop at bytes)))

-- how many nibbles the list at a place has, the two zeros of its end and all leading zero groups too
abbrev pub list_nibbles : List ℕ → ℕ → Option ℕ
list_nibbles bytes at = option_map (λ list. numbers_len (length (numbers_of list)) (nibbles (drop at bytes))) (list_at bytes at)

-- what a reader answered is the list that is there, or that there is none, unless memory ran out
abbrev pub Refuses : ListRefusal → Option (List SlotRef) → Type 0
Refuses refusals.Malformed list = list ≡ None
Refuses refusals.NoMemory list = Unit {0}

abbrev pub GivesList : Result (Vec SlotRef) ListRefusal → Option (List SlotRef) → Type 0
GivesList (Ok v) list = list ≡ Some v.items
GivesList (Err e) list = Refuses e list

-- ---- the writer's spelling

-- the fewest groups of a number: its octal digits, 8 added to each but the last
unfoldable pub groups : ℕ → List ℕ
groups v = map (λ d. 8 + d) (digits_of 8 (v / 8)) ++ (v % 8) ∷ []

-- nibbles in bytes, the low one first; the rest of the last byte is 0
unfoldable pub packed : List ℕ → List ℕ
packed [] = []
packed (low ∷ []) = low ∷ []
packed (low ∷ high ∷ ns) = (low + 16 * high) ∷ packed ns

abbrev pub list_bytes : List SlotRef → List ℕ
list_bytes list = packed (flat_map groups (numbers_of list))
