-- What is asked of an entry without reading its list whole: its head, and the list at its place, which entries may share.
use Rattle.std.specs.Prelude.{◌≡◌, ◌≤◌, ℕ, ◌+◌, ◌*◌, ◌/◌, ◌%◌, ◌==◌, ◌&&◌, List, [], length, Bool, true, false, Option, Some, None}
use Rattle.std.specs.Prelude.{if◌then◌else◌, nat_lt, sum_by, unwrap_or}
use Rattle.std.specs.Option.{option_map, option_map_or, option_and_then}
use Rattle.std.specs.List.{list_all, range_with_len, slice_get}
use Rattle.rtr_bytes.specs.declared.fault.Span.{Span}
use Rattle.native_format.specs.declared.nibbles.SlotRef.{SlotRef}
use Rattle.native_format.specs.Nibbles.{list_at, list_nibbles}
use Rattle.native_format.specs.Sparse.{Array, element_of}
use Rattle.native_format.specs.Uint.{uint_at}
use Rattle.rtr_sections.specs.declared.entries.EntryHead.{EntryHead}
use Rattle.rtr_sections.specs.declared.entries.EntryPoint.{EntryPoint}
use Rattle.rtr_sections.specs.declared.imports.ImportSection.{ImportSection}
use Rattle.rtr_sections.specs.Numbered.{first_bad}
use Rattle.rtr_sections.specs.Imports.{slot_count}
use Rattle.rtr_sections.specs.Entries.{array_in, bytes_in, content_place, function_of_id, list_place}

-- ---- the head

abbrev pub head : ℕ → Option ℕ → EntryHead
head function list = record { function = function; list = list }

-- its function and, where it has a list, the list's place
abbrev pub head_of_id : List ℕ → ℕ → ℕ → ℕ → Option EntryHead
head_of_id slice start id behind =
    if id % 2 == 0 then Some (head (function_of_id id) None)
    else option_map (λ place. head (function_of_id id) (Some place)) (list_place slice start id behind)

unfoldable pub head_at : List ℕ → Span → ℕ → Option EntryHead
head_at bytes part at = option_and_then (λ id. head_of_id (bytes_in bytes part) part.start id.0 id.1) (uint_at (bytes_in bytes part) at)

-- ---- the whole entry

abbrev pub slots_of_head : List ℕ → EntryHead → Option (List SlotRef)
slots_of_head bytes h = option_map_or (list_at bytes) h.list (Some [])

abbrev pub entry_of_head : List ℕ → ℕ → EntryHead → Option EntryPoint
entry_of_head bytes row h = option_map (λ slots. record { row = row; function = h.function; fixups = slots }) (slots_of_head bytes h)

-- ---- what it names

-- a slot of these import records
abbrev pub exists_in : List ImportSection → SlotRef → Bool
exists_in imports r = option_map_or (λ import. nat_lt r.slot (slot_count import)) (slice_get imports r.section) false

-- a whole list of such slots begins at a place
unfoldable pub links_at : List ℕ → List ImportSection → ℕ → Bool
links_at bytes imports at = option_map_or (list_all (exists_in imports)) (list_at bytes at) false

abbrev pub is_linked_head : List ℕ → List ImportSection → ℕ → EntryHead → Bool
is_linked_head bytes imports functions h = nat_lt h.function functions && option_map_or (links_at bytes imports) h.list true

abbrev pub is_linked_at : List ℕ → Span → List ImportSection → ℕ → ℕ → Bool
is_linked_at bytes part imports functions at = option_map_or (is_linked_head bytes imports functions) (head_at bytes part at) false

-- the place of an index's entry that isn't whole, or names what doesn't exist
abbrev pub unlinked_head : List ℕ → Span → List ImportSection → ℕ → ℕ → Option ℕ
unlinked_head bytes part imports functions at = if is_linked_at bytes part imports functions at then None else Some (part.start + at)

abbrev pub unlinked_index : List ℕ → Span → List ImportSection → ℕ → Array → ℕ → Option ℕ
unlinked_index bytes part imports functions array index =
    option_and_then (unlinked_head bytes part imports functions) (content_place (element_of array index))

abbrev pub first_unlinked_of : List ℕ → Span → List ImportSection → ℕ → Option Array → Option ℕ
first_unlinked_of bytes part imports functions None = None
first_unlinked_of bytes part imports functions (Some array) = first_bad (unlinked_index bytes part imports functions array) 0 array.count

unfoldable pub first_unlinked_in : List ℕ → Span → List ImportSection → ℕ → Option ℕ
first_unlinked_in bytes part imports functions = first_unlinked_of bytes part imports functions (array_in bytes part)

-- ---- how long the lists are

-- how many bytes the list at a place has, where the half of a byte counts as a whole one
abbrev pub list_len : List ℕ → ℕ → Option ℕ
list_len bytes at = option_map (λ nibbles. (nibbles + 1) / 2) (list_nibbles bytes at)

abbrev pub list_len_of : List ℕ → EntryHead → ℕ
list_len_of bytes h = unwrap_or (option_and_then (list_len bytes) h.list) 0

abbrev pub list_len_at : List ℕ → Span → ℕ → ℕ
list_len_at bytes part at = option_map_or (list_len_of bytes) (head_at bytes part at) 0

-- of the entry of an index, 0 where it has no list
abbrev pub list_len_in : List ℕ → Span → Array → ℕ → ℕ
list_len_in bytes part array index = option_map_or (list_len_at bytes part) (content_place (element_of array index)) 0

-- of all entries together, a list as often as entries name it
abbrev pub lists_len_of : List ℕ → Span → Option Array → ℕ
lists_len_of bytes part None = 0
lists_len_of bytes part (Some array) = sum_by (list_len_in bytes part array) (range_with_len 0 array.count)

unfoldable pub lists_len : List ℕ → Span → ℕ
lists_len bytes part = lists_len_of bytes part (array_in bytes part)

-- ---- lists by their places

-- where lists are read, the records whose slots they may name, and how many bytes the lists have that were asked and passed
pub record Linking : Type 0 where
  pub bytes : List ℕ
  pub imports : List ImportSection
  pub asked : ℕ

-- so many bytes more were asked
abbrev pub asked_more : ℕ → Linking → Linking
asked_more len l = record { bytes = l.bytes; imports = l.imports; asked = l.asked + len }

-- the lists that were asked have at most so many bytes for each of the file
abbrev pub HasRoom : Linking → Type 0
HasRoom l = l.asked ≤ 32 * length l.bytes

-- a whole list of slots that exist begins at a place, and has so many bytes
abbrev pub HasPassed : List ℕ → List ImportSection → ℕ → ℕ → Type 0
HasPassed bytes imports at len = (links_at bytes imports at ≡ true) × (list_len bytes at ≡ Some len)
