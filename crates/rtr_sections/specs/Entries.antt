-- MethodDefEntryPoints (ReadyToRun File Format, "READYTORUN_SECTION_METHODDEF_ENTRYPOINTS"): a sparse array by
-- MethodDef rows, whose elements name a method's function and the slots that it needs.
use Rattle.std.specs.Prelude.{ℕ, ◌+◌, ◌-◌, ◌*◌, ◌/◌, ◌%◌, ◌==◌, ◌&&◌, ◌||◌, List, [], take, drop, Bool, false, Option, Some, None, Ok, Err}
use Rattle.std.specs.Prelude.{if◌then◌else◌, nat_le, nat_lt}
use Rattle.std.specs.Option.{option_map, option_map_or, option_and_then}
use Rattle.std.specs.List.{list_all}
use Rattle.rtr_bytes.specs.declared.fault.Span.{Span}
use Rattle.rtr_bytes.specs.Field.{u32_of}
use Rattle.native_format.specs.declared.nibbles.SlotRef.{SlotRef}
use Rattle.native_format.specs.Nibbles.{list_at}
use Rattle.native_format.specs.Sparse.{Answer, Array, array_at, element_of}
use Rattle.native_format.specs.Uint.{uint_at}
use Rattle.rtr_sections.specs.declared.entries.EntryPoint.{EntryPoint}
use Rattle.rtr_sections.specs.Imports.{import_count}
use Rattle.rtr_sections.specs.Numbered.{present, first_bad}

-- the section's bytes: they bound its array, and the integers of its entries
abbrev pub bytes_in : List ℕ → Span → List ℕ
bytes_in bytes part = take part.len (drop part.start bytes)

-- ---- one entry

-- the function that an id names: bit 0 says that a list of slots belongs to it, and then bit 1 says where that is
abbrev pub function_of_id : ℕ → ℕ
function_of_id id = if id % 2 == 0 then id / 2 else id / 4

-- a distance back from its own start
abbrev pub back_from : ℕ → ℕ → Option ℕ
back_from start distance = if nat_le distance start then Some (start - distance) else None

-- The file offset of the list: after the id or, with bit 1, as far before the integer after the id as that
-- integer says.
abbrev pub list_place : List ℕ → ℕ → ℕ → ℕ → Option ℕ
list_place slice start id behind =
    if id / 2 % 2 == 0
    then Some (start + behind)
    else option_and_then (λ distance. back_from (start + behind) distance.0) (uint_at slice behind)

-- no list, or the one at its place, which the file's end bounds
abbrev pub fixups_of_id : List ℕ → Span → ℕ → ℕ → Option (List SlotRef)
fixups_of_id bytes part id behind =
    if id % 2 == 0 then Some [] else option_and_then (list_at bytes) (list_place (bytes_in bytes part) part.start id behind)

abbrev pub entry_point : ℕ → ℕ → List SlotRef → EntryPoint
entry_point row id fixups = record { row = row; function = function_of_id id; fixups = fixups }

abbrev pub entry_of_id : List ℕ → Span → ℕ → ℕ × ℕ → Option EntryPoint
entry_of_id bytes part row id = option_map (entry_point row id.0) (fixups_of_id bytes part id.0 id.1)

-- the entry whose content is at a place of the section; none where it isn't whole
unfoldable pub entry_at : List ℕ → Span → ℕ → ℕ → Option EntryPoint
entry_at bytes part row at = option_and_then (entry_of_id bytes part row) (uint_at (bytes_in bytes part) at)

-- an import record and a slot of it: its size is after its RVA, and a cell has 8 bytes
abbrev pub names_slot : List ℕ → Span → SlotRef → Bool
names_slot bytes imports r =
    nat_lt r.section (import_count imports) && nat_lt r.slot (u32_of bytes (imports.start + 20 * r.section + 4) / 8)

-- it names a function and slots that exist
unfoldable pub is_linked : List ℕ → Span → ℕ → EntryPoint → Bool
is_linked bytes imports functions entry = nat_lt entry.function functions && list_all (names_slot bytes imports) entry.fixups

-- ---- all of them

abbrev pub content_place : Answer → Option ℕ
content_place (Ok place) = place
content_place (Err fault) = None

abbrev pub cut_of : Answer → Option ℕ
cut_of (Ok place) = None
cut_of (Err fault) = Some fault.place

-- the entry of an index belongs to the MethodDef row one above it
abbrev pub entry_of : List ℕ → Span → Array → ℕ → Option EntryPoint
entry_of bytes part array index = option_and_then (entry_at bytes part (index + 1)) (content_place (element_of array index))

abbrev pub entries_of : List ℕ → Span → Option Array → List EntryPoint
entries_of bytes part None = []
entries_of bytes part (Some array) = present (entry_of bytes part array) 0 array.count

-- the section's array
abbrev pub array_in : List ℕ → Span → Option Array
array_in bytes part = if part.len == 0 then None else array_at (bytes_in bytes part) 0

unfoldable pub entries_in : List ℕ → Span → List EntryPoint
entries_in bytes part = entries_of bytes part (array_in bytes part)

-- ---- what can be bad

-- the section has no array, or one of more than these rows
unfoldable pub bad_array : ℕ → List ℕ → Span → Option ℕ
bad_array rows bytes part =
    if part.len == 0 || option_map_or (λ array. nat_le array.count rows) (array_in bytes part) false then None else Some part.start

-- an index whose path is cut: the place in the file of that node or index entry
abbrev pub cut_place : ℕ → Array → ℕ → Option ℕ
cut_place start array index = option_map (λ place. start + place) (cut_of (element_of array index))

abbrev pub first_cut_of : Span → Option Array → Option ℕ
first_cut_of part None = None
first_cut_of part (Some array) = first_bad (cut_place part.start array) 0 array.count

unfoldable pub first_cut : List ℕ → Span → Option ℕ
first_cut bytes part = first_cut_of part (array_in bytes part)

-- content that is no whole entry, or whose entry names what doesn't exist: its place in the file
abbrev pub unlinked_at : List ℕ → Span → Span → ℕ → ℕ → ℕ → Option ℕ
unlinked_at bytes part imports functions row at =
    if option_map_or (is_linked bytes imports functions) (entry_at bytes part row at) false then None else Some (part.start + at)

abbrev pub unlinked_place : List ℕ → Span → Span → ℕ → Array → ℕ → Option ℕ
unlinked_place bytes part imports functions array index =
    option_and_then (unlinked_at bytes part imports functions (index + 1)) (content_place (element_of array index))

abbrev pub first_unlinked_of : List ℕ → Span → Span → ℕ → Option Array → Option ℕ
first_unlinked_of bytes part imports functions None = None
first_unlinked_of bytes part imports functions (Some array) = first_bad (unlinked_place bytes part imports functions array) 0 array.count

unfoldable pub first_unlinked : List ℕ → Span → Span → ℕ → Option ℕ
first_unlinked bytes part imports functions = first_unlinked_of bytes part imports functions (array_in bytes part)
