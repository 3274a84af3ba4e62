-- The text of a dump, over the records of a file.
use Rattle.std.specs.Prelude.{ℕ, ◌+◌, ◌/◌, ◌%◌, ◌^◌, ◌==◌, ◌&&◌, List, [], ◌∷◌, ◌++◌, length, map, codes, decimal}
use Rattle.std.specs.Prelude.{slice_index_or, Bool, Option, Some, None, nat_le, if◌then◌else◌}
use Rattle.std.specs.List.{flat_map, list_all}
use Rattle.hex.specs.Hex.{encode_lower}
use Rattle.rtr_outside.specs.Text.{hex4, hex8, printed_name, newline}
use Rattle.native_format.specs.declared.nibbles.SlotRef.{SlotRef}
use Rattle.fixup_sigs.specs.Shortest.{fixup_bytes}
use Rattle.pe_image.specs.declared.section.PeSection.{PeSection}
use Rattle.pe_image.specs.Headers.{Headers}
use Rattle.rtr_sections.specs.declared.header.RtrSection.{RtrSection}
use Rattle.rtr_sections.specs.declared.header.RtrHeader.{RtrHeader}
use Rattle.rtr_sections.specs.declared.imports.ImportSection.{ImportSection}
use Rattle.rtr_sections.specs.declared.slots.Slot.{Slot}
use Rattle.rtr_sections.specs.declared.functions.Function.{Function}
use Rattle.rtr_sections.specs.declared.entries.EntryPoint.{EntryPoint}
use Rattle.rtr_sections.specs.declared.image.Image.{Image}

-- trailing zeros cut
abbrev pub trimmed : List ℕ → List ℕ
trimmed [] = []
trimmed (b ∷ bytes) = if list_all (λ c. c == 0) (b ∷ bytes) then [] else b ∷ trimmed bytes

-- the name of a PE section, with a question mark for each byte that is no visible character of ASCII
abbrev pub section_name : List ℕ → List ℕ
section_name name = map (λ b. if nat_le 0x21 b && nat_le b 0x7E then b else 0x3F) (trimmed name)

-- the lines of things that are numbered from n on
abbrev pub numbered : {X : Type 0} → (ℕ → X → List ℕ) → ℕ → List X → List ℕ
numbered line n [] = []
numbered line n (x ∷ xs) = line n x ++ numbered line (n + 1) xs

-- ---- the file and its headers

abbrev pub file_line : List ℕ → ℕ → List ℕ
file_line name len = codes "file " ++ printed_name name ++ codes " " ++ decimal len ++ newline

abbrev pub machine_line : Headers → List ℕ
machine_line pe = codes "machine " ++ hex4 pe.machine ++ codes " magic " ++ hex4 (if pe.wide then 0x20B else 0x10B) ++ newline

abbrev pub section_line : PeSection → List ℕ
section_line s =
    section_name s.name ++ codes " rva " ++ hex8 s.rva ++ codes " size " ++ hex8 s.virtual_size
    ++ codes " file " ++ hex8 s.raw_at ++ codes " raw " ++ hex8 s.raw_size ++ newline

abbrev pub cli_line : Headers → List ℕ
cli_line pe = codes "cli flags " ++ hex8 pe.cli_flags ++ codes " entry " ++ hex8 pe.entry_token ++ newline

abbrev pub header_lines : Headers → List ℕ
header_lines pe = machine_line pe ++ flat_map section_line pe.sections ++ cli_line pe

-- ---- the ReadyToRun header

abbrev pub owner : Bool → List ℕ
owner own = if own then codes "own" else codes "foreign"

abbrev pub native_line : Bool → RtrHeader → List ℕ
native_line own h =
    codes "native " ++ owner own ++ codes " " ++ decimal h.major ++ codes "." ++ decimal h.minor
    ++ codes " flags " ++ hex8 h.flags ++ codes " sections " ++ decimal (length h.sections) ++ newline

abbrev pub rtr_section_line : RtrSection → List ℕ
rtr_section_line s = codes "rtr " ++ decimal s.kind ++ codes " rva " ++ hex8 s.rva ++ codes " size " ++ hex8 s.size ++ newline

-- ---- import records and slots

-- how many cells of EntrySize bytes a record has room for, and none where that is 0
abbrev pub cell_count : ImportSection → ℕ
cell_count import = if import.entry_size == 0 then 0 else import.size / import.entry_size

abbrev pub import_line : ℕ → ImportSection → List ℕ
import_line n import =
    codes "import " ++ decimal n ++ codes " rva " ++ hex8 import.rva ++ codes " size " ++ hex8 import.size ++ codes " flags " ++ hex4
    import.flags
    ++ codes " type " ++ decimal import.kind ++ codes " entry " ++ decimal import.entry_size ++ codes " slots " ++ decimal
    (cell_count import) ++ newline

-- a slot by its number in its section, and its signature
abbrev pub slot_line : ℕ → Slot → List ℕ
slot_line n slot = codes "slot " ++ decimal n ++ codes " " ++ encode_lower (fixup_bytes slot.fixup) ++ newline

-- a record, and after it its own slots
abbrev pub record_lines : (ImportSection → List Slot) → ℕ → ImportSection → List ℕ
record_lines slots_of n import = import_line n import ++ numbered slot_line 0 (slots_of import)

-- ---- entries

-- the token of a MethodDef row (ECMA-335 II.22.26), as a word of 32 bits
abbrev pub method_token : ℕ → ℕ
method_token row = (0x0600_0000 + row) % 2 ^ 32

-- the function of an index; an image whose checks hold has each that an entry names
abbrev pub function_at : List Function → ℕ → Function
function_at functions index = slice_index_or functions index (record { begin = 0; length = 0 })

-- a slot by its section and its number there
abbrev pub slot_ref : SlotRef → List ℕ
slot_ref r = codes " " ++ decimal r.section ++ codes "." ++ decimal r.slot

abbrev pub entry_line_of : EntryPoint → Function → List ℕ
entry_line_of entry function =
    codes "entry " ++ hex8 (method_token entry.row) ++ codes " function " ++ decimal entry.function
    ++ codes " begin " ++ hex8 function.begin ++ codes " length " ++ decimal function.length
    ++ codes " fixups" ++ flat_map slot_ref entry.fixups ++ newline

abbrev pub entry_line : List Function → EntryPoint → List ℕ
entry_line functions entry = entry_line_of entry (function_at functions entry.function)

-- ---- the ReadyToRun part

-- an image whose import records have these slots
abbrev pub image_lines : (ImportSection → List Slot) → Image → List ℕ
image_lines slots_of image =
    native_line image.own image.header ++ flat_map rtr_section_line image.header.sections
    ++ numbered (record_lines slots_of) 0 image.imports ++ flat_map (entry_line image.functions) image.entries

abbrev pub native_lines : (ImportSection → List Slot) → Option Image → List ℕ
native_lines slots_of None = codes "native none" ++ newline
native_lines slots_of (Some image) = image_lines slots_of image
