-- The bytes of a written PE file, piece by piece. What the file promises by place is in Written.
use Rattle.std.specs.Prelude.{ℕ, List, [], ◌∷◌, ◌++◌}
use Rattle.std.specs.List.{flat_map}
use Rattle.byteorder.specs.Endian.{little_bytes}
use Rattle.pe_image.specs.declared.section.PeSection.{PeSection}
use Rattle.pe_image.specs.declared.numbers.Number.{Number}
use Rattle.pe_image.specs.declared.numbers.Number.TheVariants.{One, Two, Four, Eight}
use Rattle.pe_image.specs.declared.values.HeaderValues.{HeaderValues}
use Rattle.pe_image.specs.Raw.{padded}
use Rattle.pe_image.specs.Written.{HeaderField, header_fields, section_fields}

-- a number in one, two, four or eight bytes, lowest byte first
abbrev pub number_bytes : Number → List ℕ
number_bytes (One x) = little_bytes 1 x
number_bytes (Two x) = little_bytes 2 x
number_bytes (Four x) = little_bytes 4 x
number_bytes (Eight x) = little_bytes 8 x

abbrev pub numbers_bytes : List Number → List ℕ
numbers_bytes numbers = flat_map number_bytes numbers

-- fields one after the other
abbrev pub field_bytes : HeaderField → List ℕ
field_bytes f = little_bytes f.width f.number

abbrev pub fields_bytes : List HeaderField → List ℕ
fields_bytes fields = flat_map field_bytes fields

unfoldable pub header_bytes : HeaderValues → List ℕ
header_bytes v = fields_bytes (header_fields v)

-- a section header (PE/COFF 4)
unfoldable pub section_bytes : PeSection → List ℕ
section_bytes s = s.name ++ fields_bytes (section_fields 0 s)

-- the whole file
unfoldable pub file_of : HeaderValues → List PeSection → List (List ℕ) → List ℕ
file_of v sections parts = padded (header_bytes v ++ flat_map section_bytes sections) ++ flat_map padded parts
