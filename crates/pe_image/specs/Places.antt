-- Where the parts of a written file are, in the image and in the file.
use Rattle.std.specs.Prelude.{◌≡◌, ℕ, ◌+◌, ◌*◌, ◌%◌, ◌≤◌, List, [], ◌∷◌, ◌++◌, length, codes, max, sum_by}
use Rattle.std.specs.Int.{next_multiple_of}
use Rattle.pe_image.specs.declared.section.PeSection.{PeSection}

-- the least multiple of a unit that isn't below a place
unfoldable pub aligned : ℕ → ℕ → ℕ
aligned unit place = next_multiple_of place unit

-- the end of a section in the image, after the larger of its two sizes
abbrev pub section_end : PeSection → ℕ
section_end s = s.rva + max s.virtual_size s.raw_size

abbrev pub highest_end : List PeSection → ℕ
highest_end [] = 0
highest_end (s ∷ sections) = max (section_end s) (highest_end sections)

-- the RVA of `.r2rdat`, after the input's sections, and of `.r2rcod`, after it
abbrev pub dat_rva : List PeSection → ℕ
dat_rva sections = aligned 65536 (highest_end sections)

abbrev pub cod_rva : List PeSection → ℕ → ℕ
cod_rva sections dat_len = aligned 65536 (dat_rva sections + dat_len)

-- where the section table is: after the MS-DOS header's 64 bytes, the signature's 4, the COFF header's 20 and the optional
-- header's 240
abbrev pub written_table_at : ℕ
written_table_at = 328

-- where the headers of so many sections end, each of 40 bytes
abbrev pub headers_end : ℕ → ℕ
headers_end count = written_table_at + 40 * count

-- room for the two new sections to begin at multiples of 65,536
abbrev pub alignment_room : ℕ
alignment_room = 131072

-- the two new section headers, before their raw bytes have a place: initialized data that is read and written,
-- and code that is read and executed
abbrev pub dat_section : List PeSection → ℕ → PeSection
dat_section sections dat_len = record {
  name = codes ".r2rdat" ++ 0 ∷ [];
  virtual_size = dat_len;
  rva = dat_rva sections;
  raw_size = aligned 512 dat_len;
  raw_at = 0;
  flags = 0xC000_0040;
}

abbrev pub cod_section : List PeSection → ℕ → ℕ → PeSection
cod_section sections dat_len cod_len = record {
  name = codes ".r2rcod" ++ 0 ∷ [];
  virtual_size = cod_len;
  rva = cod_rva sections dat_len;
  raw_size = aligned 512 cod_len;
  raw_at = 0;
  flags = 0x6000_0020;
}

abbrev pub all_sections : List PeSection → ℕ → ℕ → List PeSection
all_sections sections dat_len cod_len = sections ++ dat_section sections dat_len ∷ cod_section sections dat_len cod_len ∷ []

-- sections whose raw bytes are one after the other from a place on, each padded to a multiple of 512
abbrev pub placed_from : ℕ → List PeSection → List PeSection
placed_from at [] = []
placed_from at (s ∷ sections) = record s { raw_at = at } ∷ placed_from (at + aligned 512 s.raw_size) sections

-- where the last of them ends
abbrev pub end_from : ℕ → List PeSection → ℕ
end_from at [] = at
end_from at (s ∷ sections) = end_from (at + aligned 512 s.raw_size) sections

-- the raw bytes begin after the headers
abbrev pub raw_start : List PeSection → ℕ
raw_start sections = aligned 512 (headers_end (length sections + 2))

unfoldable pub written_sections : List PeSection → ℕ → ℕ → List PeSection
written_sections sections dat_len cod_len = placed_from (raw_start sections) (all_sections sections dat_len cod_len)

unfoldable pub written_length : List PeSection → ℕ → ℕ → ℕ
written_length sections dat_len cod_len = end_from (raw_start sections) (all_sections sections dat_len cod_len)

-- no file is longer: the headers, all raw bytes, and 512 for each section and once more
abbrev pub length_bound : List PeSection → ℕ → ℕ → ℕ
length_bound sections dat_len cod_len =
    headers_end (length sections + 2) + sum_by (λ s. s.raw_size) sections + dat_len + cod_len + 512 * (length sections + 3)

-- raw ranges in order that don't overlap: the first begins at or after a place, each at a multiple of 512, and
-- the last ends at or before the file's end
abbrev pub AreLaid : ℕ → List PeSection → ℕ → Type 0
AreLaid from [] file_end = from ≤ file_end
AreLaid from (s ∷ sections) file_end = (from ≤ s.raw_at) × (s.raw_at % 512 ≡ 0) × AreLaid (s.raw_at + s.raw_size) sections file_end
