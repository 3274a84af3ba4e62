-- Section headers (PE/COFF 4), and the file place of an RVA.
use Rattle.std.specs.Prelude.{ℕ, ◌+◌, ◌-◌, ◌^◌, ◌<◌, List, take, drop, Bool, ◌&&◌, nat_le, Option, None, if◌then◌else◌, find}
use Rattle.std.specs.Option.{option_map}
use Rattle.rtr_bytes.specs.Field.{u32_of}
use Rattle.pe_image.specs.declared.section.PeSection.{PeSection}

-- the section header at a place: Name, VirtualSize, VirtualAddress, SizeOfRawData, PointerToRawData, Characteristics
abbrev pub section_at : List ℕ → ℕ → PeSection
section_at bytes at = record {
  name = take 8 (drop at bytes);
  virtual_size = u32_of bytes (at + 8);
  rva = u32_of bytes (at + 12);
  raw_size = u32_of bytes (at + 16);
  raw_at = u32_of bytes (at + 20);
  flags = u32_of bytes (at + 36);
}

-- the section's raw bytes, laid at its VirtualAddress, hold the range
abbrev pub has_range : ℕ → ℕ → PeSection → Bool
has_range rva len s = nat_le s.rva rva && nat_le (rva + len) (s.rva + s.raw_size)

-- the file place of the range in the first section that holds it; none where it passes 2^32
abbrev pub slice_of_rva : List PeSection → ℕ → ℕ → Option ℕ
slice_of_rva sections rva len =
    if nat_le (rva + len) (2 ^ 32) then option_map (λ s. s.raw_at + (rva - s.rva)) (find (has_range rva len) sections) else None

-- each place in the section's raw bytes is a file offset of 32 bits
abbrev pub IsInReach : PeSection → Type 0
IsInReach s = s.raw_at + s.raw_size < 2 ^ 32
