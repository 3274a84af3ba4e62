-- The raw bytes of sections, in an input and in a written file.
use Rattle.std.specs.Prelude.{ℕ, ◌+◌, ◌-◌, ◌<◌, ◌≤◌, List, [], ◌∷◌, ◌++◌, length, take, drop, map, replicate}
use Rattle.pe_image.specs.declared.section.PeSection.{PeSection}
use Rattle.pe_image.specs.Places.{aligned}

-- its raw range ends in the file, where it isn't empty
abbrev pub IsInFile : List ℕ → PeSection → Type 0
IsInFile bytes s = 0 < s.raw_size → s.raw_at + s.raw_size ≤ length bytes

-- a section's raw bytes
unfoldable pub raw_of : List ℕ → PeSection → List ℕ
raw_of bytes s = take s.raw_size (drop s.raw_at bytes)

-- the bytes of all sections of a written file: the input's raw bytes, and then the two new parts
unfoldable pub raw_parts : List PeSection → List ℕ → List ℕ → List ℕ → List (List ℕ)
raw_parts sections bytes dat cod = map (raw_of bytes) sections ++ dat ∷ cod ∷ []

-- bytes, and zeros up to a multiple of 512
unfoldable pub padded : List ℕ → List ℕ
padded bytes = bytes ++ replicate (aligned 512 (length bytes) - length bytes) 0
