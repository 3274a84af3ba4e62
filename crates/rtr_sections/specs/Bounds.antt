-- How long a plan's part can be, from the counts of its records alone.
use Rattle.std.specs.Prelude.{ℕ, ◌+◌, ◌*◌, All, length, sum_by}
use Rattle.native_format.specs.Nibbles.{FitsWords}
use Rattle.native_format.specs.Sparse.{blocks_of}
use Rattle.rtr_sections.specs.declared.entries.EntryPoint.{EntryPoint}
use Rattle.rtr_sections.specs.declared.image.Image.{Image}
use Rattle.rtr_sections.specs.Parts.{highest_row}

-- each number of its list has 32 bits
abbrev pub HasWords : EntryPoint → Type 0
HasWords entry = All FitsWords entry.fixups

-- an entry: 20 bytes for the nodes above it, 5 for its id, and 17 for each of its slots and 2 more
abbrev pub entry_bound : EntryPoint → ℕ
entry_bound entry = 27 + 17 * length entry.fixups

-- The whole: 76 for the header and 14 for the identifier; 12 for a slot's cell and its signature's RVA, and 10 for the
-- signature; 20 for an import record; 12 for a function. The array has a header of 5, and a block of it takes 4 bytes of the
-- index, and 1 where it is empty.
abbrev pub length_bound : Image → ℕ
length_bound plan =
    95 + 22 * length plan.slots + 20 * length plan.imports + 12 * length plan.functions + 5 * blocks_of (highest_row plan.entries)
    + sum_by entry_bound plan.entries
