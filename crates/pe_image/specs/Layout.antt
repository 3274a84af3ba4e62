-- What a reader keeps of the headers of a file: their places, which end in the file.
use Rattle.std.specs.Prelude.{◌≡◌, ℕ, ◌+◌, ◌*◌, ◌^◌, ◌≤◌, List, length, Bool}
use Rattle.pe_image.specs.Headers.{machine_of, is_wide, optional_at, directories_offset, section_table_at, section_count}

pub record IsLayout (bytes : List ℕ) (m : ℕ) (w : Bool) (d t n : ℕ) : Type 0 where
  pub small : length bytes ≤ 2 ^ 31
  pub machine : m ≡ machine_of bytes
  pub wide : w ≡ is_wide bytes
  -- the data directories, of which those up to the CLI header's end in the file
  pub directories : d ≡ optional_at bytes + directories_offset bytes
  pub directories_end : d + 120 ≤ length bytes
  -- the section table
  pub section_table : t ≡ section_table_at bytes
  pub section_count : n ≡ section_count bytes
  pub table_end : t + 40 * n ≤ length bytes
