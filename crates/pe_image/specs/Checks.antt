-- The checks of the PE headers and the CLI header, each computed from the bytes alone.
use Rattle.std.specs.Prelude.{ℕ, ◌+◌, ◌*◌, ◌==◌, ◌&&◌, ◌||◌, List, [], ◌∷◌, ◌++◌, length, Bool, nat_le, is_some}
use Rattle.std.specs.Option.{option_map}
use Rattle.rtr_bytes.specs.Field.{u16_of, u32_of}
use Rattle.rtr_bytes.specs.Checks.{Check, check, holds_or, first_record}
use Rattle.pe_image.specs.Headers.{pe_at, section_count, optional_size, optional_at, magic_of, directories_offset}
use Rattle.pe_image.specs.Headers.{directory_count_at, cli_directory_at, section_table_at, place_of, cli_at}
use Rattle.pe_image.specs.Headers.{metadata_place}

-- the MS-DOS header, the PE signature and the COFF header
abbrev pub coff_checks : List Check
coff_checks =
    check 1 (λ bytes. holds_or (nat_le 64 (length bytes)) (length bytes))
    -- it begins with "MZ"
    ∷ check 2 (λ bytes. holds_or (u16_of bytes 0 == 0x5A4D) 0)
    ∷ check 3 (λ bytes. holds_or (nat_le (pe_at bytes + 24) (length bytes)) 60)
    -- "PE" and two zeros
    ∷ check 4 (λ bytes. holds_or (u32_of bytes (pe_at bytes) == 0x4550) (pe_at bytes))
    ∷ check 6 (λ bytes. holds_or (nat_le (section_table_at bytes) (length bytes)) (pe_at bytes + 20))
    ∷ []

-- the optional header and the section table
abbrev pub optional_checks : List Check
optional_checks =
    check 7 (λ bytes. holds_or (nat_le 2 (optional_size bytes) && (magic_of bytes == 0x10B || magic_of bytes == 0x20B)) (optional_at bytes))
    ∷ check 8 (λ bytes. holds_or (nat_le (directories_offset bytes + 120) (optional_size bytes)) (pe_at bytes + 20))
    ∷ check 9 (λ bytes. holds_or (nat_le 15 (u32_of bytes (directory_count_at bytes))) (directory_count_at bytes))
    ∷ check 10 (λ bytes. holds_or (nat_le (section_table_at bytes + 40 * section_count bytes) (length bytes)) (pe_at bytes + 6))
    ∷ []

-- the raw range of the section header at a place ends in the file, where SizeOfRawData isn't 0
abbrev pub raw_range_fits : List ℕ → ℕ → Bool
raw_range_fits bytes at =
    u32_of bytes (at + 16) == 0 || nat_le (u32_of bytes (at + 20) + u32_of bytes (at + 16)) (length bytes)

abbrev pub section_checks : List Check
section_checks =
    check 11 (λ bytes. option_map (λ at. at + 20) (first_record (raw_range_fits bytes) (section_table_at bytes) 40 (section_count bytes)))
    ∷ []

-- the data directory of the CLI header
abbrev pub directory_checks : List Check
directory_checks =
    check 12 (λ bytes. let at = cli_directory_at bytes in
    holds_or (nat_le 72 (u32_of bytes (at + 4)) && is_some (place_of bytes (u32_of bytes at) 72)) at)
    ∷ []

-- the CLI header's own: cb, its size, and the range of the metadata
abbrev pub cli_header_checks : List Check
cli_header_checks =
    check 13 (λ bytes. holds_or (nat_le 72 (u32_of bytes (cli_at bytes))) (cli_at bytes))
    ∷ check 14 (λ bytes. holds_or (is_some (metadata_place bytes)) (cli_at bytes + 8))
    ∷ []

abbrev pub cli_checks : List Check
cli_checks = directory_checks ++ cli_header_checks

-- all of them, in their order
abbrev pub pe_checks : List Check
pe_checks = coff_checks ++ optional_checks ++ section_checks ++ cli_checks
