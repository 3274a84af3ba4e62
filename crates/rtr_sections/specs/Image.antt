-- The ReadyToRun part of a file by its records, and the checks of it, each computed from the bytes alone.
use Rattle.std.specs.Prelude.{ℕ, List, [], ◌∷◌, ◌++◌, Option, None, if◌then◌else◌, sum_by}
use Rattle.rtr_bytes.specs.Checks.{Check, check}
use Rattle.rtr_sections.specs.declared.image.Image.{Image}
use Rattle.rtr_sections.specs.Header.{header_checks, if_native, is_own, part_of, rtr_header_of}
use Rattle.rtr_sections.specs.Imports.{all_slots, first_bad_of, foreign_import, imports_in, out_of_order, slot_count, unplaced_cells}
use Rattle.rtr_sections.specs.Functions.{bad_function, function_count, functions_in}
use Rattle.rtr_sections.specs.Entries.{bad_array, entries_in, first_cut, first_unlinked}
use Rattle.rtr_sections.specs.EntryHeads.{lists_len}

-- what is asked of an image of this compiler alone
abbrev pub if_own : List ℕ → Option ℕ → Option ℕ
if_own bytes place = if_native bytes (if is_own bytes then place else None)

-- of each image
abbrev pub image_checks : List Check
image_checks = check 22 (λ bytes. if_native bytes (unplaced_cells bytes (part_of bytes 101))) ∷ []

-- of each image of this compiler, whose assembly has this many MethodDef rows
abbrev pub own_checks : ℕ → List Check
own_checks rows =
    -- import records: their form, and their fixups
    check 60 (λ bytes. if_own bytes (foreign_import bytes (part_of bytes 101)))
    ∷ check 61 (λ bytes. if_own bytes (first_bad_of bytes (imports_in bytes (part_of bytes 101))))
    -- functions
    ∷ check 62 (λ bytes. if_own bytes (bad_function bytes (part_of bytes 102)))
    -- entries: their array, its paths, and what they name
    ∷ check 63 (λ bytes. if_own bytes (bad_array rows bytes (part_of bytes 103)))
    ∷ check 64 (λ bytes. if_own bytes (first_cut bytes (part_of bytes 103)))
    ∷ check 65 (λ bytes. if_own bytes (first_unlinked bytes (part_of bytes 103) (part_of bytes 101) (function_count (part_of bytes 102))))
    -- the order of the cells
    ∷ check 66 (λ bytes. if_own bytes (out_of_order bytes (part_of bytes 101)))
    ∷ []

-- all of them, in their order
unfoldable pub rtr_checks : ℕ → List Check
rtr_checks rows = header_checks ++ (image_checks ++ own_checks rows)

-- how many bytes the lists of slots of all its entries have, a list as often as entries name it; a foreign image has none
unfoldable pub own_lists_len : List ℕ → ℕ
own_lists_len bytes = if is_own bytes then lists_len bytes (part_of bytes 103) else 0

-- how many slots all its import records have
unfoldable pub own_slot_count : List ℕ → ℕ
own_slot_count bytes = if is_own bytes then sum_by slot_count (imports_in bytes (part_of bytes 101)) else 0

-- what is in a file with a native header: of a foreign image nothing but the header and the import records
unfoldable pub own_image_of : List ℕ → Image
own_image_of bytes = record {
  header = rtr_header_of bytes;
  imports = imports_in bytes (part_of bytes 101);
  slots = all_slots bytes (imports_in bytes (part_of bytes 101));
  functions = functions_in bytes (part_of bytes 102);
  entries = entries_in bytes (part_of bytes 103);
  own = is_own bytes;
}

unfoldable pub foreign_image_of : List ℕ → Image
foreign_image_of bytes = record {
  header = rtr_header_of bytes;
  imports = imports_in bytes (part_of bytes 101);
  slots = [];
  functions = [];
  entries = [];
  own = is_own bytes;
}

unfoldable pub image_of : List ℕ → Image
image_of bytes = if is_own bytes then own_image_of bytes else foreign_image_of bytes
