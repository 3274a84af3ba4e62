-- The same text in one pass over the list of all slots, as the printer goes. That it is the text of the file, in which each import
-- record has its own slots, is what is proved of it.
use Rattle.std.specs.Prelude.{ℕ, ◌+◌, List, [], ◌∷◌, ◌++◌, take, drop, codes, Option, Some, None}
use Rattle.std.specs.List.{flat_map}
use Rattle.pe_image.specs.Headers.{Headers}
use Rattle.rtr_sections.specs.declared.imports.ImportSection.{ImportSection}
use Rattle.rtr_sections.specs.declared.slots.Slot.{Slot}
use Rattle.rtr_sections.specs.declared.image.Image.{Image}
use Rattle.rtr_sections.specs.Imports.{slot_count}
use Rattle.cli_assembly.specs.Assemblies.{Assembly}
use Rattle.rtr_outside.specs.Text.{newline}
use Rattle.r2rdump.specs.Text.{numbered, file_line, header_lines, native_line, rtr_section_line, import_line}
use Rattle.r2rdump.specs.Text.{slot_line, entry_line}
use Rattle.r2rdump.specs.Types.{assembly_lines}

-- a record's slots are the first of what is left; a foreign image has none
abbrev pub imports_in_one_pass : ℕ → List ImportSection → List Slot → List ℕ
imports_in_one_pass n [] slots = []
imports_in_one_pass n (import ∷ imports) slots =
    import_line n import ++ numbered slot_line 0 (take (slot_count import) slots)
    ++ imports_in_one_pass (n + 1) imports (drop (slot_count import) slots)

abbrev pub image_in_one_pass : Image → List ℕ
image_in_one_pass image =
    native_line image.own image.header ++ flat_map rtr_section_line image.header.sections
    ++ imports_in_one_pass 0 image.imports image.slots ++ flat_map (entry_line image.functions) image.entries

abbrev pub native_in_one_pass : Option Image → List ℕ
native_in_one_pass None = codes "native none" ++ newline
native_in_one_pass (Some image) = image_in_one_pass image

abbrev pub text_in_one_pass : List ℕ → ℕ → Headers → Option Image → Assembly → List ℕ
text_in_one_pass name len pe image assembly =
    file_line name len ++ header_lines pe ++ native_in_one_pass image ++ assembly_lines assembly
