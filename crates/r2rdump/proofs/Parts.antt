-- The text of an image by its parts.
use Rattle.std.proofs.Common.{◌≡◌, ℕ, Bool, List, ◌++◌, Result, Ok, Err, OnOk, append_assoc, ◌∙◌}
use Rattle.std.specs.List.{flat_map}
use Rattle.rtr_sections.specs.declared.header.RtrSection.{RtrSection}
use Rattle.rtr_sections.specs.declared.imports.ImportSection.{ImportSection}
use Rattle.rtr_sections.specs.declared.slots.Slot.{Slot}
use Rattle.rtr_sections.specs.declared.functions.Function.{Function}
use Rattle.rtr_sections.specs.declared.entries.EntryPoint.{EntryPoint}
use Rattle.rtr_sections.specs.declared.image.Image.{Image}
use Rattle.r2rdump.specs.Text.{entry_line, native_line, rtr_section_line}
use Rattle.r2rdump.specs.OnePass.{image_in_one_pass, imports_in_one_pass}

four : (self a b c d one two three : List ℕ) → one ≡ self ++ a → two ≡ one ++ b → three ≡ two ++ c → three ++ d ≡ self ++ (a ++ b ++ c ++ d)
four self a b c d one two three e f g = rw (g, f, e) (simp append_assoc)

pub image_parts : {T E : Type 0} (image : Image) (own : Bool) (sections : List RtrSection)
    (imports : List ImportSection) (slots : List Slot)
    (functions : List Function) (entries : List EntryPoint) (self one two three new : List ℕ) (r : Result T E)
    → own ≡ image.own → sections ≡ image.header.sections → imports ≡ image.imports → slots ≡ image.slots
    → functions ≡ image.functions → entries ≡ image.entries
    → one ≡ self ++ native_line own image.header → two ≡ one ++ flat_map rtr_section_line sections
    → three ≡ two ++ imports_in_one_pass 0 imports slots
    → OnOk r (new ≡ three ++ flat_map (entry_line functions) entries) → OnOk r (new ≡ self ++ image_in_one_pass image)
image_parts image own sections imports slots functions entries self one two three new (Err x) o s i l f n first second third last = tt
image_parts image own sections imports slots functions entries self one two three new (Ok x) o s i l f n first second third last =
    (rw (f, n) at last)
    ∙ four self (native_line image.own image.header) (flat_map rtr_section_line image.header.sections)
    (imports_in_one_pass 0 image.imports image.slots)
    (flat_map (entry_line image.functions) image.entries) one two three (rw o at first) (rw s at second) (rw (i, l) at third)
