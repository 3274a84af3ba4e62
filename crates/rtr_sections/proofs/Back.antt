-- A written image, read back whole from a file that carries it.
use Rattle.std.proofs.Common.{◌≡◌, ℕ, Bool, true, false, cond, List, Option, None, refl, ap, ◌∙◌}
use Rattle.std.specs.Prelude.{is_some}
use Rattle.rtr_bytes.specs.declared.fault.Fault.{Fault}
use Rattle.rtr_bytes.specs.declared.fault.Span.{Span}
use Rattle.rtr_bytes.specs.Checks.{fault_or, first_fault}
use Rattle.pe_image.specs.Headers.{native_of}
use Rattle.native_format.specs.Laws.{WrittenIsRead}
use Rattle.fixup_sigs.specs.Laws.{WrittenFixupIsRead}
use Rattle.rtr_sections.specs.declared.entries.EntryPoint.{EntryPoint}
use Rattle.rtr_sections.specs.declared.functions.Function.{Function}
use Rattle.rtr_sections.specs.declared.header.RtrHeader.{RtrHeader}
use Rattle.rtr_sections.specs.declared.image.Image.{Image}
use Rattle.rtr_sections.specs.declared.imports.ImportSection.{ImportSection}
use Rattle.rtr_sections.specs.declared.slots.Slot.{Slot}
use Rattle.rtr_sections.specs.Entries.{bad_array, entries_in, first_cut, first_unlinked}
use Rattle.rtr_sections.specs.Functions.{bad_function, function_count, functions_in}
use Rattle.rtr_sections.specs.Header.{is_own, native_at, part_of, rtr_header_of}
use Rattle.rtr_sections.specs.Image.{foreign_image_of, image_of, own_image_of, rtr_checks}
use Rattle.rtr_sections.specs.Imports.{all_slots, first_bad_of, foreign_import, imports_in, out_of_order}
use Rattle.rtr_sections.specs.Parts.{written_imports}
use Rattle.rtr_sections.specs.Plan.{IsPlan}
use Rattle.rtr_sections.specs.Written.{Carries, back_image}
use Rattle.rtr_sections.proofs.Types.{FitsTypes}
use Rattle.rtr_sections.proofs.AllChecks.{after_imports}
use Rattle.rtr_sections.proofs.EntriesBack.{array_good, entries_back, entries_linked, paths_good}
use Rattle.rtr_sections.proofs.FunctionsBack.{functions_back, functions_good}
use Rattle.rtr_sections.proofs.HeaderBack.{header_back, header_well_formed, own_back}
use Rattle.rtr_sections.proofs.ImportsBack.{cells_in_order, cells_placed, forms_own, imports_back}
use Rattle.rtr_sections.proofs.SlotsBack.{slots_back, slots_good}

-- a check of images of this compiler that is passed
passes : (n : ℕ) (native own : Bool) (o : Option ℕ) (others : Option Fault) → o ≡ None → others ≡ None
    → fault_or n (cond native (cond own o None) None) others ≡ None
passes n true true o others e h = rw e h
passes n true false o others e h = h
passes n false own o others e h = h

pub well_formed : WrittenIsRead → WrittenFixupIsRead → (file : List ℕ) (plan : Image) (at rows : ℕ) → IsPlan plan at → FitsTypes plan
    → Carries file plan at rows
    → first_fault (rtr_checks rows) file ≡ None
well_formed laws law file plan at rows p f c =
    let native : is_some (native_of file) ≡ true = ap (λ (t : Option Span). is_some t) c.native in
    let n = is_some (native_of file) in
    let o = is_own file in
    after_imports rows file native (header_well_formed file plan at rows p f c) (cells_placed file plan at rows p f c)
    ∙ passes 60 n o (foreign_import file (part_of file 101)) _ (forms_own file plan at rows p f c)
    (passes 61 n o (first_bad_of file (imports_in file (part_of file 101))) _ (slots_good law file plan at rows p f c)
    (passes 62 n o (bad_function file (part_of file 102)) _ (functions_good file plan at rows p f c)
    (passes 63 n o (bad_array rows file (part_of file 103)) _ (array_good laws file plan at rows p f c)
    (passes 64 n o (first_cut file (part_of file 103)) _ (paths_good laws file plan at rows p f c)
    (passes 65 n o (first_unlinked file (part_of file 103) (part_of file 101) (function_count (part_of file 102))) _
    (entries_linked laws file plan at rows p f c)
    (passes 66 n o (out_of_order file (part_of file 101)) None (cells_in_order file plan at rows p f c) refl))))))

same_image : (header other : RtrHeader) (imports imports' : List ImportSection) (slots slots' : List Slot)
    (functions functions' : List Function) (entries entries' : List EntryPoint) (own own' : Bool)
    → header ≡ other → imports ≡ imports' → slots ≡ slots' → functions ≡ functions' → entries ≡ entries' → own ≡ own'
    → ◌≡◌ {A = Image} (record { header = header; imports = imports; slots = slots; functions = functions; entries = entries; own = own })
    (record { header = other; imports = imports'; slots = slots'; functions = functions'; entries = entries'; own = own' })
same_image header other imports imports' slots slots' functions functions' entries entries' own own' a b c d e f =
    rw (a, b, c, d, e, f) refl

own_image : (own : Bool) (a b c : Image) → own ≡ true → a ≡ c → cond own a b ≡ c
own_image true a b c h e = e
own_image false a b c h e = absurd (let x : ⊥ = cc in x)

pub image_back : WrittenIsRead → WrittenFixupIsRead → (file : List ℕ) (plan : Image) (at rows : ℕ) → IsPlan plan at → FitsTypes plan
    → Carries file plan at rows
    → image_of file ≡ back_image plan at (native_at file)
unfolding image_of own_image_of back_image
image_back laws law file plan at rows p f c =
    let own = own_back file plan at rows p f c in
    own_image (is_own file) (own_image_of file) (foreign_image_of file) (back_image plan at (native_at file)) own
    (same_image (rtr_header_of file) (back_image plan at (native_at file)).header (imports_in file (part_of file 101))
    (written_imports plan at) (all_slots file (imports_in file (part_of file 101))) plan.slots
    (functions_in file (part_of file 102)) plan.functions (entries_in file (part_of file 103)) plan.entries (is_own file) true
    (header_back file plan at rows p f c) (imports_back file plan at rows p f c) (slots_back law file plan at rows p f c)
    (functions_back file plan at rows p f c) (entries_back laws file plan at rows p f c) own)
