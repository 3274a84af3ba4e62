-- The slots that are printed under an import record are its own: the printer takes them from the one list of all slots.
use Rattle.std.proofs.Common.{◌≡◌, ℕ, zero, suc, ◌+◌, ◌*◌, Bool, true, false, List, [], ◌∷◌, ◌++◌, length, take, drop}
use Rattle.std.proofs.Common.{cond, Option, Some, None, is_some, refl, sym, ap, subst, ◌∙◌, append_assoc, length-append}
use Rattle.std.proofs.Common.{arith}
use Rattle.std.specs.Prelude.{if◌then◌else◌}
use Rattle.std.specs.List.{flat_map}
use Rattle.std.specs.Option.{option_or, option_to_list}
use Rattle.std.proofs.Math.Seq.{take-append_seam, drop-append_seam}
use Rattle.rtr_bytes.specs.Checks.{first_fault}
use Rattle.pe_image.specs.Headers.{headers_of, native_of}
use Rattle.pe_image.proofs.ReadBack.{pass}
use Rattle.rtr_sections.specs.declared.imports.ImportSection.{ImportSection}
use Rattle.rtr_sections.specs.declared.slots.Slot.{Slot}
use Rattle.rtr_sections.specs.declared.image.Image.{Image}
use Rattle.rtr_sections.specs.Numbered.{first_bad, present}
use Rattle.rtr_sections.specs.Header.{header_checks, is_own, part_of}
use Rattle.rtr_sections.specs.Imports.{all_slots, signatures_at, first_bad_of, first_bad_word, imports_in, slot_count, slot_of, slots_in}
use Rattle.rtr_sections.specs.Image.{foreign_image_of, if_own, image_of, own_image_of, rtr_checks}
use Rattle.cli_assembly.specs.Assemblies.{assembly_of}
use Rattle.r2rdump.specs.Text.{entry_line, file_line, header_lines, image_lines, native_line, native_lines, numbered}
use Rattle.r2rdump.specs.Text.{record_lines, rtr_section_line}
use Rattle.r2rdump.specs.Types.{assembly_lines}
use Rattle.r2rdump.specs.OnePass.{image_in_one_pass, imports_in_one_pass, native_in_one_pass, text_in_one_pass}
use Rattle.r2rdump.specs.Dump.{dump_text, native_image_of, own_slots}

-- a place that is bad where there is no record of a number
abbrev BadWhere : {X : Type 0} → (ℕ → Option X) → (ℕ → ℕ) → ℕ → Option ℕ
BadWhere record_of place i = cond (is_some (record_of i)) None (Some (place i))

neither : {P : Type 0} (a b : Option ℕ) → option_or a b ≡ None → (a ≡ None → b ≡ None → P) → P
neither None b e go = go refl e
neither (Some x) b e go = absurd (let h : ⊥ = cc in h)

one_there : {X : Type 0} (o : Option X) (place : ℕ) → cond (is_some o) None (Some place) ≡ None → length (option_to_list o) ≡ 1
one_there None place e = absurd (let h : ⊥ = cc in h)
one_there (Some x) place e = refl

-- where none is bad, each number has its record
present-length : {X : Type 0} (record_of : ℕ → Option X) (place : ℕ → ℕ) (i n : ℕ) → first_bad (BadWhere record_of place) i n ≡ None
    → length (present record_of i n) ≡ n
present-length record_of place i zero e = refl
present-length record_of place i (suc n) e =
    neither (BadWhere record_of place i) (first_bad (BadWhere record_of place) (i + 1) n) e (λ here there.
    let one = one_there (record_of i) (place i) here in
    let more = present-length record_of place (i + 1) n there in
    simp length-append (omega (arith, one, more)))

slots_in-length : (bytes : List ℕ) (import : ImportSection) → first_bad_word bytes import ≡ None
    → length (slots_in bytes import) ≡ slot_count import
unfolding slots_in first_bad_word
slots_in-length bytes import e = present-length (slot_of bytes import) (λ i. signatures_at bytes import + 4 * i) 0 (slot_count import) e

first_of : (n : ℕ) (own others : List Slot) → length own ≡ n → (take n (own ++ others) ≡ own) × (drop n (own ++ others) ≡ others)
first_of n own others e = (
  subst (λ (k : ℕ). take k (own ++ others) ≡ own) e (take-append_seam own others),
  subst (λ (k : ℕ). drop k (own ++ others) ≡ others) e
      (drop-append_seam own others),
)

own_records : (bytes : List ℕ) (imports : List ImportSection) (n : ℕ) → first_bad_of bytes imports ≡ None
    → imports_in_one_pass n imports (all_slots bytes imports) ≡ numbered (record_lines (slots_in bytes)) n imports
own_records bytes [] n e = refl
own_records bytes (import ∷ imports) n e =
    neither (first_bad_word bytes import) (first_bad_of bytes imports) e (λ here there.
    let (own, others) = first_of (slot_count import) (slots_in bytes import) (all_slots bytes imports) (slots_in-length bytes import here)
    in
    rw (own, others, own_records bytes imports (n + 1) there, append_assoc) refl)

take-none : (n : ℕ) → take n (let none : List Slot = [] in none) ≡ []
take-none zero = refl
take-none (suc n) = refl

drop-none : (n : ℕ) → drop n (let none : List Slot = [] in none) ≡ []
drop-none zero = refl
drop-none (suc n) = refl

foreign_records : (imports : List ImportSection) (n : ℕ)
    → imports_in_one_pass n imports [] ≡ numbered (record_lines (λ import. [])) n imports
foreign_records [] n = refl
foreign_records (import ∷ imports) n =
    rw (take-none (slot_count import), drop-none (slot_count import), foreign_records imports (n + 1), append_assoc) refl

-- the records of an own or of a foreign image
records_are : (own : Bool) (bytes : List ℕ) (imports : List ImportSection) → (own ≡ true → first_bad_of bytes imports ≡ None)
    → imports_in_one_pass 0 imports (if own then all_slots bytes imports else [])
    ≡ numbered (record_lines (λ import. if own then slots_in bytes import else [])) 0 imports
records_are true bytes imports h = own_records bytes imports 0 (h refl)
records_are false bytes imports h = foreign_records imports 0

-- ---- an image

imports_are : (own : Bool) (bytes : List ℕ)
    → (if own then own_image_of bytes else foreign_image_of bytes).imports ≡ imports_in bytes (part_of bytes 101)
unfolding own_image_of foreign_image_of
imports_are true bytes = refl
imports_are false bytes = refl

slots_are : (own : Bool) (bytes : List ℕ)
    → (if own then own_image_of bytes else foreign_image_of bytes).slots
    ≡ (if own then all_slots bytes (imports_in bytes (part_of bytes 101)) else [])
unfolding own_image_of foreign_image_of
slots_are true bytes = refl
slots_are false bytes = refl

image_records : (bytes : List ℕ) → (is_own bytes ≡ true → first_bad_of bytes (imports_in bytes (part_of bytes 101)) ≡ None)
    → imports_in_one_pass 0 (image_of bytes).imports (image_of bytes).slots
    ≡ numbered (record_lines (own_slots bytes)) 0 (image_of bytes).imports
unfolding image_of
image_records bytes h =
    let imports = imports_are (is_own bytes) bytes in
    ap (λ (t : List ImportSection). imports_in_one_pass 0 t (if is_own bytes then own_image_of bytes else foreign_image_of bytes).slots)
    imports
    ∙ ap (λ (t : List Slot). imports_in_one_pass 0 (imports_in bytes (part_of bytes 101)) t) (slots_are (is_own bytes) bytes)
    ∙ records_are (is_own bytes) bytes (imports_in bytes (part_of bytes 101)) h
    ∙ ap (λ (t : List ImportSection). numbered (record_lines (own_slots bytes)) 0 t) (sym imports)

image_is : (bytes : List ℕ) (image : Image)
    → imports_in_one_pass 0 image.imports image.slots ≡ numbered (record_lines (own_slots bytes)) 0 image.imports
    → image_in_one_pass image ≡ image_lines (own_slots bytes) image
image_is bytes image h =
    ap (λ (t : List ℕ). native_line image.own image.header ++ flat_map rtr_section_line image.header.sections ++ t ++ flat_map
    (entry_line image.functions) image.entries) h

native_is : (native : Bool) (slots_of : ImportSection → List Slot) (image : Image)
    → (native ≡ true → image_in_one_pass image ≡ image_lines slots_of image)
    → native_in_one_pass (if native then Some image else None) ≡ native_lines slots_of (if native then Some image else None)
native_is true slots_of image h = h refl
native_is false slots_of image h = refl

-- where the file has a native header and is an own image, each signature is a fixup
all_fixups : (rows : ℕ) (bytes : List ℕ) → first_fault (rtr_checks rows) bytes ≡ None → is_some (native_of bytes) ≡ true
    → is_own bytes ≡ true
    → first_bad_of bytes (imports_in bytes (part_of bytes 101)) ≡ None
unfolding rtr_checks header_checks
all_fixups rows bytes none native own =
    let fixups : if_own bytes (first_bad_of bytes (imports_in bytes (part_of bytes 101))) ≡ None =
    (pass (rtr_checks rows) bytes none).1.1.1.1.1.1.1.1.0 in
    rw (native, own) at fixups

-- so what is printed in one pass is the text of the file
pub one_pass-is : (rows : ℕ) (name bytes : List ℕ) → first_fault (rtr_checks rows) bytes ≡ None
    → text_in_one_pass name (length bytes) (headers_of bytes) (native_image_of bytes) (assembly_of bytes) ≡ dump_text name bytes
unfolding dump_text
one_pass-is rows name bytes none =
    ap (λ (t : List ℕ). file_line name (length bytes) ++ header_lines (headers_of bytes) ++ t ++ assembly_lines (assembly_of bytes))
    (native_is (is_some (native_of bytes)) (own_slots bytes) (image_of bytes)
    (λ native. image_is bytes (image_of bytes) (image_records bytes (all_fixups rows bytes none native))))
