-- The parts of a written image, found in a file that carries it.
use Rattle.std.proofs.Common.{◌≡◌, ℕ, ◌+◌, ◌*◌, ◌^◌, ◌<◌, ◌≤◌, List, [], ◌∷◌, ◌++◌, length, take, drop, Option, Some, true, refl, sym, ap}
use Rattle.std.proofs.Common.{subst, ◌∙◌, arith, append_assoc, length-append, length-drop}
use Rattle.std.specs.Prelude.{flat_map, is_some}
use Rattle.std.proofs.lemmas.List.{drop-drop, drop_at, take-append-drop}
use Rattle.std.proofs.Math.Seq.{take-append_seam}
use Rattle.byteorder.specs.Endian.{little_bytes, little_number}
use Rattle.byteorder.specs.Numbers.{length-bytes_low_first, little_number-reads_back}
use Rattle.rtr_bytes.specs.Field.{field_at}
use Rattle.pe_image.specs.Headers.{place_of, sections_of}
use Rattle.pe_image.specs.Written.{FindsPart}
use Rattle.rtr_sections.proofs.ByPlace.{field_at-is}
use Rattle.rtr_sections.specs.declared.functions.Function.{Function}
use Rattle.rtr_sections.specs.declared.image.Image.{Image}
use Rattle.rtr_sections.specs.declared.imports.ImportSection.{ImportSection}
use Rattle.rtr_sections.specs.declared.slots.Slot.{Slot}
use Rattle.rtr_sections.specs.Header.{identifier, part_of}
use Rattle.rtr_sections.specs.Parts.{cell_bytes, entry_bytes, function_bytes, header_bytes, import_bytes, part_list, parts_of}
use Rattle.rtr_sections.specs.Parts.{placed_imports, part_bytes, signature_bytes_of, signature_rvas, unwind_bytes, words, written_imports}
use Rattle.rtr_sections.specs.Parts.{written_sections}
use Rattle.rtr_sections.specs.Imports.{slot_count}
use Rattle.fixup_sigs.specs.Shortest.{fixup_bytes}
use Rattle.rtr_sections.specs.Written.{Carries}
use Rattle.rtr_sections.proofs.Placed.{placed_within}

-- a list of bytes is found at an RVA: the file place of its range, and its bytes there
pub record IsFound (file : List ℕ) (rva : ℕ) (piece : List ℕ) : Type 0 where
  pub place : ℕ
  pub found : place_of file rva (length piece) ≡ Some place
  pub inside : place + length piece ≤ length file
  pub bytes : take (length piece) (drop place file) ≡ piece

abbrev pub Stands : List ℕ → ℕ → List ℕ → Type 0
Stands file rva piece = FindsPart (sections_of file) file rva piece

pub found_whole : (file : List ℕ) (rva : ℕ) (piece : List ℕ) → Stands file rva piece → 0 < length piece → IsFound file rva piece
found_whole file rva piece stands some =
    let size : length (drop stands.place file) ≡ length piece + length stands.rest =
    ap (λ (t : List ℕ). length t) stands.stands ∙ length-append piece stands.rest in
    let here : rva + 0 ≡ rva = omega arith in
    let there : stands.place + 0 ≡ stands.place = omega arith in
    record {
      place = stands.place;
      found = ap (λ (t : ℕ). place_of file t (length piece)) (sym here) ∙ stands.found 0 (length piece) some (omega arith)
          ∙ ap (λ (t : ℕ). Some t) there;
      inside = omega (arith, size, length-drop stands.place file);
      bytes = ap (λ (t : List ℕ). take (length piece) t) stands.stands ∙ take-append_seam piece stands.rest;
    }

-- what is before other bytes
pub stands_front : (file : List ℕ) (rva : ℕ) (piece behind : List ℕ) → Stands file rva (piece ++ behind) → Stands file rva piece
stands_front file rva piece behind stands = record {
  place = stands.place;
  rest = behind ++ stands.rest;
  stands = stands.stands ∙ append_assoc piece behind stands.rest;
  found = λ start len above inside. stands.found start len above (omega (arith, length-append piece behind));
}

-- what is after other bytes
pub stands_behind : (file : List ℕ) (rva : ℕ) (front piece : List ℕ) → Stands file rva (front ++ piece)
    → Stands file (rva + length front) piece
stands_behind file rva front piece stands =
    let n = length front in
    record {
      place = stands.place + n;
      rest = stands.rest;
      stands = sym (drop-drop n stands.place file) ∙ ap (λ (t : List ℕ). drop n t) (stands.stands ∙ append_assoc front piece stands.rest)
          ∙ drop_at front (piece ++ stands.rest) n refl;
      found = λ start len above inside.
          let there : rva + n + start ≡ rva + (n + start) = omega arith in
          let place : stands.place + (n + start) ≡ stands.place + n + start = omega arith in
          ap (λ (t : ℕ). place_of file t len) there ∙ stands.found (n + start) len above (omega (arith, length-append front piece))
          ∙ ap (λ (t : ℕ). Some t) place;
    }

-- what is between others is after those before it
pub stands_between : (file : List ℕ) (rva : ℕ) (front piece behind : List ℕ) → Stands file rva (front ++ (piece ++ behind))
    → Stands file (rva + length front) piece
stands_between file rva front piece behind stands =
    stands_front file (rva + length front) piece behind (stands_behind file rva front (piece ++ behind) stands)

-- the range of no bytes at a place within them is in a section, too
pub found_empty : (file : List ℕ) (rva start : ℕ) (piece : List ℕ) → Stands file rva piece → 0 < length piece → start ≤ length piece
    → is_some (place_of file (rva + start) 0) ≡ true
found_empty file rva start piece stands some within =
    let f = found_whole file rva piece stands some in
    placed_within (sections_of file) rva (length piece) (rva + start) 0 (omega arith) (omega arith)
    (ap (λ (t : Option ℕ). is_some t) f.found)

-- a number in the bytes after a place of a file
pub number_behind : (k x : ℕ) (file : List ℕ) (place : ℕ) (front behind : List ℕ) → drop place file ≡ front ++ (little_bytes k x ++ behind)
    → place + length front + k ≤ length file → x < 256 ^ k → field_at k file (place + length front) ≡ Some x
number_behind k x file place front behind whole long fits =
    let number = little_bytes k x in
    let here : drop (place + length front) file ≡ number ++ behind =
    sym (drop-drop (length front) place file) ∙ ap (λ (t : List ℕ). drop (length front) t) whole
    ∙ drop_at front (number ++ behind) (length front) refl in
    field_at-is k file (place + length front) long ∙ ap (λ (t : List ℕ). Some (little_number k t)) here
    ∙ ap (λ (t : ℕ). Some t) (little_number-reads_back k x behind fits)

-- what begins at a place of a file where bytes are
pub begins_with : (file : List ℕ) (place : ℕ) (piece : List ℕ) → take (length piece) (drop place file) ≡ piece
    → drop place file ≡ piece ++ drop (length piece) (drop place file)
begins_with file place piece same =
    sym (take-append-drop (length piece) (drop place file)) ∙ ap (λ (t : List ℕ). t ++ drop (length piece) (drop place file)) same

-- a number in bytes that are at a place of a file
pub number_stands : (k x : ℕ) (file : List ℕ) (place : ℕ) (front behind piece : List ℕ) → piece ≡ front ++ (little_bytes k x ++ behind)
    → place + length piece ≤ length file → take (length piece) (drop place file) ≡ piece → x < 256 ^ k
    → field_at k file (place + length front) ≡ Some x
number_stands k x file place front behind piece is inside same fits =
    let rest = drop (length piece) (drop place file) in
    let number = little_bytes k x in
    let whole : drop place file ≡ front ++ (number ++ (behind ++ rest)) =
    begins_with file place piece same ∙ ap (λ (t : List ℕ). t ++ rest) is
    ∙ append_assoc front (number ++ behind) rest ∙ ap (λ (t : List ℕ). front ++ t) (append_assoc number behind rest) in
    let long : place + length front + k ≤ length file =
    omega (arith, ap length is, length-append front (number ++ behind), length-append number behind, length-bytes_low_first 0 k x) in
    number_behind k x file place front (behind ++ rest) whole long fits

-- ---- lengths

length-of_equals : {X : Type 0} (f : X → List ℕ) (n : ℕ) → ((x : X) → length (f x) ≡ n) → (xs : List X)
    → length (flat_map f xs) ≡ n * length xs
length-of_equals f n each [] = omega arith
length-of_equals f n each (x ∷ xs) = omega (arith, length-append (f x) (flat_map f xs), each x, length-of_equals f n each xs)

length-rvas : (rva : ℕ) (slots : List Slot) → length (signature_rvas rva slots) ≡ length slots
length-rvas rva [] = refl
length-rvas rva (slot ∷ slots) = omega (arith, length-rvas (rva + length (fixup_bytes slot.fixup)) slots)

length-placed : (cells arrays : ℕ) (imports : List ImportSection) → length (placed_imports cells arrays imports) ≡ length imports
length-placed cells arrays [] = refl
length-placed cells arrays (import ∷ imports) = omega (arith, length-placed (cells + import.size) (arrays + 4 * slot_count import) imports)

-- 8 bytes for each function
pub length-function_bytes : (unwind : ℕ) (functions : List Function) → length (function_bytes unwind functions) ≡ 8 * length functions
length-function_bytes unwind [] = refl
length-function_bytes unwind (f ∷ fs) = omega (arith, length-function_bytes (unwind + 4) fs)

pub length-cells : (plan : Image) → length (cell_bytes plan.slots) ≡ (parts_of plan).header
unfolding parts_of
length-cells plan = length-of_equals (λ slot. little_bytes 8 slot.word) 8 (λ x. refl) plan.slots

-- the header and its section records
pub length-header : (plan : Image) (at : ℕ) → length (header_bytes plan.header.flags (written_sections plan at)) ≡ 76
unfolding written_sections
length-header plan at = refl

-- 20 bytes for each import record
pub length-import_records : (plan : Image) (at : ℕ) → length (flat_map import_bytes (written_imports plan at)) ≡ 20 * length plan.imports
unfolding written_imports
length-import_records plan at =
    omega (
      arith,
      length-of_equals import_bytes 20 (λ x. refl) (written_imports plan at),
      length-placed at (at + (parts_of plan).arrays) plan.imports,
    )

pub length-imports : (plan : Image) (at : ℕ)
    → length (flat_map import_bytes (written_imports plan at)) + (parts_of plan).imports ≡ (parts_of plan).arrays
unfolding parts_of
length-imports plan at = omega (arith, length-import_records plan at)

-- 4 bytes for each slot
pub length-arrays : (plan : Image) (rva : ℕ) → length (words (signature_rvas rva plan.slots)) ≡ 4 * length plan.slots
length-arrays plan rva =
    omega (arith, length-of_equals (little_bytes 4) 4 (λ x. refl) (signature_rvas rva plan.slots), length-rvas rva plan.slots)

pub length-functions : (plan : Image) (unwind : ℕ)
    → length (function_bytes unwind plan.functions) + (parts_of plan).functions ≡ (parts_of plan).unwinds
unfolding parts_of
length-functions plan unwind = omega (arith, length-function_bytes unwind plan.functions)

-- 4 bytes for each function
pub length-unwinds : (functions : List Function) → length (unwind_bytes functions) ≡ 4 * length functions
length-unwinds functions = length-of_equals (λ f. little_bytes 4 f.length) 4 (λ x. refl) functions

pub length-entries : (plan : Image) → length (entry_bytes plan.entries) + (parts_of plan).entries ≡ (parts_of plan).end
unfolding parts_of
length-entries plan = omega arith

-- each part begins where the one before it ends
pub record AreParts (plan : Image) : Type 0 where
  pub imports : (parts_of plan).imports ≡ (parts_of plan).header + 76
  pub arrays : (parts_of plan).arrays ≡ (parts_of plan).imports + 20 * length plan.imports
  pub functions : (parts_of plan).functions ≡ (parts_of plan).arrays + 4 * length plan.slots
  pub unwinds : (parts_of plan).unwinds ≡ (parts_of plan).functions + 8 * length plan.functions
  pub identifier : (parts_of plan).identifier ≡ (parts_of plan).unwinds + 4 * length plan.functions
  pub signatures : (parts_of plan).signatures ≡ (parts_of plan).identifier + 14
  pub entries : (parts_of plan).entries ≡ (parts_of plan).signatures + length (signature_bytes_of plan.slots)
  pub end : (parts_of plan).end ≡ (parts_of plan).entries + length (entry_bytes plan.entries)

pub are_parts : (plan : Image) → AreParts plan
unfolding parts_of
are_parts plan =
    record
    { imports = refl; arrays = refl; functions = refl; unwinds = refl; identifier = refl; signatures = refl; entries = refl; end = refl }

abbrev total_length : List (List ℕ) → ℕ
total_length [] = 0
total_length (part ∷ parts) = length part + total_length parts

length-joined : (parts : List (List ℕ)) → length (flat_map (λ part. part) parts) ≡ total_length parts
length-joined [] = refl
length-joined (part ∷ parts) = omega (arith, length-append part (flat_map (λ part. part) parts), length-joined parts)

-- the lengths of all but the signatures and entries
record HaveLengths (plan : Image) (at : ℕ) : Type 0 where
  cells : length (cell_bytes plan.slots) ≡ (parts_of plan).header
  header : length (header_bytes plan.header.flags (written_sections plan at)) ≡ 76
  imports : length (flat_map import_bytes (written_imports plan at)) ≡ 20 * length plan.imports
  arrays : length (words (signature_rvas (at + (parts_of plan).signatures) plan.slots)) ≡ 4 * length plan.slots
  functions : length (function_bytes (at + (parts_of plan).unwinds) plan.functions) ≡ 8 * length plan.functions
  unwinds : length (unwind_bytes plan.functions) ≡ 4 * length plan.functions

have_lengths : (plan : Image) (at : ℕ) → HaveLengths plan at
have_lengths plan at = record {
  cells = length-cells plan;
  header = length-header plan at;
  imports = length-import_records plan at;
  arrays = length-arrays plan (at + (parts_of plan).signatures);
  functions = length-function_bytes (at + (parts_of plan).unwinds) plan.functions;
  unwinds = length-unwinds plan.functions;
}

-- the last part ends where the whole does
pub end-is : (plan : Image) (at : ℕ) → length (part_bytes plan at) ≡ (parts_of plan).end
unfolding part_bytes
end-is plan at =
    let p = are_parts plan in
    let l = have_lengths plan at in
    omega (arith, length-joined (part_list plan at))

-- ---- each part at its RVA

-- lists of bytes, one after the other from an RVA on
abbrev StandInARow : List ℕ → ℕ → List (List ℕ) → Type 0
StandInARow file rva [] = Unit {0}
StandInARow file rva (part ∷ parts) = Stands file rva part × StandInARow file (rva + length part) parts

stand_in_a_row : (file : List ℕ) (rva : ℕ) (parts : List (List ℕ)) → Stands file rva (flat_map (λ part. part) parts)
    → StandInARow file rva parts
stand_in_a_row file rva [] stands = tt
stand_in_a_row file rva (part ∷ parts) stands =
    let rest = flat_map (λ part. part) parts in
    (stands_front file rva part rest stands, stand_in_a_row file (rva + length part) parts (stands_behind file rva part rest stands))

parts_stand : (file : List ℕ) (plan : Image) (at rows : ℕ) → Carries file plan at rows → StandInARow file at (part_list plan at)
unfolding part_bytes
parts_stand file plan at rows c = stand_in_a_row file at (part_list plan at) c.stands

stands_at : (file : List ℕ) (rva place : ℕ) (piece : List ℕ) → rva ≡ place → Stands file rva piece → Stands file place piece
stands_at file rva place piece is stands = subst (λ (t : ℕ). Stands file t piece) is stands

pub cells_stand : (file : List ℕ) (plan : Image) (at rows : ℕ) → Carries file plan at rows → Stands file at (cell_bytes plan.slots)
cells_stand file plan at rows c = (parts_stand file plan at rows c).0

pub header_stands : (file : List ℕ) (plan : Image) (at rows : ℕ) → Carries file plan at rows
    → Stands file (at + (parts_of plan).header) (header_bytes plan.header.flags (written_sections plan at))
header_stands file plan at rows c =
    let p = are_parts plan in
    let l = have_lengths plan at in
    stands_at file _ (at + (parts_of plan).header) (header_bytes plan.header.flags (written_sections plan at)) (omega arith)
    (parts_stand file plan at rows c).1.0

pub imports_stand : (file : List ℕ) (plan : Image) (at rows : ℕ) → Carries file plan at rows
    → Stands file (at + (parts_of plan).imports) (flat_map import_bytes (written_imports plan at))
imports_stand file plan at rows c =
    let p = are_parts plan in
    let l = have_lengths plan at in
    stands_at file _ (at + (parts_of plan).imports) (flat_map import_bytes (written_imports plan at)) (omega arith)
    (parts_stand file plan at rows c).1.1.0

pub arrays_stand : (file : List ℕ) (plan : Image) (at rows : ℕ) → Carries file plan at rows
    → Stands file (at + (parts_of plan).arrays) (words (signature_rvas (at + (parts_of plan).signatures) plan.slots))
arrays_stand file plan at rows c =
    let p = are_parts plan in
    let l = have_lengths plan at in
    stands_at file _ (at + (parts_of plan).arrays) (words (signature_rvas (at + (parts_of plan).signatures) plan.slots)) (omega arith)
    (parts_stand file plan at rows c).1.1.1.0

pub functions_stand : (file : List ℕ) (plan : Image) (at rows : ℕ) → Carries file plan at rows
    → Stands file (at + (parts_of plan).functions) (function_bytes (at + (parts_of plan).unwinds) plan.functions)
functions_stand file plan at rows c =
    let p = are_parts plan in
    let l = have_lengths plan at in
    stands_at file _ (at + (parts_of plan).functions) (function_bytes (at + (parts_of plan).unwinds) plan.functions) (omega arith)
    (parts_stand file plan at rows c).1.1.1.1.0

pub unwinds_stand : (file : List ℕ) (plan : Image) (at rows : ℕ) → Carries file plan at rows
    → Stands file (at + (parts_of plan).unwinds) (unwind_bytes plan.functions)
unwinds_stand file plan at rows c =
    let p = are_parts plan in
    let l = have_lengths plan at in
    stands_at file _ (at + (parts_of plan).unwinds) (unwind_bytes plan.functions) (omega arith)
    (parts_stand file plan at rows c).1.1.1.1.1.0

pub identifier_stands : (file : List ℕ) (plan : Image) (at rows : ℕ) → Carries file plan at rows
    → Stands file (at + (parts_of plan).identifier) identifier
identifier_stands file plan at rows c =
    let p = are_parts plan in
    let l = have_lengths plan at in
    stands_at file _ (at + (parts_of plan).identifier) identifier (omega arith) (parts_stand file plan at rows c).1.1.1.1.1.1.0

pub signatures_stand : (file : List ℕ) (plan : Image) (at rows : ℕ) → Carries file plan at rows
    → Stands file (at + (parts_of plan).signatures) (signature_bytes_of plan.slots)
signatures_stand file plan at rows c =
    let p = are_parts plan in
    let l = have_lengths plan at in
    stands_at file _ (at + (parts_of plan).signatures) (signature_bytes_of plan.slots) (omega arith)
    (parts_stand file plan at rows c).1.1.1.1.1.1.1.0

pub entries_stand : (file : List ℕ) (plan : Image) (at rows : ℕ) → Carries file plan at rows
    → Stands file (at + (parts_of plan).entries) (entry_bytes plan.entries)
entries_stand file plan at rows c =
    let p = are_parts plan in
    let l = have_lengths plan at in
    stands_at file _ (at + (parts_of plan).entries) (entry_bytes plan.entries) (omega arith)
    (parts_stand file plan at rows c).1.1.1.1.1.1.1.1.0

-- ---- a section of the ReadyToRun header whose bytes these are

pub record IsPart (file : List ℕ) (kind : ℕ) (piece : List ℕ) : Type 0 where
  pub len : (part_of file kind).len ≡ length piece
  pub inside : 0 < length piece → (part_of file kind).start + length piece ≤ length file
  pub bytes : take (length piece) (drop (part_of file kind).start file) ≡ piece
