-- The import records of a written image, read back.
use Rattle.std.proofs.Common.{◌≡◌, ℕ, zero, suc, ◌+◌, ◌*◌, ◌/◌, ◌%◌, ◌^◌, ◌<◌, ◌≤◌, ◌==◌, ◌&&◌, ◌||◌, Bool, List, [], ◌∷◌, ◌++◌, ◌-◌}
use Rattle.std.proofs.Common.{length, drop, Option, None, true, false, refl, sym, ap, ◌∙◌, arith, length-append}
use Rattle.std.specs.Prelude.{flat_map, is_some, sum_by, unwrap_or, slice_index}
use Rattle.std.specs.List.{AllByRecursion}
use Rattle.std.proofs.lemmas.Bool.{le-leb}
use Rattle.std.proofs.lemmas.List.Sums.{sum_by-cons}
use Rattle.byteorder.specs.Endian.{little_bytes}
use Rattle.rtr_bytes.specs.Checks.{first_record, records}
use Rattle.rtr_bytes.specs.Field.{u16_of, u32_of}
use Rattle.pe_image.specs.Headers.{place_of}
use Rattle.rtr_sections.specs.declared.image.Image.{Image}
use Rattle.rtr_sections.specs.declared.imports.ImportSection.{ImportSection}
use Rattle.rtr_sections.specs.Header.{part_of}
use Rattle.rtr_sections.specs.Imports.{signatures_place, cells_are_placed, follows, foreign_import, has_own_form, import_at, import_count}
use Rattle.rtr_sections.specs.Imports.{imports_in, out_of_order, slot_count, unplaced_cells}
use Rattle.rtr_sections.specs.Parts.{import_bytes, parts_of, placed_imports, part_bytes, written_imports}
use Rattle.rtr_sections.specs.Plan.{HasWrittenForm, IsPlan}
use Rattle.rtr_sections.specs.Written.{Carries}
use Rattle.rtr_sections.proofs.Types.{FitsTypes}
use Rattle.rtr_sections.proofs.HeaderBack.{imports_part}
use Rattle.rtr_sections.proofs.RecordsBack.{all_of, byte_behind, field_behind, field_here, none_fails, records_back}
use Rattle.rtr_sections.proofs.Stands.{IsPart, Stands, are_parts, begins_with, end-is, found_empty}

-- ---- one record

-- each number fits its field
abbrev pub FitsRecord : ImportSection → Type 0
FitsRecord i = (i.rva < 2 ^ 32) × (i.size < 2 ^ 32) × (i.flags < 2 ^ 16) × (i.signatures < 2 ^ 32) × (i.auxiliary < 2 ^ 32)

same_import : (rva size flags kind entry_size signatures auxiliary : ℕ) (i : ImportSection) → rva ≡ i.rva → size ≡ i.size → flags ≡ i.flags
    → kind ≡ i.kind → entry_size ≡ i.entry_size → signatures ≡ i.signatures → auxiliary ≡ i.auxiliary
    → ◌≡◌ {A = ImportSection} (record
    { rva = rva; size = size; flags = flags; kind = kind; entry_size = entry_size; signatures = signatures; auxiliary = auxiliary }) i
same_import rva size flags kind entry_size signatures auxiliary i a b c d e f g = rw (a, b, c, d, e, f, g) refl

import_read : (file : List ℕ) (i : ImportSection) (place : ℕ) (behind : List ℕ) → FitsRecord i → drop place file ≡ import_bytes i ++ behind
    → import_at file place ≡ i
import_read file i place behind (rva, size, flags, signatures, auxiliary) e =
    let b0 = little_bytes 4 i.rva in
    let b1 = b0 ++ little_bytes 4 i.size in
    let b2 = b1 ++ (little_bytes 2 i.flags ++ (i.kind ∷ i.entry_size ∷ [])) in
    let b3 = b2 ++ little_bytes 4 i.signatures in
    let tail3 = little_bytes 4 i.auxiliary ++ behind in
    let tail2 = little_bytes 4 i.signatures ++ tail3 in
    let tail1 = i.kind ∷ i.entry_size ∷ tail2 in
    let tail0 = little_bytes 2 i.flags ++ tail1 in
    let f0 : u32_of file place ≡ i.rva =
    ap (λ (t : Option ℕ). unwrap_or t 0) (field_here 4 i.rva file place (little_bytes 4 i.size ++ tail0) e (omega arith) rva) in
    let f1 : u32_of file (place + 4) ≡ i.size =
    ap (λ (t : Option ℕ). unwrap_or t 0) (field_behind 4 i.size file b0 place tail0 e (omega arith) size) in
    let f2 : u16_of file (place + 8) ≡ i.flags =
    ap (λ (t : Option ℕ). unwrap_or t 0) (field_behind 2 i.flags file b1 place tail1 e (omega arith) flags) in
    let f3 : slice_index file (place + 10) ≡ i.kind = byte_behind file place 10 i.kind (import_bytes i ++ behind) e refl in
    let f4 : slice_index file (place + 11) ≡ i.entry_size = byte_behind file place 11 i.entry_size (import_bytes i ++ behind) e refl in
    let f5 : u32_of file (place + 12) ≡ i.signatures =
    ap (λ (t : Option ℕ). unwrap_or t 0) (field_behind 4 i.signatures file b2 place tail3 e (omega arith) signatures) in
    let f6 : u32_of file (place + 16) ≡ i.auxiliary =
    ap (λ (t : Option ℕ). unwrap_or t 0) (field_behind 4 i.auxiliary file b3 place behind e (omega arith) auxiliary) in
    same_import (u32_of file place) (u32_of file (place + 4)) (u16_of file (place + 8)) (slice_index file (place + 10))
    (slice_index file (place + 11)) (u32_of file (place + 12)) (u32_of file (place + 16)) i f0 f1 f2 f3 f4 f5 f6

-- ---- all records

-- the bytes of all cells, and how many slots there are
abbrev pub sizes : List ImportSection → ℕ
sizes [] = 0
sizes (i ∷ is) = i.size + sizes is

abbrev pub counts : List ImportSection → ℕ
counts [] = 0
counts (i ∷ is) = slot_count i + counts is

abbrev pub HaveForm : List ImportSection → Type 0
HaveForm is = AllByRecursion HasWrittenForm is

abbrev HaveTypes : List ImportSection → Type 0
HaveTypes is = AllByRecursion (λ i. (i.size < 2 ^ 32) × (i.flags < 2 ^ 16)) is

pub counts-is : (is : List ImportSection) → sum_by slot_count is ≡ counts is
counts-is [] = refl
counts-is (i ∷ is) = sum_by-cons slot_count i is ∙ ap (λ (t : ℕ). slot_count i + t) (counts-is is)

eighths : (size : ℕ) → size % 8 ≡ 0 → size ≡ 8 * (size / 8)
eighths size h = omega arith

pub sizes-are : (is : List ImportSection) → HaveForm is → sizes is ≡ 8 * counts is
sizes-are [] h = refl
sizes-are (i ∷ is) (form, forms) = omega (arith, eighths i.size form.whole_cells, sizes-are is forms)

length-placed : (cells arrays : ℕ) (is : List ImportSection) → length (placed_imports cells arrays is) ≡ length is
length-placed cells arrays [] = refl
length-placed cells arrays (i ∷ is) = ap suc (length-placed (cells + i.size) (arrays + 4 * slot_count i) is)

length-spelled : (is : List ImportSection) → length (flat_map import_bytes is) ≡ 20 * length is
length-spelled [] = refl
length-spelled (i ∷ is) = omega (arith, length-append (import_bytes i) (flat_map import_bytes is), length-spelled is)

placed_fit : (cells arrays : ℕ) (is : List ImportSection) → HaveForm is → HaveTypes is → cells + sizes is < 2 ^ 32
    → arrays + 4 * counts is < 2 ^ 32 → AllByRecursion FitsRecord (placed_imports cells arrays is)
placed_fit cells arrays [] form fit h k = tt
placed_fit cells arrays (i ∷ is) (form, forms) (fit, fits) h k = (
  (omega arith, fit.0, fit.1, omega arith, omega (arith, form.auxiliary)),
  placed_fit (cells + i.size) (arrays + 4 * slot_count i) is forms fits (omega arith) (omega arith),
)

-- what is known of the places of a plan
pub record Room (plan : Image) (at : ℕ) : Type 0 where
  pub forms : HaveForm plan.imports
  pub types : HaveTypes plan.imports
  pub cells : sizes plan.imports ≡ 8 * length plan.slots
  pub slots : counts plan.imports ≡ length plan.slots
  pub arrays : (parts_of plan).arrays + 4 * length plan.slots ≤ length (part_bytes plan at)
  pub front : 8 * length plan.slots ≤ length (part_bytes plan at)
  pub some : 0 < length (part_bytes plan at)
  pub high : at + length (part_bytes plan at) < 2 ^ 32

pub header-is : (plan : Image) → (parts_of plan).header ≡ 8 * length plan.slots
unfolding parts_of
header-is plan = refl

pub room : (plan : Image) (at : ℕ) → IsPlan plan at → FitsTypes plan → Room plan at
room plan at p f =
    let form = all_of HasWrittenForm plan.imports p.planned.imports in
    let slots : counts plan.imports ≡ length plan.slots = sym (p.planned.slots ∙ counts-is plan.imports) in
    let parts = are_parts plan in
    let end = end-is plan at in
    let first = header-is plan in
    record {
      forms = form;
      types = all_of (λ i. (i.size < 2 ^ 32) × (i.flags < 2 ^ 16)) plan.imports f.imports;
      cells = sizes-are plan.imports form ∙ ap (λ (t : ℕ). 8 * t) slots;
      slots = slots;
      arrays = omega (arith, end, parts.functions, parts.unwinds, parts.identifier, parts.signatures, parts.entries, parts.end);
      front = omega (
        arith,
        end,
        first,
        parts.imports,
        parts.arrays,
        parts.functions,
        parts.unwinds,
        parts.identifier,
        parts.signatures,
        parts.entries,
        parts.end,
      );
      some = omega (
        arith,
        end,
        parts.imports,
        parts.arrays,
        parts.functions,
        parts.unwinds,
        parts.identifier,
        parts.signatures,
        parts.entries,
        parts.end,
      );
      high = omega (arith, p.small, p.low);
    }

fit_all : (plan : Image) (at : ℕ) → Room plan at → AllByRecursion FitsRecord (written_imports plan at)
unfolding written_imports
fit_all plan at r =
    placed_fit at (at + (parts_of plan).arrays) plan.imports r.forms r.types (omega (arith, r.cells, r.front, r.high))
    (omega (arith, r.slots, r.arrays, r.high))

length-written : (plan : Image) (at : ℕ) → length (written_imports plan at) ≡ length plan.imports
unfolding written_imports
length-written plan at = length-placed at (at + (parts_of plan).arrays) plan.imports

-- the records of the section are those that were written
count-back : (file : List ℕ) (is : List ImportSection) → IsPart file 101 (flat_map import_bytes is)
    → import_count (part_of file 101) ≡ length is
count-back file is h =
    let n : (part_of file 101).len ≡ 20 * length is = h.len ∙ length-spelled is in
    omega (arith, n)

records-back : (file : List ℕ) (is : List ImportSection) → IsPart file 101 (flat_map import_bytes is) → AllByRecursion FitsRecord is
    → records (import_at file) (part_of file 101).start 20 (length is) ≡ is
records-back file is h fits =
    let piece = flat_map import_bytes is in
    let start = (part_of file 101).start in
    records_back (import_at file) import_bytes 20 file FitsRecord is start (drop (length piece) (drop start file)) (λ x. refl)
    (import_read file) fits (begins_with file start piece h.bytes)

pub imports_back : (file : List ℕ) (plan : Image) (at rows : ℕ) → IsPlan plan at → FitsTypes plan → Carries file plan at rows
    → imports_in file (part_of file 101) ≡ written_imports plan at
unfolding imports_in
imports_back file plan at rows p f c =
    let part = imports_part file plan at rows p f c in
    let is = written_imports plan at in
    ap (λ (n : ℕ). records (import_at file) (part_of file 101).start 20 n) (count-back file is part)
    ∙ records-back file is part (fit_all plan at (room plan at p f))

-- a test of each record, and none fails it
none_of : (file : List ℕ) (plan : Image) (at rows : ℕ) (holds : ImportSection → Bool) (test : ℕ → Bool) → IsPlan plan at → FitsTypes plan
    → Carries file plan at rows
    → ((place : ℕ) → test place ≡ holds (import_at file place)) → AllByRecursion (λ i. holds i ≡ true) (written_imports plan at)
    → first_record test (part_of file 101).start 20 (import_count (part_of file 101)) ≡ None
none_of file plan at rows holds test p f c same all =
    let part = imports_part file plan at rows p f c in
    let is = written_imports plan at in
    ap (λ (n : ℕ). first_record test (part_of file 101).start 20 n) (count-back file is part)
    ∙ none_fails (import_at file) holds test 20 is (part_of file 101).start same
    (records-back file is part (fit_all plan at (room plan at p f))) all

-- ---- cells and arrays are in sections of the file

any_found : (file whole : List ℕ) (at off len : ℕ) → Stands file at whole → 0 < length whole → off + len ≤ length whole
    → is_some (place_of file (at + off) len) ≡ true
any_found file whole at off zero stands some within = found_empty file at off whole stands some (omega arith)
any_found file whole at off (suc n) stands some within = ap (λ (t : Option ℕ). is_some t) (stands.found off (suc n) (omega arith) within)

has_cells : List ℕ → ImportSection → Bool
has_cells file i = i.size == 0 || is_some (place_of file i.rva i.size)

or_some : (a b : Bool) → b ≡ true → (a || b) ≡ true
or_some true b h = refl
or_some false b h = h

cells_found : (file whole : List ℕ) (at off cells arrays : ℕ) (is : List ImportSection) → Stands file at whole → 0 < length whole
    → cells ≡ at + off → off + sizes is ≤ length whole
    → AllByRecursion (λ i. has_cells file i ≡ true) (placed_imports cells arrays is)
unfolding has_cells
cells_found file whole at off cells arrays [] stands some here within = tt
cells_found file whole at off cells arrays (i ∷ is) stands some here within = (
  or_some (i.size == 0) (is_some (place_of file cells i.size))
      (ap (λ (t : ℕ). is_some (place_of file t i.size)) here ∙ any_found file whole at off i.size stands some (omega arith)),
  cells_found file whole at (off + i.size) (cells + i.size) (arrays + 4 * slot_count i) is stands some (omega arith) (omega arith),
)

cells_all : (file : List ℕ) (plan : Image) (at rows : ℕ) → Room plan at → Carries file plan at rows
    → AllByRecursion (λ i. has_cells file i ≡ true) (written_imports plan at)
unfolding written_imports
cells_all file plan at rows r c =
    cells_found file (part_bytes plan at) at 0 at (at + (parts_of plan).arrays) plan.imports c.stands r.some (omega arith)
    (omega (arith, r.cells, r.front))

pub cells_placed : (file : List ℕ) (plan : Image) (at rows : ℕ) → IsPlan plan at → FitsTypes plan → Carries file plan at rows
    → unplaced_cells file (part_of file 101) ≡ None
unfolding unplaced_cells has_cells
cells_placed file plan at rows p f c =
    none_of file plan at rows (has_cells file) (cells_are_placed file) p f c (λ place. refl)
    (cells_all file plan at rows (room plan at p f) c)

own_form : List ℕ → ImportSection → Bool
own_form file i = i.kind == 0 && i.entry_size == 8 && i.size % 8 == 0 && i.auxiliary == 0 && is_some (signatures_place file i)

all_five : (kind entry_size rest auxiliary : ℕ) (found : Bool) → kind ≡ 0 → entry_size ≡ 8 → rest ≡ 0 → auxiliary ≡ 0 → found ≡ true
    → (kind == 0 && entry_size == 8 && rest == 0 && auxiliary == 0 && found) ≡ true
all_five kind entry_size rest auxiliary found a b c d e = rw (a, b, c, d, e) refl

forms_found : (file whole : List ℕ) (at off cells arrays : ℕ) (is : List ImportSection) → Stands file at whole → 0 < length whole
    → HaveForm is → arrays ≡ at + off → off + 4 * counts is ≤ length whole
    → AllByRecursion (λ i. own_form file i ≡ true) (placed_imports cells arrays is)
unfolding own_form
forms_found file whole at off cells arrays [] stands some forms here within = tt
forms_found file whole at off cells arrays (i ∷ is) stands some (form, forms) here within =
    let n = 4 * slot_count i in (
      all_five i.kind i.entry_size (i.size % 8) i.auxiliary (is_some (place_of file arrays n)) form.kind form.entry_size form.whole_cells
          form.auxiliary
          (ap (λ (t : ℕ). is_some (place_of file t n)) here ∙ any_found file whole at off n stands some (omega arith)),
      forms_found file whole at (off + n) (cells + i.size) (arrays + n) is stands some forms (omega arith) (omega arith),
    )

forms_all : (file : List ℕ) (plan : Image) (at rows : ℕ) → Room plan at → Carries file plan at rows
    → AllByRecursion (λ i. own_form file i ≡ true) (written_imports plan at)
unfolding written_imports
forms_all file plan at rows r c =
    forms_found file (part_bytes plan at) at (parts_of plan).arrays at (at + (parts_of plan).arrays) plan.imports c.stands r.some r.forms
    refl (omega (arith, r.slots, r.arrays))

pub forms_own : (file : List ℕ) (plan : Image) (at rows : ℕ) → IsPlan plan at → FitsTypes plan → Carries file plan at rows
    → foreign_import file (part_of file 101) ≡ None
unfolding foreign_import own_form
forms_own file plan at rows p f c =
    none_of file plan at rows (own_form file) (has_own_form file) p f c (λ place. refl) (forms_all file plan at rows (room plan at p f) c)

-- ---- each record's cells are after those of the record before

in_order : (file : List ℕ) (start cells arrays : ℕ) (is : List ImportSection)
    → records (import_at file) start 20 (length is) ≡ placed_imports cells arrays is
    → first_record (follows file) (start + 20) 20 (length is - 1) ≡ None
in_order file start cells arrays [] e = refl
in_order file start cells arrays (i ∷ []) e = refl
in_order file start cells arrays (i ∷ j ∷ is) e =
    let first : import_at file start ≡ record i { rva = cells; signatures = arrays } = cc in
    let others : records (import_at file) (start + 20) 20 (length (j ∷ is)) ≡ placed_imports (cells + i.size) (arrays + 4 * slot_count i)
    (j ∷ is) = cc in
    let second : import_at file (start + 20) ≡ record j { rva = cells + i.size; signatures = arrays + 4 * slot_count i } = cc in
    let back : start + 20 - 20 ≡ start = omega arith in
    let rva : u32_of file (start + 20 - 20) ≡ cells = ap (λ (t : ℕ). u32_of file t) back ∙ ap (λ (t : ImportSection). t.rva) first in
    let size : u32_of file (start + 20 - 20 + 4) ≡ i.size =
    ap (λ (t : ℕ). u32_of file (t + 4)) back ∙ ap (λ (t : ImportSection). t.size) first in
    let next : u32_of file (start + 20) ≡ cells + i.size = ap (λ (t : ImportSection). t.rva) second in
    let holds : follows file (start + 20) ≡ true =
    le-leb (u32_of file (start + 20 - 20) + u32_of file (start + 20 - 20 + 4)) (u32_of file (start + 20))
    (omega (arith, rva, size, next)) in
    let more : length (i ∷ j ∷ is) - 1 ≡ suc (length is) = omega arith in
    let rest : length is ≡ length (j ∷ is) - 1 = omega arith in
    rw (more, holds, rest) (in_order file (start + 20) (cells + i.size) (arrays + 4 * slot_count i) (j ∷ is) others)

pub cells_in_order : (file : List ℕ) (plan : Image) (at rows : ℕ) → IsPlan plan at → FitsTypes plan → Carries file plan at rows
    → out_of_order file (part_of file 101) ≡ None
unfolding out_of_order written_imports
cells_in_order file plan at rows p f c =
    let part = imports_part file plan at rows p f c in
    let is = written_imports plan at in
    let n = length-placed at (at + (parts_of plan).arrays) plan.imports in
    let start = (part_of file 101).start in
    let back = records-back file is part (fit_all plan at (room plan at p f)) in
    ap (λ (n : ℕ). first_record (follows file) (start + 20) 20 (n - 1)) (count-back file is part ∙ n)
    ∙ in_order file start at (at + (parts_of plan).arrays) plan.imports (ap (λ (t : ℕ). records (import_at file) start 20 t) (sym n) ∙ back)
