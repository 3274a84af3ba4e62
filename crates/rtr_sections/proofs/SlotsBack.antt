-- The slots of a written image, read back.
use Rattle.std.proofs.Common.{◌≡◌, ℕ, zero, suc, ◌+◌, ◌*◌, ◌^◌, ◌<◌, ◌≤◌, List, [], ◌∷◌, ◌++◌, length, take, drop, Option, Some, None, refl}
use Rattle.std.proofs.Common.{sym, ap, ◌∙◌, arith, append_assoc, length-append, length-drop}
use Rattle.std.specs.Prelude.{is_some, unwrap_or, if◌then◌else◌}
use Rattle.std.specs.List.{AllByRecursion}
use Rattle.std.specs.Option.{option_and_then, option_map, option_or}
use Rattle.std.proofs.lemmas.List.{take-append-drop}
use Rattle.byteorder.specs.Endian.{little_bytes}
use Rattle.rtr_bytes.specs.Field.{field_at, u32_of}
use Rattle.pe_image.specs.Headers.{place_of}
use Rattle.fixup_sigs.specs.declared.fixup.Fixup.{Fixup}
use Rattle.fixup_sigs.specs.Laws.{WrittenFixupIsRead}
use Rattle.fixup_sigs.specs.Shortest.{IsSpellable, fixup_bytes}
use Rattle.rtr_sections.specs.declared.image.Image.{Image}
use Rattle.rtr_sections.specs.declared.imports.ImportSection.{ImportSection}
use Rattle.rtr_sections.specs.declared.slots.Slot.{Slot}
use Rattle.fixup_sigs.specs.Reading.{fixup_at}
use Rattle.rtr_sections.specs.Header.{part_of}
use Rattle.rtr_sections.specs.Imports.{all_slots, signatures_at, bad_word, cells_at, first_bad_of, first_bad_word, imports_in, slot_at}
use Rattle.rtr_sections.specs.Imports.{slot_count, slot_of, slots_in}
use Rattle.rtr_sections.specs.Numbered.{first_bad, present}
use Rattle.rtr_sections.specs.Parts.{cell_bytes, parts_of, placed_imports, signature_bytes_of, signature_rvas, words, written_imports}
use Rattle.rtr_sections.specs.Plan.{IsPlan}
use Rattle.rtr_sections.specs.Written.{Carries}
use Rattle.rtr_sections.proofs.Types.{FitsTypes}
use Rattle.rtr_sections.proofs.ImportsBack.{HaveForm, counts, header-is, imports_back, room}
use Rattle.rtr_sections.proofs.RecordsBack.{all_of, drop_behind, field_here}
use Rattle.rtr_sections.proofs.Stands.{Stands, are_parts, arrays_stand, cells_stand, end-is, length-arrays, length-cells, signatures_stand}
use Rattle.rtr_sections.proofs.Stands.{stands_behind}

-- ---- one slot

-- a slot can be spelled, and its word has 64 bits
abbrev FitsSlot : Slot → Type 0
FitsSlot s = IsSpellable s.fixup × (s.word < 2 ^ 64)

same_slot : (o : Option Fixup) (w : Option ℕ) (s : Slot) → o ≡ Some s.fixup → w ≡ Some s.word
    → option_map (λ fixup. record { fixup = fixup; word = unwrap_or w 0 }) o ≡ Some s
same_slot o w s e h = rw (e, h) refl

-- whose signature is at an RVA that the array's word names
one_slot : WrittenFixupIsRead → (file : List ℕ) (array cell rva place : ℕ) (s : Slot) (behind_word behind_cell behind : List ℕ) → FitsSlot s
    → rva < 2 ^ 32
    → drop array file ≡ little_bytes 4 rva ++ behind_word → drop cell file ≡ little_bytes 8 s.word ++ behind_cell
    → place_of file rva 1 ≡ Some place → drop place file ≡ fixup_bytes s.fixup ++ behind → slot_at file array cell ≡ Some s
unfolding slot_at
one_slot law file array cell rva place s behind_word behind_cell behind (spellable, small) low word number found spelled =
    let w : u32_of file array ≡ rva =
    ap (λ (t : Option ℕ). unwrap_or t 0) (field_here 4 rva file array behind_word word (omega arith) low) in
    let c : field_at 8 file cell ≡ Some s.word = field_here 8 s.word file cell behind_cell number (omega arith) small in
    let f : fixup_at file place ≡ Some s.fixup = law s.fixup file behind place spellable spelled in
    let all : option_and_then (fixup_at file) (place_of file (u32_of file array) 1) ≡ Some s.fixup =
    ap (λ (t : ℕ). option_and_then (fixup_at file) (place_of file t 1)) w ∙ ap (λ (t : Option ℕ). option_and_then (fixup_at file) t) found
    ∙ f in
    same_slot (option_and_then (fixup_at file) (place_of file (u32_of file array) 1)) (field_at 8 file cell) s all c

-- ---- slots in a row

abbrev SlotsFound : List ℕ → ℕ → ℕ → List Slot → Type 0
SlotsFound file array cell [] = Unit {0}
SlotsFound file array cell (s ∷ ss) = (slot_at file array cell ≡ Some s) × SlotsFound file (array + 4) (cell + 8) ss

some_byte : (fixup : Fixup) → 0 < length (fixup_bytes fixup)
some_byte fixup = omega arith

slots_found : WrittenFixupIsRead → (file : List ℕ) (array cell rva : ℕ) (ss : List Slot) (behind_words behind_cells : List ℕ)
    → AllByRecursion FitsSlot ss
    → rva + length (signature_bytes_of ss) < 2 ^ 32
    → drop array file ≡ words (signature_rvas rva ss) ++ behind_words → drop cell file ≡ cell_bytes ss ++ behind_cells
    → Stands file rva (signature_bytes_of ss) → SlotsFound file array cell ss
slots_found law file array cell rva [] bw bc fits low a c stands = tt
slots_found law file array cell rva (s ∷ ss) bw bc (fit, fits) low a c stands =
    let sig = fixup_bytes s.fixup in
    let others = signature_bytes_of ss in
    let next = rva + length sig in
    let len = length-append sig others in
    let words_behind = words (signature_rvas next ss) ++ bw in
    let cells_behind = cell_bytes ss ++ bc in
    let a1 : drop array file ≡ little_bytes 4 rva ++ words_behind =
    a ∙ append_assoc (little_bytes 4 rva) (words (signature_rvas next ss)) bw in
    let c1 : drop cell file ≡ little_bytes 8 s.word ++ cells_behind = c ∙ append_assoc (little_bytes 8 s.word) (cell_bytes ss) bc in
    let spelled : drop stands.place file ≡ sig ++ (others ++ stands.rest) = stands.stands ∙ append_assoc sig others stands.rest in
    let here : rva + 0 ≡ rva = omega arith in
    let there : stands.place + 0 ≡ stands.place = omega arith in
    let found : place_of file rva 1 ≡ Some stands.place =
    ap (λ (t : ℕ). place_of file t 1) (sym here) ∙ stands.found 0 1 (omega arith) (omega (arith, len, some_byte s.fixup))
    ∙ ap (λ (t : ℕ). Some t) there in
    let rest : Stands file next others = stands_behind file rva sig others stands in (
      one_slot law file array cell rva stands.place s words_behind cells_behind (others ++ stands.rest) (fit.0, fit.1) (omega (arith, len))
          a1 c1 found spelled,
      slots_found law file (array + 4) (cell + 8) next ss bw bc fits (omega (arith, len))
          (drop_behind file (little_bytes 4 rva) words_behind array a1)
          (drop_behind file (little_bytes 8 s.word) cells_behind cell c1) rest,
    )

-- those of one import section are the first of what is left
present_first : (file : List ℕ) (array cell i n : ℕ) (ss : List Slot) → SlotsFound file (array + 4 * i) (cell + 8 * i) ss → n ≤ length ss
    → present (λ j. slot_at file (array + 4 * j) (cell + 8 * j)) i n ≡ take n ss
present_first file array cell i zero ss h within = refl
present_first file array cell i (suc n) [] h within = absurd (omega arith)
present_first file array cell i (suc n) (s ∷ ss) (found, h) within =
    let a : array + 4 * i + 4 ≡ array + 4 * (i + 1) = omega arith in
    let c : cell + 8 * i + 8 ≡ cell + 8 * (i + 1) = omega arith in
    let next : SlotsFound file (array + 4 * (i + 1)) (cell + 8 * (i + 1)) ss = rw (a, c) at h in
    rw found (ap (λ (t : List Slot). s ∷ t) (present_first file array cell (i + 1) n ss next (omega arith)))

none_first : (file : List ℕ) (array cell i n : ℕ) (ss : List Slot) → SlotsFound file (array + 4 * i) (cell + 8 * i) ss → n ≤ length ss
    → first_bad (λ j. if is_some (slot_at file (array + 4 * j) (cell + 8 * j)) then None else Some (array + 4 * j)) i n ≡ None
none_first file array cell i zero ss h within = refl
none_first file array cell i (suc n) [] h within = absurd (omega arith)
none_first file array cell i (suc n) (s ∷ ss) (found, h) within =
    let a : array + 4 * i + 4 ≡ array + 4 * (i + 1) = omega arith in
    let c : cell + 8 * i + 8 ≡ cell + 8 * (i + 1) = omega arith in
    let next : SlotsFound file (array + 4 * (i + 1)) (cell + 8 * (i + 1)) ss = rw (a, c) at h in
    rw found (none_first file array cell (i + 1) n ss next (omega arith))

found_later : (file : List ℕ) (array cell n : ℕ) (ss : List Slot) → SlotsFound file array cell ss → n ≤ length ss
    → SlotsFound file (array + 4 * n) (cell + 8 * n) (drop n ss)
found_later file array cell zero ss h within =
    let a : array + 4 * 0 ≡ array = omega arith in
    let c : cell + 8 * 0 ≡ cell = omega arith in
    rw (a, c) h
found_later file array cell (suc n) [] h within = absurd (omega arith)
found_later file array cell (suc n) (s ∷ ss) (found, h) within =
    let a : array + 4 + 4 * n ≡ array + 4 * suc n = omega arith in
    let c : cell + 8 + 8 * n ≡ cell + 8 * suc n = omega arith in
    rw (a, c) at (found_later file (array + 4) (cell + 8) n ss h (omega arith))

-- ---- those of one import section

-- where a section with slots has its array and its cells
record IsAt (file : List ℕ) (i : ImportSection) (array cell : ℕ) : Type 0 where
  array_is : 0 < slot_count i → signatures_at file i ≡ array
  cells_are : 0 < slot_count i → cells_at file i ≡ cell

present_at : (file : List ℕ) (i : ImportSection) (n array cell : ℕ) → (0 < n → signatures_at file i ≡ array)
    → (0 < n → cells_at file i ≡ cell)
    → present (slot_of file i) 0 n ≡ present (λ j. slot_at file (array + 4 * j) (cell + 8 * j)) 0 n
present_at file i zero array cell a c = refl
present_at file i (suc n) array cell a c =
    let P : ℕ → ℕ → List Slot = λ x y. present (λ j. slot_at file (x + 4 * j) (y + 8 * j)) 0 (suc n) in
    ap (λ (t : ℕ). P t (cells_at file i)) (a (omega arith)) ∙ ap (λ (t : ℕ). P array t) (c (omega arith))

bad_at : (file : List ℕ) (i : ImportSection) (n array cell : ℕ) → (0 < n → signatures_at file i ≡ array) → (0 < n → cells_at file i ≡ cell)
    → first_bad (bad_word file i) 0 n ≡ first_bad
    (λ j. if is_some (slot_at file (array + 4 * j) (cell + 8 * j)) then None else Some (array + 4 * j)) 0 n
bad_at file i zero array cell a c = refl
bad_at file i (suc n) array cell a c =
    let P : ℕ → ℕ → Option ℕ =
    λ x y. first_bad (λ j. if is_some (slot_at file (x + 4 * j) (y + 8 * j)) then None else Some (x + 4 * j)) 0 (suc n) in
    ap (λ (t : ℕ). P t (cells_at file i)) (a (omega arith)) ∙ ap (λ (t : ℕ). P array t) (c (omega arith))

section_slots : (file : List ℕ) (i : ImportSection) (array cell : ℕ) (ss : List Slot) → IsAt file i array cell
    → SlotsFound file array cell ss → slot_count i ≤ length ss → slots_in file i ≡ take (slot_count i) ss
unfolding slots_in
section_slots file i array cell ss at h within =
    let a : array + 4 * 0 ≡ array = omega arith in
    let c : cell + 8 * 0 ≡ cell = omega arith in
    present_at file i (slot_count i) array cell at.array_is at.cells_are
    ∙ present_first file array cell 0 (slot_count i) ss (rw (a, c) h) within

section_good : (file : List ℕ) (i : ImportSection) (array cell : ℕ) (ss : List Slot) → IsAt file i array cell
    → SlotsFound file array cell ss → slot_count i ≤ length ss → first_bad_word file i ≡ None
unfolding first_bad_word
section_good file i array cell ss at h within =
    let a : array + 4 * 0 ≡ array = omega arith in
    let c : cell + 8 * 0 ≡ cell = omega arith in
    bad_at file i (slot_count i) array cell at.array_is at.cells_are ∙ none_first file array cell 0 (slot_count i) ss (rw (a, c) h) within

-- ---- all sections

-- each section's array and cells are after those of the section before
abbrev AreAt : List ℕ → ℕ → ℕ → List ImportSection → Type 0
AreAt file array cell [] = Unit {0}
AreAt file array cell (i ∷ is) = IsAt file i array cell × AreAt file (array + 4 * slot_count i) (cell + 8 * slot_count i) is

all_found : (file : List ℕ) (array cell : ℕ) (is : List ImportSection) (ss : List Slot) → AreAt file array cell is
    → SlotsFound file array cell ss → counts is ≡ length ss → all_slots file is ≡ ss
all_found file array cell [] [] at h n = refl
all_found file array cell [] (s ∷ ss) at h n = absurd (omega arith)
all_found file array cell (i ∷ is) ss (at, ats) h n =
    let k = slot_count i in
    let first = section_slots file i array cell ss at h (omega arith) in
    let left : counts is ≡ length (drop k ss) = omega (arith, length-drop k ss) in
    let others = all_found file (array + 4 * k) (cell + 8 * k) is (drop k ss) ats (found_later file array cell k ss h (omega arith)) left in
    ap (λ (t : List Slot). t ++ all_slots file is) first ∙ ap (λ (t : List Slot). take k ss ++ t) others ∙ take-append-drop k ss

all_good : (file : List ℕ) (array cell : ℕ) (is : List ImportSection) (ss : List Slot) → AreAt file array cell is
    → SlotsFound file array cell ss → counts is ≡ length ss → first_bad_of file is ≡ None
all_good file array cell [] ss at h n = refl
all_good file array cell (i ∷ is) ss (at, ats) h n =
    let k = slot_count i in
    let left : counts is ≡ length (drop k ss) = omega (arith, length-drop k ss) in
    ap (λ (t : Option ℕ). option_or t (first_bad_of file is)) (section_good file i array cell ss at h (omega arith))
    ∙ all_good file (array + 4 * k) (cell + 8 * k) is (drop k ss) ats (found_later file array cell k ss h (omega arith)) left

counts-placed : (cells arrays : ℕ) (is : List ImportSection) → counts (placed_imports cells arrays is) ≡ counts is
counts-placed cells arrays [] = refl
counts-placed cells arrays (i ∷ is) = ap (λ (t : ℕ). slot_count i + t) (counts-placed (cells + i.size) (arrays + 4 * slot_count i) is)

-- of the sections that are written
are_at : (file arrays_piece cells_piece : List ℕ) (array_rva cell_rva array_off cell_off arrays cells array cell : ℕ)
    (is : List ImportSection) (a : Stands file array_rva arrays_piece) (c : Stands file cell_rva cells_piece)
    → HaveForm is
    → array_off + 4 * counts is ≤ length arrays_piece → cell_off + 8 * counts is ≤ length cells_piece
    → arrays ≡ array_rva + array_off → cells ≡ cell_rva + cell_off → array ≡ a.place + array_off → cell ≡ c.place + cell_off
    → AreAt file array cell (placed_imports cells arrays is)
are_at file ap_ cp array_rva cell_rva ao co arrays cells array cell [] a c form h k e1 e2 e3 e4 = tt
are_at file ap_ cp array_rva cell_rva ao co arrays cells array cell (i ∷ is) a c (form, forms) h k e1 e2 e3 e4 =
    let n = slot_count i in
    let size : i.size ≡ 8 * n = let whole = form.whole_cells in omega arith in (
      record {
        array_is = λ some. ap (λ (t : ℕ). unwrap_or (place_of file t (4 * n)) 0) e1
            ∙ ap (λ (t : Option ℕ). unwrap_or t 0) (a.found ao (4 * n) (omega arith) (omega arith)) ∙ sym e3;
        cells_are =
            λ some. ap (λ (t : ℕ). unwrap_or (place_of file t i.size) 0) e2
            ∙ ap (λ (t : ℕ). unwrap_or (place_of file (cell_rva + co) t) 0) size
            ∙ ap (λ (t : Option ℕ). unwrap_or t 0) (c.found co (8 * n) (omega arith) (omega arith)) ∙ sym e4;
      },
      are_at file ap_ cp array_rva cell_rva (ao + 4 * n) (co + 8 * n) (arrays + 4 * n) (cells + i.size) (array + 4 * n) (cell + 8 * n) is a
          c forms (omega arith) (omega arith) (omega arith) (omega arith) (omega arith) (omega arith),
    )

-- ---- the plan's

both : (ss : List Slot) → AllByRecursion (λ s. IsSpellable s.fixup) ss → AllByRecursion (λ s. s.word < 2 ^ 64) ss
    → AllByRecursion FitsSlot ss
both [] h k = tt
both (s ∷ ss) (h, hs) (k, ks) = ((h, k), both ss hs ks)

record AreSlots (file : List ℕ) (plan : Image) (at : ℕ) : Type 0 where
  array : ℕ
  cell : ℕ
  sections : AreAt file array cell (written_imports plan at)
  slots : SlotsFound file array cell plan.slots
  count : counts (written_imports plan at) ≡ length plan.slots

are_slots : WrittenFixupIsRead → (file : List ℕ) (plan : Image) (at rows : ℕ) → IsPlan plan at → FitsTypes plan → Carries file plan at rows
    → AreSlots file plan at
unfolding written_imports
are_slots law file plan at rows p f c =
    let r = room plan at p f in
    let parts = are_parts plan in
    let a = arrays_stand file plan at rows c in
    let k = cells_stand file plan at rows c in
    let s = signatures_stand file plan at rows c in
    let rva = at + (parts_of plan).signatures in
    let fits =
    both plan.slots (all_of (λ s. IsSpellable s.fixup) plan.slots p.planned.fixups) (all_of (λ s. s.word < 2 ^ 64) plan.slots f.slots) in
    let low : rva + length (signature_bytes_of plan.slots) < 2 ^ 32 = omega (arith, parts.entries, parts.end, end-is plan at, r.high) in
    record {
      array = a.place;
      cell = k.place;
      sections =
          are_at file (words (signature_rvas rva plan.slots)) (cell_bytes plan.slots) (at + (parts_of plan).arrays) at 0 0
          (at + (parts_of plan).arrays) at a.place k.place plan.imports a k r.forms
          (omega (arith, r.slots, length-arrays plan rva)) (omega (arith, r.slots, length-cells plan, header-is plan)) (omega arith)
          (omega arith) (omega arith) (omega arith);
      slots = slots_found law file a.place k.place rva plan.slots a.rest k.rest fits low a.stands k.stands s;
      count = counts-placed at (at + (parts_of plan).arrays) plan.imports ∙ r.slots;
    }

pub slots_back : WrittenFixupIsRead → (file : List ℕ) (plan : Image) (at rows : ℕ) → IsPlan plan at → FitsTypes plan
    → Carries file plan at rows
    → all_slots file (imports_in file (part_of file 101)) ≡ plan.slots
slots_back law file plan at rows p f c =
    let r = are_slots law file plan at rows p f c in
    ap (λ (t : List ImportSection). all_slots file t) (imports_back file plan at rows p f c)
    ∙ all_found file r.array r.cell (written_imports plan at) plan.slots r.sections r.slots r.count

pub slots_good : WrittenFixupIsRead → (file : List ℕ) (plan : Image) (at rows : ℕ) → IsPlan plan at → FitsTypes plan
    → Carries file plan at rows
    → first_bad_of file (imports_in file (part_of file 101)) ≡ None
slots_good law file plan at rows p f c =
    let r = are_slots law file plan at rows p f c in
    ap (λ (t : List ImportSection). first_bad_of file t) (imports_back file plan at rows p f c)
    ∙ all_good file r.array r.cell (written_imports plan at) plan.slots r.sections r.slots r.count
