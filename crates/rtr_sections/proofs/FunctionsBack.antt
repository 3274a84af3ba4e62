-- The functions of a written image, read back.
use Rattle.std.proofs.Common.{◌≡◌, ℕ, ◌+◌, ◌-◌, ◌*◌, ◌%◌, ◌^◌, ◌<◌, ◌≤◌, Bool, true, List, [], ◌∷◌, ◌++◌, All, Option, Some, None, length}
use Rattle.std.proofs.Common.{drop, refl, sym, ap, ◌∙◌, arith}
use Rattle.std.specs.Prelude.{◌==◌, if◌then◌else◌, is_some, IsSome, nat_le, nat_lt, unwrap_or}
use Rattle.std.specs.Option.{option_map_or}
use Rattle.std.proofs.lemmas.Bool.{and_from, eq-eqb, le-leb, lt-ltb, le-ltb}
use Rattle.std.proofs.lemmas.List.{drop-drop}
use Rattle.std.proofs.lemmas.List.Elements.{All-head, All-tail}
use Rattle.byteorder.specs.Endian.{little_bytes}
use Rattle.rtr_bytes.specs.Field.{field_at, u32_of}
use Rattle.rtr_bytes.specs.Checks.{first_record, records}
use Rattle.pe_image.specs.Headers.{place_of}
use Rattle.rtr_sections.specs.declared.functions.Function.{Function}
use Rattle.rtr_sections.specs.declared.image.Image.{Image}
use Rattle.rtr_sections.specs.Functions.{bad_function, end_before, end_of, function_at, function_count, function_holds, functions_in}
use Rattle.rtr_sections.specs.Functions.{holds_behind, is_function, unwind_place}
use Rattle.rtr_sections.specs.Header.{part_of}
use Rattle.rtr_sections.specs.Parts.{function_bytes, parts_of, part_bytes, unwind_bytes}
use Rattle.rtr_sections.specs.Plan.{AreInOrder, IsPlan}
use Rattle.rtr_sections.specs.Written.{Carries}
use Rattle.rtr_sections.proofs.Types.{FitsTypes}
use Rattle.rtr_sections.proofs.Stands.{IsFound, Stands, are_parts, begins_with, end-is, found_whole, length-function_bytes, number_behind}
use Rattle.rtr_sections.proofs.Stands.{stands_behind, stands_front, unwinds_stand}
use Rattle.rtr_sections.proofs.HeaderBack.{functions_part}

-- the entry of a function at a place, and its unwind word
record EntryStands (file : List ℕ) (place : ℕ) (f : Function) : Type 0 where
  begin : u32_of file place ≡ f.begin
  word : ℕ
  unwind : unwind_place file place ≡ Some word
  len : u32_of file word ≡ f.length

abbrev EntriesStand : List ℕ → ℕ → List Function → Type 0
EntriesStand file place [] = Unit {0}
EntriesStand file place (f ∷ fs) = EntryStands file place f × EntriesStand file (place + 8) fs

abbrev function : ℕ → ℕ → Function
function begin len = record { begin = begin; length = len }

abbrev Fits : Function → Type 0
Fits f = (f.begin < 2 ^ 32) × (f.length < 2 ^ 32)

-- a word that is at an RVA
word_found : (file : List ℕ) (rva x : ℕ) → x < 2 ^ 32 → Stands file rva (little_bytes 4 x)
    → (word : ℕ) × (place_of file rva 4 ≡ Some word) × (u32_of file word ≡ x)
word_found file rva x fits stands =
    let found : IsFound file rva (little_bytes 4 x) = found_whole file rva (little_bytes 4 x) stands (omega arith) in
    let whole = begins_with file found.place (little_bytes 4 x) found.bytes in
    let here : found.place + 0 ≡ found.place = omega arith in
    let read : field_at 4 file found.place ≡ Some x =
    ap (λ (t : ℕ). field_at 4 file t) (sym here)
    ∙ number_behind 4 x file found.place [] (drop 4 (drop found.place file)) whole (omega (arith, found.inside)) fits in
    (found.place, found.found, ap (λ (t : Option ℕ). unwrap_or t 0) read)

entries_found : (fs : List Function) (file rest : List ℕ) (place rva : ℕ) → (0 < length fs → place + 8 * length fs ≤ length file)
    → drop place file ≡ function_bytes rva fs ++ rest
    → Stands file rva (unwind_bytes fs) → rva + 4 * length fs ≤ 2 ^ 32 → All Fits fs → EntriesStand file place fs
entries_found [] file rest place rva long whole unwinds low fits = tt
entries_found (f ∷ fs) file rest place rva long whole unwinds low fits =
    let inside : place + 8 * (length fs + 1) ≤ length file = omega (arith, long (omega arith)) in
    let here : place + 0 ≡ place = omega arith in
    let fit : Fits f = All-head Fits f fs fits in
    let others = function_bytes (rva + 4) fs ++ rest in
    let begin : field_at 4 file place ≡ Some f.begin =
    ap (λ (t : ℕ). field_at 4 file t) (sym here)
    ∙ number_behind 4 f.begin file place [] (little_bytes 4 rva ++ others) whole (omega arith) fit.0 in
    let unwind : field_at 4 file (place + 4) ≡ Some rva =
    number_behind 4 rva file place (little_bytes 4 f.begin) others whole (omega arith) (omega arith) in
    let word = word_found file rva f.length fit.1 (stands_front file rva (little_bytes 4 f.length) (unwind_bytes fs) unwinds) in
    let named : unwind_place file place ≡ Some word.0 = ap (λ (t : Option ℕ). place_of file (unwrap_or t 0) 4) unwind ∙ word.1 in
    let behind : drop (place + 8) file ≡ others = sym (drop-drop 8 place file) ∙ ap (λ (t : List ℕ). drop 8 t) whole in (
      record { begin = ap (λ (t : Option ℕ). unwrap_or t 0) begin; word = word.0; unwind = named; len = word.2 },
      entries_found fs file rest (place + 8) (rva + 4) (λ some. omega arith) behind
          (stands_behind file rva (little_bytes 4 f.length) (unwind_bytes fs) unwinds) (omega arith) (All-tail Fits f fs fits),
    )

same_function : (file : List ℕ) (place : ℕ) (f : Function) → EntryStands file place f → function_at file place ≡ f
unfolding function_at
same_function file place f h =
    ap (λ (t : ℕ). function t (option_map_or (u32_of file) (unwind_place file place) 0)) h.begin
    ∙ ap (λ (t : Option ℕ). function f.begin (option_map_or (u32_of file) t 0)) h.unwind
    ∙ ap (λ (t : ℕ). function f.begin t) h.len

functions_found : (fs : List Function) (file : List ℕ) (place : ℕ) → EntriesStand file place fs
    → records (function_at file) place 8 (length fs) ≡ fs
functions_found [] file place h = refl
functions_found (f ∷ fs) file place (h, hs) =
    ap (λ (t : Function). t ∷ records (function_at file) (place + 8) 8 (length fs)) (same_function file place f h)
    ∙ ap (λ (t : List Function). f ∷ t) (functions_found fs file (place + 8) hs)

-- such an entry holds after code that ends at or before its begin
entry_holds : (file : List ℕ) (place low : ℕ) (f : Function) → EntryStands file place f → low ≤ f.begin → f.begin % 4 ≡ 0 → f.length % 4 ≡ 0
    → is_some (place_of file f.begin f.length) ≡ true
    → holds_behind file low place ≡ true
unfolding holds_behind
entry_holds file place low f h above b l placed =
    let whole : (f.begin % 4 == 0) ≡ true = eq-eqb (f.begin % 4) 0 b in
    let instructions : (f.length % 4 == 0) ≡ true = eq-eqb (f.length % 4) 0 l in
    let order : nat_le low f.begin ≡ true = le-leb low f.begin above in
    let good : is_function file low f ≡ true = rw (whole, instructions, placed, order) refl in
    and_from (is_some (unwind_place file place)) (is_function file low (function_at file place)) (ap (λ (t : Option ℕ). is_some t) h.unwind)
    (ap (λ (t : Function). is_function file low t) (same_function file place f h) ∙ good)

-- and the entry after it begins after its end
end_after : (file : List ℕ) (start place : ℕ) (f : Function) → EntryStands file place f → start ≤ place
    → end_before file start (place + 8) ≡ end_of f
unfolding end_before
end_after file start place f h behind =
    let later : nat_lt start (place + 8) ≡ true = lt-ltb start (place + 8) (omega arith) in
    let before : place + 8 - 8 ≡ place = omega arith in
    ap (λ (b : Bool). if b then end_of (function_at file (place + 8 - 8)) else 0) later ∙ ap (λ (t : ℕ). end_of (function_at file t)) before
    ∙ ap (λ (t : Function). end_of t) (same_function file place f h)

all_hold : (fs : List Function) (file : List ℕ) (start place low : ℕ) → EntriesStand file place fs → AreInOrder low fs
    → All (λ f. IsSome (place_of file f.begin f.length)) fs
    → start ≤ place → end_before file start place ≡ low → first_record (function_holds file start) place 8 (length fs) ≡ None
all_hold [] file start place low h order placed behind ends = refl
all_hold (f ∷ fs) file start place low (h, hs) (above, b, l, order) placed behind ends =
    let Placed : Function → Type 0 = λ g. IsSome (place_of file g.begin g.length) in
    let first : function_holds file start place ≡ true =
    ap (λ (t : ℕ). holds_behind file t place) ends ∙ entry_holds file place low f h above b l (All-head Placed f fs placed) in
    ap (λ (t : Bool). if t then first_record (function_holds file start) (place + 8) 8 (length fs) else Some place) first
    ∙ all_hold fs file start (place + 8) (end_of f) hs order (All-tail Placed f fs placed) (omega arith)
    (end_after file start place f h behind)

-- the part's entries are those of the plan's functions
plan_entries : (file : List ℕ) (plan : Image) (at rows : ℕ) → IsPlan plan at → FitsTypes plan → Carries file plan at rows
    → EntriesStand file (part_of file 102).start plan.functions
plan_entries file plan at rows p f c =
    let part = functions_part file plan at rows p f c in
    let place = (part_of file 102).start in
    let unwinds = at + (parts_of plan).unwinds in
    let piece = function_bytes unwinds plan.functions in
    let len = length-function_bytes unwinds plan.functions in
    let parts = are_parts plan in
    let small : length (part_bytes plan at) < 2 ^ 24 = p.small in
    let low : at ≤ 2 ^ 31 = p.low in
    let long : 0 < length plan.functions → place + 8 * length plan.functions ≤ length file =
    λ some. omega (arith, part.inside (omega arith)) in
    entries_found plan.functions file (drop (length piece) (drop place file)) place unwinds long (begins_with file place piece part.bytes)
    (unwinds_stand file plan at rows c) (omega (arith, end-is plan at)) f.functions

pub functions_counted : (file : List ℕ) (plan : Image) (at rows : ℕ) → IsPlan plan at → FitsTypes plan → Carries file plan at rows
    → function_count (part_of file 102) ≡ length plan.functions
functions_counted file plan at rows p f c =
    let part = functions_part file plan at rows p f c in
    omega (arith, part.len, length-function_bytes (at + (parts_of plan).unwinds) plan.functions)

pub functions_back : (file : List ℕ) (plan : Image) (at rows : ℕ) → IsPlan plan at → FitsTypes plan → Carries file plan at rows
    → functions_in file (part_of file 102) ≡ plan.functions
unfolding functions_in
functions_back file plan at rows p f c =
    let place = (part_of file 102).start in
    ap (λ (t : ℕ). records (function_at file) place 8 t) (functions_counted file plan at rows p f c)
    ∙ functions_found plan.functions file place (plan_entries file plan at rows p f c)

pub functions_good : (file : List ℕ) (plan : Image) (at rows : ℕ) → IsPlan plan at → FitsTypes plan → Carries file plan at rows
    → bad_function file (part_of file 102) ≡ None
unfolding bad_function end_before
functions_good file plan at rows p f c =
    let part = functions_part file plan at rows p f c in
    let s = part_of file 102 in
    let records_are_whole : s.len % 8 ≡ 0 = omega (arith, part.len, length-function_bytes (at + (parts_of plan).unwinds) plan.functions) in
    let whole : (s.len % 8 == 0) ≡ true = eq-eqb (s.len % 8) 0 records_are_whole in
    let none_before : end_before file s.start s.start ≡ 0 = ap (λ (b : Bool). if b then end_of (function_at file (s.start - 8)) else 0)
    (le-ltb s.start s.start (omega arith)) in
    ap (λ (b : Bool). if b then first_record (function_holds file s.start) s.start 8 (function_count s) else Some s.start) whole
    ∙ ap (λ (t : ℕ). first_record (function_holds file s.start) s.start 8 t) (functions_counted file plan at rows p f c)
    ∙ all_hold plan.functions file s.start s.start 0 (plan_entries file plan at rows p f c) p.planned.functions c.code (omega arith)
    none_before
