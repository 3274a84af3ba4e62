-- The header of a written image and its section records, read back.
use Rattle.std.proofs.Common.{◌≡◌, ℕ, ◌+◌, ◌-◌, ◌*◌, ◌%◌, ◌^◌, ◌<◌, ◌≤◌, Bool, true, false, ◌&&◌, ◌||◌, List, [], ◌∷◌, ◌++◌, All, Option}
use Rattle.std.proofs.Common.{Some, None, length, take, drop, refl, sym, ap, subst, ◌∙◌, inl, inr, arith}
use Rattle.std.specs.Prelude.{◌==◌, flat_map, find, if◌then◌else◌, is_some, nat_eq, not, unwrap_or}
use Rattle.std.specs.Cmp.Lexicographic.{pointwise}
use Rattle.std.specs.List.{list_any, starts_with}
use Rattle.std.specs.Option.{option_map, option_map_or}
use Rattle.std.proofs.lemmas.Bool.{cases_Bool, cases_lt, eq-eqb, eqb-true, lt-ltb, or_left, or_right}
use Rattle.std.proofs.lemmas.List.{drop-drop, nil_from_length}
use Rattle.std.proofs.lemmas.List.Elements.{All-head, All-tail}
use Rattle.byteorder.specs.Endian.{little_bytes}
use Rattle.rtr_bytes.specs.declared.fault.Span.{Span}
use Rattle.rtr_bytes.specs.Field.{field_at, u16_of, u32_of}
use Rattle.rtr_bytes.specs.Checks.{first_fault, first_record, holds_or, records}
use Rattle.pe_image.specs.Headers.{cli_at, machine_of, native_of, place_of}
use Rattle.rtr_sections.proofs.CheckLists.{pass-by}
use Rattle.rtr_sections.specs.declared.header.RtrSection.{RtrSection}
use Rattle.rtr_sections.specs.declared.header.RtrHeader.{RtrHeader}
use Rattle.rtr_sections.specs.declared.image.Image.{Image}
use Rattle.rtr_sections.specs.Header.{ascends, header_checks, identifier, if_native, imports_are_whole, is_identifier, is_own, is_own_kind}
use Rattle.rtr_sections.specs.Header.{native_at, native_rva, part_at, part_of, range_is_placed, record_count, records_at, records_place}
use Rattle.rtr_sections.specs.Header.{rtr_header_of, rtr_section_at, rtr_sections_of}
use Rattle.rtr_sections.specs.Parts.{entry_bytes, function_bytes, header_bytes, import_bytes, parts_of, part_bytes, section, section_bytes}
use Rattle.rtr_sections.specs.Parts.{thunks_of, written_imports, written_sections}
use Rattle.rtr_sections.specs.Plan.{IsPlan}
use Rattle.rtr_sections.specs.Written.{Carries, IsPlaced, back_image}
use Rattle.rtr_sections.proofs.Types.{FitsTypes}
use Rattle.rtr_sections.proofs.Stands.{IsFound, IsPart, Stands, are_parts, begins_with, end-is, entries_stand, found_whole, functions_stand}
use Rattle.rtr_sections.proofs.Stands.{header_stands, identifier_stands, imports_stand, length-entries, length-functions, length-imports}
use Rattle.rtr_sections.proofs.Stands.{number_behind, stands_behind, stands_front}

-- ---- the header's first 16 bytes

abbrev head_bytes : ℕ → List ℕ
head_bytes flags = little_bytes 4 0x00525452 ++ (little_bytes 2 5 ++ (little_bytes 2 0 ++ (little_bytes 4 flags ++ little_bytes 4 5)))

record HasHead (file : List ℕ) (rva flags : ℕ) : Type 0 where
  place : ℕ
  found : place_of file rva 16 ≡ Some place
  signature : u32_of file place ≡ 0x00525452
  major : u16_of file (place + 4) ≡ 5
  minor : u16_of file (place + 6) ≡ 0
  flags_are : u32_of file (place + 8) ≡ flags
  count : u32_of file (place + 12) ≡ 5

number_of : (o : Option ℕ) (x : ℕ) → o ≡ Some x → unwrap_or o 0 ≡ x
number_of o x e = ap (λ (t : Option ℕ). unwrap_or t 0) e

has_head : (file : List ℕ) (rva flags : ℕ) → flags < 2 ^ 32 → Stands file rva (head_bytes flags) → HasHead file rva flags
has_head file rva flags fits stands =
    let found : IsFound file rva (head_bytes flags) = found_whole file rva (head_bytes flags) stands (omega arith) in
    let p = found.place in
    let inside : p + 16 ≤ length file = found.inside in
    let rest = drop 16 (drop p file) in
    let whole : drop p file ≡ head_bytes flags ++ rest = begins_with file p (head_bytes flags) found.bytes in
    let here : p + 0 ≡ p = omega arith in
    let signature = number_behind 4 0x00525452 file p []
    (little_bytes 2 5 ++ (little_bytes 2 0 ++ (little_bytes 4 flags ++ (little_bytes 4 5 ++ rest)))) whole (omega arith) (omega arith) in
    let major =
    number_behind 2 5 file p (little_bytes 4 0x00525452) (little_bytes 2 0 ++ (little_bytes 4 flags ++ (little_bytes 4 5 ++ rest))) whole
    (omega arith) (omega arith) in
    let minor =
    number_behind 2 0 file p (little_bytes 4 0x00525452 ++ little_bytes 2 5) (little_bytes 4 flags ++ (little_bytes 4 5 ++ rest)) whole
    (omega arith) (omega arith) in
    let flags_are = number_behind 4 flags file p (little_bytes 4 0x00525452 ++ (little_bytes 2 5 ++ little_bytes 2 0))
    (little_bytes 4 5 ++ rest) whole (omega arith) fits in
    let count =
    number_behind 4 5 file p (little_bytes 4 0x00525452 ++ (little_bytes 2 5 ++ (little_bytes 2 0 ++ little_bytes 4 flags))) rest whole
    (omega arith) (omega arith) in
    record {
      place = p;
      found = found.found;
      signature = ap (λ (t : ℕ). u32_of file t) (sym here) ∙ number_of (field_at 4 file (p + 0)) 0x00525452 signature;
      major = number_of (field_at 2 file (p + 4)) 5 major;
      minor = number_of (field_at 2 file (p + 6)) 0 minor;
      flags_are = number_of (field_at 4 file (p + 8)) flags flags_are;
      count = number_of (field_at 4 file (p + 12)) 5 count;
    }

-- ---- section records

record SectionFits (s : RtrSection) : Type 0 where
  kind : s.kind < 2 ^ 32
  rva : s.rva < 2 ^ 32
  size : s.size < 2 ^ 32

abbrev AllOf : (RtrSection → Type 0) → List RtrSection → Type 0
AllOf P [] = Unit {0}
AllOf P (s ∷ ss) = P s × AllOf P ss

section_found : (file rest : List ℕ) (place : ℕ) (s : RtrSection) → SectionFits s → place + 12 ≤ length file
    → drop place file ≡ section_bytes s ++ rest → rtr_section_at file place ≡ s
section_found file rest place s fits inside whole =
    let here : place + 0 ≡ place = omega arith in
    let kind =
    number_behind 4 s.kind file place [] (little_bytes 4 s.rva ++ (little_bytes 4 s.size ++ rest)) whole (omega arith) fits.kind in
    let rva = number_behind 4 s.rva file place (little_bytes 4 s.kind) (little_bytes 4 s.size ++ rest) whole (omega arith) fits.rva in
    let size = number_behind 4 s.size file place (little_bytes 4 s.kind ++ little_bytes 4 s.rva) rest whole (omega arith) fits.size in
    ap (λ (t : ℕ). section (u32_of file t) (u32_of file (place + 4)) (u32_of file (place + 8))) (sym here)
    ∙ ap (λ (t : ℕ). section t (u32_of file (place + 4)) (u32_of file (place + 8))) (number_of (field_at 4 file (place + 0)) s.kind kind)
    ∙ ap (λ (t : ℕ). section s.kind t (u32_of file (place + 8))) (number_of (field_at 4 file (place + 4)) s.rva rva)
    ∙ ap (λ (t : ℕ). section s.kind s.rva t) (number_of (field_at 4 file (place + 8)) s.size size)

sections_found : (ss : List RtrSection) (file rest : List ℕ) (place : ℕ) → AllOf SectionFits ss → place + 12 * length ss ≤ length file
    → drop place file ≡ flat_map section_bytes ss ++ rest
    → records (rtr_section_at file) place 12 (length ss) ≡ ss
sections_found [] file rest place fits inside whole = refl
sections_found (s ∷ ss) file rest place (fits, others) inside whole =
    let table = flat_map section_bytes ss ++ rest in
    let first : rtr_section_at file place ≡ s = section_found file table place s fits (omega arith) whole in
    let behind : drop (place + 12) file ≡ table = sym (drop-drop 12 place file) ∙ ap (λ (t : List ℕ). drop 12 t) whole in
    ap (λ (t : RtrSection). t ∷ records (rtr_section_at file) (place + 12) 12 (length ss)) first
    ∙ ap (λ (t : List RtrSection). s ∷ t) (sections_found ss file rest (place + 12) others (omega arith) behind)

first_of : {X : Type 0} (x y : X) (xs ys : List X) → x ∷ xs ≡ y ∷ ys → x ≡ y
first_of x y xs ys e = cc

rest_of : {X : Type 0} (x y : X) (xs ys : List X) → x ∷ xs ≡ y ∷ ys → xs ≡ ys
rest_of x y xs ys e = cc

-- a test that what holds of each record passes finds no bad one
none_fails : (f : ℕ → RtrSection) (test : ℕ → Bool) (P : RtrSection → Type 0) → ((place : ℕ) → P (f place) → test place ≡ true)
    → (ss : List RtrSection) (place : ℕ) → records f place 12 (length ss) ≡ ss → AllOf P ss → first_record test place 12 (length ss) ≡ None
none_fails f test P passes [] place e all = refl
none_fails f test P passes (s ∷ ss) place e (h, hs) =
    let first : f place ≡ s = first_of (f place) s (records f (place + 12) 12 (length ss)) ss e in
    let good : test place ≡ true = passes place (subst P (sym first) h) in
    ap (λ (b : Bool). if b then first_record test (place + 12) 12 (length ss) else Some place) good
    ∙ none_fails f test P passes ss (place + 12) (rest_of (f place) s (records f (place + 12) 12 (length ss)) ss e) hs

-- types that ascend from one on
abbrev AscendAbove : ℕ → List RtrSection → Type 0
AscendAbove kind [] = Unit {0}
AscendAbove kind (s ∷ ss) = (kind < s.kind) × AscendAbove s.kind ss

abbrev TypesAscend : List RtrSection → Type 0
TypesAscend [] = Unit {0}
TypesAscend (s ∷ ss) = AscendAbove s.kind ss

ascending : (file : List ℕ) (ss : List RtrSection) (place kind : ℕ) → records (rtr_section_at file) place 12 (length ss) ≡ ss
    → u32_of file (place - 12) ≡ kind → AscendAbove kind ss
    → first_record (ascends file) place 12 (length ss) ≡ None
ascending file [] place kind e before all = refl
ascending file (s ∷ ss) place kind e before (h, hs) =
    let others = records (rtr_section_at file) (place + 12) 12 (length ss) in
    let first : rtr_section_at file place ≡ s = first_of (rtr_section_at file place) s others ss e in
    let own : u32_of file place ≡ s.kind = ap (λ (t : RtrSection). t.kind) first in
    let good : ascends file place ≡ true = lt-ltb (u32_of file (place - 12)) (u32_of file place) (omega (arith, own, before)) in
    let back : place + 12 - 12 ≡ place = omega arith in
    ap (λ (b : Bool). if b then first_record (ascends file) (place + 12) 12 (length ss) else Some place) good
    ∙ ascending file ss (place + 12) s.kind (rest_of (rtr_section_at file place) s others ss e) (ap (λ (t : ℕ). u32_of file t) back ∙ own)
    hs

all_ascend : (file : List ℕ) (ss : List RtrSection) (place : ℕ) → records (rtr_section_at file) place 12 (length ss) ≡ ss → TypesAscend ss
    → first_record (ascends file) (place + 12) 12 (length ss - 1) ≡ None
all_ascend file [] place e all = refl
all_ascend file (s ∷ ss) place e all =
    let others = records (rtr_section_at file) (place + 12) 12 (length ss) in
    let one_less : length (s ∷ ss) - 1 ≡ length ss = omega arith in
    let back : place + 12 - 12 ≡ place = omega arith in
    let own : u32_of file place ≡ s.kind = ap (λ (t : RtrSection). t.kind) (first_of (rtr_section_at file place) s others ss e) in
    ap (λ (t : ℕ). first_record (ascends file) (place + 12) 12 t) one_less
    ∙ ascending file ss (place + 12) s.kind (rest_of (rtr_section_at file place) s others ss e) (ap (λ (t : ℕ). u32_of file t) back ∙ own)
    all

-- a part of whole import records
abbrev IsWhole : RtrSection → Type 0
IsWhole s = s.kind ≡ 101 → s.size % 20 ≡ 0

placed_or : (file : List ℕ) (s : RtrSection) → IsPlaced file s
    → (not (is_own_kind s.kind) || s.size == 0 || is_some (place_of file s.rva s.size)) ≡ true
placed_or file s h =
    let own = not (is_own_kind s.kind) in
    elim (cases_lt 0 s.size) [
      | inl some ↦ or_right (own || s.size == 0) (is_some (place_of file s.rva s.size)) (h some)
      | inr none ↦
          or_left (own || s.size == 0) (is_some (place_of file s.rva s.size)) (or_right own (s.size == 0) (eq-eqb s.size 0 (omega arith)))
    ]

whole_or : (s : RtrSection) → IsWhole s → (not (s.kind == 101) || s.size % 20 == 0) ≡ true
whole_or s h =
    elim (cases_Bool (s.kind == 101)) [
      | inl is ↦ or_right (not (s.kind == 101)) (s.size % 20 == 0) (eq-eqb (s.size % 20) 0 (h (eqb-true s.kind 101 is)))
      | inr other ↦ or_left (not (s.kind == 101)) (s.size % 20 == 0) (ap (λ (b : Bool). not b) other)
    ]

-- ---- the header with its records

record HasHeader (file : List ℕ) (flags : ℕ) (sections : List RtrSection) : Type 0 where
  native : is_some (native_of file) ≡ true
  found : is_some (place_of file (native_rva file) 16) ≡ true
  signature : u32_of file (native_at file) ≡ 0x00525452
  major : u16_of file (native_at file + 4) ≡ 5
  minor : u16_of file (native_at file + 6) ≡ 0
  flags_are : u32_of file (native_at file + 8) ≡ flags
  count : record_count file ≡ length sections
  records_found : is_some (records_place file) ≡ true
  records_are : records (rtr_section_at file) (records_at file) 12 (length sections) ≡ sections

named : (b : Bool) (r s : ℕ) (span : Span) → ◌≡◌ {A = Option Span} (if b then None else Some (record { start = r; len = s })) (Some span)
    → r ≡ span.start
named true r s span e = absurd (let x : ⊥ = cc in x)
named false r s span e = ap (λ (t : Option Span). start_of t) e
  where
    start_of : Option Span → ℕ
    start_of None = 0
    start_of (Some t) = t.start

length-records : (ss : List RtrSection) → length (flat_map section_bytes ss) ≡ 12 * length ss
length-records [] = refl
length-records (s ∷ ss) = omega (arith, length-records ss)

has_header : (file : List ℕ) (rva flags : ℕ) (sections : List RtrSection) → native_of file ≡ Some (record { start = rva; len = 76 })
    → length sections ≡ 5 → AllOf SectionFits sections
    → flags < 2 ^ 32 → Stands file rva (header_bytes flags sections) → HasHeader file flags sections
has_header file rva flags sections native five fits flags_fit stands =
    let table = flat_map section_bytes sections in
    let long = length-records sections in
    let head : HasHead file rva flags = has_head file rva flags flags_fit (stands_front file rva (head_bytes flags) table stands) in
    let behind : IsFound file (rva + 16) table =
    found_whole file (rva + 16) table (stands_behind file rva (head_bytes flags) table stands) (omega arith) in
    let native_size = u32_of file (cli_at file + 68) in
    let is : native_rva file ≡ rva =
    named (native_rva file == 0 && native_size == 0) (native_rva file) native_size (record { start = rva; len = 76 }) native in
    let at : native_at file ≡ head.place = ap (λ (t : ℕ). unwrap_or (place_of file t 16) 0) is
    ∙ number_of (place_of file rva 16) head.place head.found in
    let five_records : record_count file ≡ 5 = ap (λ (t : ℕ). u32_of file (t + 12)) at ∙ head.count in
    let size : 12 * record_count file ≡ length table = omega arith in
    let records_are_at : records_place file ≡ Some behind.place = ap (λ (t : ℕ). place_of file (native_rva file + 16) t) size
    ∙ ap (λ (t : ℕ). place_of file (t + 16) (length table)) is ∙ behind.found in
    record {
      native = ap (λ (t : Option Span). is_some t) native;
      found = ap (λ (t : ℕ). is_some (place_of file t 16)) is ∙ ap (λ (t : Option ℕ). is_some t) head.found;
      signature = ap (λ (t : ℕ). u32_of file t) at ∙ head.signature;
      major = ap (λ (t : ℕ). u16_of file (t + 4)) at ∙ head.major;
      minor = ap (λ (t : ℕ). u16_of file (t + 6)) at ∙ head.minor;
      flags_are = ap (λ (t : ℕ). u32_of file (t + 8)) at ∙ head.flags_are;
      count = five_records ∙ sym five;
      records_found = ap (λ (t : Option ℕ). is_some t) records_are_at;
      records_are =
          ap (λ (t : ℕ). records (rtr_section_at file) t 12 (length sections)) (number_of (records_place file) behind.place records_are_at)
          ∙ sections_found sections file (drop (length table) (drop behind.place file)) behind.place fits (omega (arith, behind.inside))
          (begins_with file behind.place table behind.bytes);
    }

sections_back : (file : List ℕ) (flags : ℕ) (sections : List RtrSection) → HasHeader file flags sections → rtr_sections_of file ≡ sections
sections_back file flags sections h = ap (λ (t : ℕ). records (rtr_section_at file) (records_at file) 12 t) h.count ∙ h.records_are

native_passes : (file : List ℕ) (o : Option ℕ) → o ≡ None → if_native file o ≡ None
native_passes file o e =
    ap (λ (t : Option ℕ). if_native file t) e ∙ neither (is_some (native_of file))
  where
    neither : (b : Bool) → ◌≡◌ {A = Option ℕ} (if b then None else None) None
    neither true = refl
    neither false = refl

-- no check of the header and its records fails
header_good : (file : List ℕ) (flags : ℕ) (sections : List RtrSection) → HasHeader file flags sections → TypesAscend sections
    → AllOf (IsPlaced file) sections → AllOf IsWhole sections
    → first_fault header_checks file ≡ None
unfolding header_checks
header_good file flags sections h ascend placed whole =
    let at = records_at file in
    let n = record_count file in
    let signature : (u32_of file (native_at file) == 0x00525452) ≡ true = eq-eqb (u32_of file (native_at file)) 0x00525452 h.signature in
    let order : first_record (ascends file) (at + 12) 12 (n - 1) ≡ None =
    ap (λ (t : ℕ). first_record (ascends file) (at + 12) 12 (t - 1)) h.count ∙ all_ascend file sections at h.records_are ascend in
    let ranges : first_record (range_is_placed file) at 12 n ≡ None =
    ap (λ (t : ℕ). first_record (range_is_placed file) at 12 t) h.count
    ∙ none_fails (rtr_section_at file) (range_is_placed file) (IsPlaced file)
    (λ place e. placed_or file (rtr_section_at file place) e) sections at h.records_are placed in
    let sizes : first_record (imports_are_whole file) at 12 n ≡ None =
    ap (λ (t : ℕ). first_record (imports_are_whole file) at 12 t) h.count
    ∙ none_fails (rtr_section_at file) (imports_are_whole file) IsWhole (λ place e. whole_or (rtr_section_at file place) e) sections at
    h.records_are whole in
    pass-by header_checks [] file (
      native_passes file _ (ap (λ (b : Bool). holds_or b (cli_at file + 64)) h.found),
      (
        native_passes file _ (ap (λ (b : Bool). holds_or b (native_at file)) signature),
        (
          native_passes file _ (ap (λ (b : Bool). holds_or b (native_at file + 12)) h.records_found),
          (
            native_passes file _ order,
            (
              native_passes file _ (ap (λ (t : Option ℕ). option_map (λ place. place + 4) t) ranges),
              (native_passes file _ (ap (λ (t : Option ℕ). option_map (λ place. place + 8) t) sizes), tt),
            ),
          ),
        ),
      ),
    )

-- ---- the section records of a plan

abbrev ThunksFit : RtrSection → Type 0
ThunksFit s = (s.rva < 2 ^ 32) × (s.size < 2 ^ 32)

found_fits : (P : RtrSection → Type 0) (test : RtrSection → Bool) (other : RtrSection) → P other → (ss : List RtrSection) → All P ss
    → P (unwrap_or (find test ss) other)
found_fits P test other h [] all = h
found_fits P test other h (s ∷ ss) all = one_of (test s) (All-head P s ss all) (found_fits P test other h ss (All-tail P s ss all))
  where
    one_of : (b : Bool) → P s → P (unwrap_or (find test ss) other) → P (unwrap_or (if b then Some s else find test ss) other)
    one_of true this rest = this
    one_of false this rest = rest

sections_fit : (file : List ℕ) (plan : Image) (at rows : ℕ) → IsPlan plan at → FitsTypes plan → AllOf SectionFits (written_sections plan at)
unfolding written_sections
sections_fit file plan at rows p f =
    let parts = are_parts plan in
    let end = end-is plan at in
    let small : length (part_bytes plan at) < 2 ^ 24 = p.small in
    let low : at ≤ 2 ^ 31 = p.low in
    let thunks : ThunksFit (thunks_of plan.header.sections) =
    found_fits ThunksFit (λ s. s.kind == 106) (section 106 0 0) (omega arith, omega arith) plan.header.sections f.sections in (
      record { kind = omega arith; rva = omega arith; size = omega arith },
      (
        record { kind = omega arith; rva = omega arith; size = omega arith },
        (
          record { kind = omega arith; rva = omega arith; size = omega arith },
          (
            record { kind = omega arith; rva = omega arith; size = omega arith },
            (record { kind = omega arith; rva = thunks.0; size = thunks.1 }, tt),
          ),
        ),
      ),
    )

types_ascend : (plan : Image) (at : ℕ) → TypesAscend (written_sections plan at)
unfolding written_sections
types_ascend plan at = (omega arith, (omega arith, (omega arith, (omega arith, tt))))

imports_whole : (plan : Image) (at : ℕ) → AllOf IsWhole (written_sections plan at)
unfolding written_sections
imports_whole plan at =
    let parts = are_parts plan in (
      (λ is. absurd (omega arith)),
      ((λ is. omega arith), ((λ is. absurd (omega arith)), ((λ is. absurd (omega arith)), ((λ is. absurd (omega arith)), tt)))),
    )

-- a part's range is where its bytes are
part_placed : (file : List ℕ) (rva size : ℕ) (piece : List ℕ) → Stands file rva piece → size ≡ length piece → 0 < size
    → is_some (place_of file rva size) ≡ true
part_placed file rva size piece stands is some =
    let found : IsFound file rva piece = found_whole file rva piece stands (omega arith) in
    ap (λ (t : ℕ). is_some (place_of file rva t)) is ∙ ap (λ (t : Option ℕ). is_some t) found.found

sections_placed : (file : List ℕ) (plan : Image) (at rows : ℕ) → Carries file plan at rows
    → AllOf (IsPlaced file) (written_sections plan at)
unfolding written_sections
sections_placed file plan at rows c =
    let s = parts_of plan in (
      part_placed file (at + s.identifier) 14 identifier (identifier_stands file plan at rows c) refl,
      (
        part_placed file (at + s.imports) (s.arrays - s.imports) (flat_map import_bytes (written_imports plan at))
            (imports_stand file plan at rows c) (omega (arith, length-imports plan at)),
        (
          part_placed file (at + s.functions) (s.unwinds - s.functions) (function_bytes (at + s.unwinds) plan.functions)
              (functions_stand file plan at rows c) (omega (arith, length-functions plan (at + s.unwinds))),
          (
            part_placed file (at + s.entries) (s.end - s.entries) (entry_bytes plan.entries) (entries_stand file plan at rows c)
                (omega (arith, length-entries plan)),
            (c.thunks, tt),
          ),
        ),
      ),
    )

five_sections : (plan : Image) (at : ℕ) → length (written_sections plan at) ≡ 5
unfolding written_sections
five_sections plan at = refl

-- ---- what is read back

plan_header : (file : List ℕ) (plan : Image) (at rows : ℕ) → IsPlan plan at → FitsTypes plan → Carries file plan at rows
    → HasHeader file plan.header.flags (written_sections plan at)
plan_header file plan at rows p f c =
    has_header file (at + (parts_of plan).header) plan.header.flags (written_sections plan at) c.native (five_sections plan at)
    (sections_fit file plan at rows p f) f.flags (header_stands file plan at rows c)

pub header_well_formed : (file : List ℕ) (plan : Image) (at rows : ℕ) → IsPlan plan at → FitsTypes plan → Carries file plan at rows
    → first_fault header_checks file ≡ None
header_well_formed file plan at rows p f c =
    header_good file plan.header.flags (written_sections plan at) (plan_header file plan at rows p f c) (types_ascend plan at)
    (sections_placed file plan at rows c) (imports_whole plan at)

abbrev header : ℕ → ℕ → ℕ → ℕ → List RtrSection → RtrHeader
header at major minor flags sections = record { at = at; major = major; minor = minor; flags = flags; sections = sections }

pub header_back : (file : List ℕ) (plan : Image) (at rows : ℕ) → IsPlan plan at → FitsTypes plan → Carries file plan at rows
    → rtr_header_of file ≡ (back_image plan at (native_at file)).header
unfolding rtr_header_of back_image
header_back file plan at rows p f c =
    let h = plan_header file plan at rows p f c in
    let n = native_at file in
    ap (λ (t : ℕ). header n t (u16_of file (n + 6)) (u32_of file (n + 8)) (rtr_sections_of file)) h.major
    ∙ ap (λ (t : ℕ). header n 5 t (u32_of file (n + 8)) (rtr_sections_of file)) h.minor
    ∙ ap (λ (t : ℕ). header n 5 0 t (rtr_sections_of file)) h.flags_are
    ∙ ap (λ (t : List RtrSection). header n 5 0 plan.header.flags t) (sections_back file plan.header.flags (written_sections plan at) h)

-- the identifier's section is found by its bytes
identified : (file : List ℕ) (rva : ℕ) → Stands file rva identifier → is_identifier file (section 100 rva 14) ≡ true
identified file rva stands =
    let found : IsFound file rva identifier = found_whole file rva identifier stands (omega arith) in
    ap (λ (t : Option ℕ). option_map_or (λ place. starts_with nat_eq (drop place file) identifier) t false) found.found
    ∙ ap (λ (t : List ℕ). pointwise nat_eq identifier t) found.bytes

one_identified : (file : List ℕ) (plan : Image) (at : ℕ) → Stands file (at + (parts_of plan).identifier) identifier
    → list_any (is_identifier file) (written_sections plan at) ≡ true
unfolding written_sections
one_identified file plan at stands =
    or_left (is_identifier file (section 100 (at + (parts_of plan).identifier) 14)) false
    (identified file (at + (parts_of plan).identifier) stands)

pub own_back : (file : List ℕ) (plan : Image) (at rows : ℕ) → IsPlan plan at → FitsTypes plan → Carries file plan at rows
    → is_own file ≡ true
unfolding is_own
own_back file plan at rows p f c =
    let h = plan_header file plan at rows p f c in
    let machine : (machine_of file == 0xAA64) ≡ true = eq-eqb (machine_of file) 0xAA64 c.machine in
    let major : (u16_of file (native_at file + 4) == 5) ≡ true = eq-eqb (u16_of file (native_at file + 4)) 5 h.major in
    let minor : (u16_of file (native_at file + 6) == 0) ≡ true = eq-eqb (u16_of file (native_at file + 6)) 0 h.minor in
    let one : list_any (is_identifier file) (rtr_sections_of file) ≡ true =
    ap (λ (t : List RtrSection). list_any (is_identifier file) t) (sections_back file plan.header.flags (written_sections plan at) h)
    ∙ one_identified file plan at (identifier_stands file plan at rows c) in
    all_four (machine_of file == 0xAA64) (u16_of file (native_at file + 4) == 5) (u16_of file (native_at file + 6) == 0)
    (list_any (is_identifier file) (rtr_sections_of file)) machine major minor one
  where
    all_four : (a b c d : Bool) → a ≡ true → b ≡ true → c ≡ true → d ≡ true → (a && b && c && d) ≡ true
    all_four a b c d ha hb hc hd = rw (ha, hb, hc, hd) refl

-- ---- the parts

record IsSpanOf (file : List ℕ) (s : Span) (piece : List ℕ) : Type 0 where
  len : s.len ≡ length piece
  inside : 0 < length piece → s.start + length piece ≤ length file
  bytes : take (length piece) (drop s.start file) ≡ piece

span_of : (file : List ℕ) (kind rva size : ℕ) (piece : List ℕ) → Stands file rva piece → size ≡ length piece
    → IsSpanOf file (part_at file (Some (section kind rva size))) piece
span_of file kind rva size piece stands is = elim (cases_lt 0 (length piece)) [
  | inl some ↦
      let found : IsFound file rva piece = found_whole file rva piece stands some in
      let start : unwrap_or (place_of file rva size) 0 ≡ found.place = ap (λ (t : ℕ). unwrap_or (place_of file rva t) 0) is
      ∙ number_of (place_of file rva (length piece)) found.place found.found in
      record {
        len = is;
        inside = λ h. omega (arith, start, found.inside);
        bytes = ap (λ (t : ℕ). take (length piece) (drop t file)) start
            ∙ found.bytes;
      }
  | inr none ↦
      let empty : piece ≡ [] = nil_from_length piece (omega arith) in
      let zero_long : length piece ≡ 0 = omega arith in
      record {
        len = is;
        inside = λ h. absurd (omega arith);
        bytes = ap
            (λ (t : ℕ). take t (drop (unwrap_or (place_of file rva size) 0) file)) zero_long ∙ sym empty;
      }
]

is_part : (file : List ℕ) (kind : ℕ) (s : RtrSection) (sections : List RtrSection) (piece : List ℕ) → rtr_sections_of file ≡ sections
    → find (λ t. t.kind == kind) sections ≡ Some s
    → IsSpanOf file (part_at file (Some s)) piece → IsPart file kind piece
unfolding part_of
is_part file kind s sections piece same found h =
    let e : part_of file kind ≡ part_at file (Some s) = ap (λ (t : Option RtrSection). part_at file t)
    (ap (λ (t : List RtrSection). find (λ u. u.kind == kind) t) same ∙ found) in
    let g : IsSpanOf file (part_of file kind) piece = subst (λ (t : Span). IsSpanOf file t piece) (sym e) h in
    record { len = g.len; inside = g.inside; bytes = g.bytes }

pub imports_part : (file : List ℕ) (plan : Image) (at rows : ℕ) → IsPlan plan at → FitsTypes plan → Carries file plan at rows
    → IsPart file 101 (flat_map import_bytes (written_imports plan at))
unfolding written_sections
imports_part file plan at rows p f c =
    let s = parts_of plan in
    let piece = flat_map import_bytes (written_imports plan at) in
    let size = s.arrays - s.imports in
    is_part file 101 (section 101 (at + s.imports) size) (written_sections plan at) piece
    (sections_back file plan.header.flags (written_sections plan at) (plan_header file plan at rows p f c)) refl
    (span_of file 101 (at + s.imports) size piece (imports_stand file plan at rows c) (omega (arith, length-imports plan at)))

pub functions_part : (file : List ℕ) (plan : Image) (at rows : ℕ) → IsPlan plan at → FitsTypes plan → Carries file plan at rows
    → IsPart file 102 (function_bytes (at + (parts_of plan).unwinds) plan.functions)
unfolding written_sections
functions_part file plan at rows p f c =
    let s = parts_of plan in
    let piece = function_bytes (at + s.unwinds) plan.functions in
    let size = s.unwinds - s.functions in
    is_part file 102 (section 102 (at + s.functions) size) (written_sections plan at) piece
    (sections_back file plan.header.flags (written_sections plan at) (plan_header file plan at rows p f c)) refl
    (span_of file 102 (at + s.functions) size piece (functions_stand file plan at rows c)
    (omega (arith, length-functions plan (at + s.unwinds))))

pub entries_part : (file : List ℕ) (plan : Image) (at rows : ℕ) → IsPlan plan at → FitsTypes plan → Carries file plan at rows
    → IsPart file 103 (entry_bytes plan.entries)
unfolding written_sections
entries_part file plan at rows p f c =
    let s = parts_of plan in
    let piece = entry_bytes plan.entries in
    let size = s.end - s.entries in
    is_part file 103 (section 103 (at + s.entries) size) (written_sections plan at) piece
    (sections_back file plan.header.flags (written_sections plan at) (plan_header file plan at rows p f c)) refl
    (span_of file 103 (at + s.entries) size piece (entries_stand file plan at rows c) (omega (arith, length-entries plan)))
