-- The bytes of a written part, put together of its pieces, and what bounds them.
use Rattle.std.proofs.Common.{◌≡◌, ℕ, ◌+◌, ◌-◌, ◌*◌, ◌^◌, ◌<◌, List, [], ◌∷◌, ◌++◌, length, map, All, refl, ap, ◌∙◌, sym, append_assoc}
use Rattle.std.proofs.Common.{append-nil, arith}
use Rattle.std.specs.Prelude.{flat_map}
use Rattle.rtr_bytes.specs.declared.fault.Span.{Span}
use Rattle.rtr_sections.specs.declared.header.RtrSection.{RtrSection}
use Rattle.rtr_sections.specs.declared.image.Image.{Image}
use Rattle.rtr_sections.specs.declared.imports.ImportSection.{ImportSection}
use Rattle.rtr_sections.specs.declared.written.PartPlaces.{PartPlaces}
use Rattle.rtr_sections.specs.Header.{identifier}
use Rattle.rtr_sections.specs.Parts.{Parts, cell_bytes, entry_bytes, function_bytes, header_bytes, import_bytes, parts_of, placed_imports}
use Rattle.rtr_sections.specs.Parts.{part_bytes, section, sections_at, signature_bytes_of, signature_rvas, thunks_of, unwind_bytes, words}
use Rattle.rtr_sections.specs.Parts.{written_imports, written_sections}
use Rattle.rtr_sections.specs.PartPlaces.{ArePlaces, ranged}
use Rattle.rtr_sections.specs.Plan.{IsPlan, IsWellPlanned, SlotsAscend}
use Rattle.rtr_sections.proofs.Stands.{end-is}

-- ---- bounds

-- how long what was made of a part of the plan is
pub made_length : {X : Type 0} (f : X → List ℕ) (x y : X) (v : List ℕ) (n : ℕ) → x ≡ y → v ≡ f x → length v ≡ n → n ≡ length (f y)
made_length f x y v n same made len = sym len ∙ ap (λ (t : List ℕ). length t) (made ∙ ap f same)

-- the parts' lengths are together below 2^24
pub fits_in : (plan : Image) (at : ℕ) → IsPlan plan at
    → 12 * length plan.slots + 20 * length plan.imports + 12 * length plan.functions + 90 + length (signature_bytes_of plan.slots) + length
    (entry_bytes plan.entries) < 2 ^ 24
unfolding parts_of
fits_in plan at p = omega (arith, p.small, end-is plan at)

-- the header is after the cells
pub header_place : (plan : Image) → (parts_of plan).header ≡ 8 * length plan.slots
unfolding parts_of
header_place plan = refl

pub functions_few : (plan : Image) (at : ℕ) → IsPlan plan at → All (λ e. e.function < 2 ^ 29) plan.entries
functions_few plan at p k d h = omega (arith, fits_in plan at p, (p.planned.entries k d h).function)

pub slots_ascend : (plan : Image) → IsWellPlanned plan → All (λ e. SlotsAscend e.fixups) plan.entries
slots_ascend plan p k d h = (p.entries k d h).ascending

-- ---- the section records

-- the records of five kinds
record IsFive (sections : List RtrSection) : Type 0 where
  a : RtrSection
  b : RtrSection
  c : RtrSection
  d : RtrSection
  e : RtrSection
  is : sections ≡ section 100 a.rva a.size ∷ section 101 b.rva b.size ∷ section 102 c.rva c.size ∷ section 103 d.rva
      d.size ∷ section 106 e.rva e.size ∷ []

of_kind : (s : RtrSection) (k : ℕ) → s.kind ≡ k → s ≡ section k s.rva s.size
of_kind s k h = ap (λ (t : ℕ). section t s.rva s.size) h

five_of : (a b c d e : RtrSection) → a.kind ≡ 100 → b.kind ≡ 101 → c.kind ≡ 102 → d.kind ≡ 103 → e.kind ≡ 106
    → IsFive (a ∷ b ∷ c ∷ d ∷ e ∷ [])
five_of a b c d e ka kb kc kd ke = record {
  a = a;
  b = b;
  c = c;
  d = d;
  e = e;
  is =
      let a_is = of_kind a 100 ka in
      let b_is = of_kind b 101 kb in
      let c_is = of_kind c 102 kc in
      let d_is = of_kind d 103 kd in
      let e_is = of_kind e 106 ke in
      cc;
}

abbrev kinds : List RtrSection → List ℕ
kinds sections = map (λ s. s.kind) sections

are_five : (sections : List RtrSection) → kinds sections ≡ 100 ∷ 101 ∷ 102 ∷ 103 ∷ 106 ∷ [] → IsFive sections
are_five [] h = absurd cc
are_five (a ∷ []) h = absurd cc
are_five (a ∷ b ∷ []) h = absurd cc
are_five (a ∷ b ∷ c ∷ []) h = absurd cc
are_five (a ∷ b ∷ c ∷ d ∷ []) h = absurd cc
are_five (a ∷ b ∷ c ∷ d ∷ e ∷ []) h = five_of a b c d e (cc) (cc) (cc) (cc) (cc)
are_five (a ∷ b ∷ c ∷ d ∷ e ∷ f ∷ more) h = absurd cc

ranged_five : (sections : List RtrSection) (places : PartPlaces) (entries : Span) (at : ℕ) (parts : Parts) → IsFive sections
    → ArePlaces places at parts
    → entries.start ≡ at + parts.entries → entries.len ≡ parts.end - parts.entries
    → map (ranged places entries) sections ≡ sections_at at parts (thunks_of sections)
ranged_five sections places entries at parts five p start len =
    let identifier = p.identifier in
    let imports = p.imports in
    let functions = p.functions in
    let import_size : places.arrays - places.imports ≡ parts.arrays - parts.imports = omega (arith, p.arrays, p.imports) in
    let function_size : places.unwinds - places.functions ≡ parts.unwinds - parts.functions = omega (arith, p.unwinds, p.functions) in
    let is = five.is in
    rw (is, import_size, function_size, identifier, imports, functions, start, len) refl

pub sections_are : (plan : Image) (at : ℕ) (places : PartPlaces) (entries : Span) → IsWellPlanned plan → ArePlaces places at (parts_of plan)
    → entries.start ≡ at + (parts_of plan).entries → entries.len ≡ (parts_of plan).end - (parts_of plan).entries
    → map (ranged places entries) plan.header.sections ≡ written_sections plan at
unfolding written_sections
sections_are plan at places entries p places_are start len =
    ranged_five plan.header.sections places entries at (parts_of plan) (are_five plan.header.sections p.sections) places_are start len

pub imports_are : (plan : Image) (at : ℕ) (places : PartPlaces) (placed : List ImportSection) → ArePlaces places at (parts_of plan)
    → placed ≡ placed_imports at places.arrays plan.imports → placed ≡ written_imports plan at
unfolding written_imports
imports_are plan at places placed p e = e ∙ ap (λ (t : ℕ). placed_imports at t plan.imports) p.arrays

-- ---- the parts, one after the other

nine_put : (empty one two a b c d e f g h i : List ℕ) → empty ≡ [] → one ≡ empty ++ (a ++ (b ++ c))
    → two ≡ one ++ (d ++ (e ++ (f ++ (g ++ (h ++ i)))))
    → two ≡ flat_map (λ part. part) (a ∷ b ∷ c ∷ d ∷ e ∷ f ∷ g ∷ h ∷ i ∷ [])
nine_put empty one two a b c d e f g h i none first second =
    rw (second, first, none) (simp (append_assoc, append-nil) refl)

pub bytes_are : (plan : Image) (at : ℕ) (places : PartPlaces) (range : Span) (placed : List ImportSection)
    (rvas signatures entries empty one two : List ℕ)
    → IsWellPlanned plan → ArePlaces places at (parts_of plan)
    → range.start ≡ at + (parts_of plan).entries → range.len ≡ (parts_of plan).end - (parts_of plan).entries
    → placed ≡ placed_imports at places.arrays plan.imports → rvas ≡ words (signature_rvas places.signatures plan.slots)
    → signatures ≡ signature_bytes_of plan.slots → entries ≡ entry_bytes plan.entries
    → empty ≡ []
    → one ≡ empty ++ (cell_bytes plan.slots ++ (header_bytes plan.header.flags (map (ranged places range) plan.header.sections) ++ flat_map
    import_bytes placed))
    → two ≡ one ++ (rvas ++ (function_bytes places.unwinds
    plan.functions ++ (unwind_bytes plan.functions ++ (identifier ++ (signatures ++ entries)))))
    → two ≡ part_bytes plan at
unfolding part_bytes
bytes_are plan at places range placed rvas signatures entries empty one two p places_are start len placed_is rvas_are signatures_are
    entries_are none first second =
    let sections = sections_are plan at places range p places_are start len in
    let imports = imports_are plan at places placed places_are placed_is in
    let arrays : rvas ≡ words (signature_rvas (at + (parts_of plan).signatures) plan.slots) =
    rvas_are ∙ ap (λ (t : ℕ). words (signature_rvas t plan.slots)) places_are.signatures in
    let functions : function_bytes places.unwinds plan.functions ≡ function_bytes (at + (parts_of plan).unwinds) plan.functions =
    ap (λ (t : ℕ). function_bytes t plan.functions) places_are.unwinds in
    nine_put empty one two (cell_bytes plan.slots) (header_bytes plan.header.flags (written_sections plan at))
    (flat_map import_bytes (written_imports plan at))
    (words (signature_rvas (at + (parts_of plan).signatures) plan.slots)) (function_bytes (at + (parts_of plan).unwinds) plan.functions)
    (unwind_bytes plan.functions)
    identifier (signature_bytes_of plan.slots) (entry_bytes plan.entries) none
    (rw (sections, imports) at first) (rw (arrays, functions, signatures_are, entries_are) at second)
