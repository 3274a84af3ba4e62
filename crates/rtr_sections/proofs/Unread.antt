-- On what the bytes of a written part, its length and its places depend.
use Rattle.std.proofs.Common.{◌≡◌, ℕ, ◌+◌, ◌*◌, List, [], ◌∷◌, ◌++◌, length, map, Bool, true, false, refl, ap, ◌∙◌, sym}
use Rattle.std.specs.Prelude.{◌==◌}
use Rattle.std.proofs.lemmas.List.{length-map}
use Rattle.fixup_sigs.specs.Shortest.{fixup_bytes}
use Rattle.rtr_sections.specs.declared.entries.EntryPoint.{EntryPoint}
use Rattle.rtr_sections.specs.declared.functions.Function.{Function}
use Rattle.rtr_sections.specs.declared.header.RtrSection.{RtrSection}
use Rattle.rtr_sections.specs.declared.image.Image.{Image}
use Rattle.rtr_sections.specs.declared.imports.ImportSection.{ImportSection}
use Rattle.rtr_sections.specs.declared.slots.Slot.{Slot}
use Rattle.rtr_sections.specs.Imports.{slot_count}
use Rattle.rtr_sections.specs.Parts.{Parts, cell_spans, entry_bytes, header_span, parts_in_order, parts_of, placed_imports, part_bytes}
use Rattle.rtr_sections.specs.Parts.{sections_at, signature_bytes_of, thunks_of, written_imports, written_sections}
use Rattle.rtr_sections.specs.Written.{asked_of, shape_of, without_begin, without_own_range, without_places, without_word}
use Rattle.rtr_sections.proofs.Stands.{end-is}

-- ---- lists without what isn't read

placed_alone : (imports : List ImportSection) (cells arrays : ℕ)
    → placed_imports cells arrays (map without_places imports) ≡ placed_imports cells arrays imports
placed_alone [] cells arrays = refl
placed_alone (import ∷ imports) cells arrays =
    ap (λ (t : List ImportSection). record import { rva = cells; signatures = arrays } ∷ t)
    (placed_alone imports (cells + import.size) (arrays + 4 * slot_count import))

pub same_placed : (xs ys : List ImportSection) (cells arrays : ℕ) → map without_places xs ≡ map without_places ys
    → placed_imports cells arrays xs ≡ placed_imports cells arrays ys
same_placed xs ys cells arrays e =
    sym (placed_alone xs cells arrays) ∙ ap (λ (t : List ImportSection). placed_imports cells arrays t) e ∙ placed_alone ys cells arrays

pub same_count : {X : Type 0} (f : X → X) (xs ys : List X) → map f xs ≡ map f ys → length xs ≡ length ys
same_count {X} f xs ys e = sym (length-map xs f) ∙ ap (λ (t : List X). length t) e ∙ length-map ys f

thunks_step : (s : RtrSection) (sections : List RtrSection) (b : Bool) → (s.kind == 106) ≡ b
    → thunks_of (map without_own_range sections) ≡ thunks_of sections
    → thunks_of (map without_own_range (s ∷ sections)) ≡ thunks_of (s ∷ sections)
thunks_step s sections true e more = simp e refl
thunks_step s sections false e more = simp e more

thunks_alone : (sections : List RtrSection) → thunks_of (map without_own_range sections) ≡ thunks_of sections
thunks_alone [] = refl
thunks_alone (s ∷ sections) = thunks_step s sections (s.kind == 106) refl (thunks_alone sections)

pub same_thunks : (xs ys : List RtrSection) → map without_own_range xs ≡ map without_own_range ys → thunks_of xs ≡ thunks_of ys
same_thunks xs ys e = sym (thunks_alone xs) ∙ ap (λ (t : List RtrSection). thunks_of t) e ∙ thunks_alone ys

signatures_alone : (slots : List Slot) → signature_bytes_of (map without_word slots) ≡ signature_bytes_of slots
signatures_alone [] = refl
signatures_alone (slot ∷ slots) = ap (λ (t : List ℕ). fixup_bytes slot.fixup ++ t) (signatures_alone slots)

pub same_signatures : (xs ys : List Slot) → map without_word xs ≡ map without_word ys → signature_bytes_of xs ≡ signature_bytes_of ys
same_signatures xs ys e = sym (signatures_alone xs) ∙ ap (λ (t : List Slot). signature_bytes_of t) e ∙ signatures_alone ys

-- ---- the parts' places

same_behind : (i j s t f g b c e d : ℕ) → i ≡ j → s ≡ t → f ≡ g → b ≡ c → e ≡ d → parts_in_order i s f b e ≡ parts_in_order j t g c d
same_behind i j s t f g b c e d h1 h2 h3 h4 h5 = cc

-- the same counts and lengths have the same places
pub same_parts : (p q : Image) → length p.imports ≡ length q.imports → length p.slots ≡ length q.slots
    → length p.functions ≡ length q.functions
    → signature_bytes_of p.slots ≡ signature_bytes_of q.slots → p.entries ≡ q.entries → parts_of p ≡ parts_of q
unfolding parts_of
same_parts p q imports slots functions signatures entries =
    same_behind _ _ _ _ _ _ _ _ _ _ imports slots functions (ap (λ (t : List ℕ). length t) signatures)
    (ap (λ (t : List EntryPoint). length (entry_bytes t)) entries)

-- ---- what a shape decides

pub record HasShape (p q : Image) : Type 0 where
  pub imports : map without_places p.imports ≡ map without_places q.imports
  pub slots : map without_word p.slots ≡ map without_word q.slots
  pub functions : map without_begin p.functions ≡ map without_begin q.functions
  pub entries : p.entries ≡ q.entries

pub has_shape : (p q : Image) → shape_of p ≡ shape_of q → HasShape p q
unfolding shape_of
has_shape p q e = record {
  imports = ap (λ (t : Image). t.imports) e;
  slots = ap (λ (t : Image). t.slots) e;
  functions = ap (λ (t : Image). t.functions) e;
  entries = ap (λ (t : Image). t.entries) e;
}

pub shape_parts : (p q : Image) → shape_of p ≡ shape_of q → parts_of p ≡ parts_of q
shape_parts p q e =
    let h = has_shape p q e in
    same_parts p q (same_count without_places p.imports q.imports h.imports) (same_count without_word p.slots q.slots h.slots)
    (same_count without_begin p.functions q.functions h.functions)
    (same_signatures p.slots q.slots h.slots) h.entries

pub shape_imports : (p q : Image) (at : ℕ) → shape_of p ≡ shape_of q → written_imports p at ≡ written_imports q at
unfolding written_imports
shape_imports p q at e =
    same_placed p.imports q.imports at (at + (parts_of p).arrays) (has_shape p q e).imports
    ∙ ap (λ (t : Parts). placed_imports at (at + t.arrays) q.imports) (shape_parts p q e)

pub shape_header : (p q : Image) (at : ℕ) → shape_of p ≡ shape_of q → header_span p at ≡ header_span q at
shape_header p q at e = ap (λ (t : Parts). record { start = at + t.header; len = 76 }) (shape_parts p q e)

pub shape_cells : (p q : Image) (at : ℕ) → shape_of p ≡ shape_of q → cell_spans p at ≡ cell_spans q at
shape_cells p q at e =
    ap (λ (t : List ImportSection). map (λ (import : ImportSection). record { start = import.rva; len = import.size }) t)
    (shape_imports p q at e)

pub shape_length : (p q : Image) (at : ℕ) → shape_of p ≡ shape_of q → length (part_bytes p at) ≡ length (part_bytes q at)
shape_length p q at e = end-is p at ∙ ap (λ (t : Parts). t.end) (shape_parts p q e) ∙ sym (end-is q at)

-- ---- the bytes depend on nothing but what is asked

pub record AreAsked (p q : Image) : Type 0 where
  pub flags : p.header.flags ≡ q.header.flags
  pub sections : map without_own_range p.header.sections ≡ map without_own_range q.header.sections
  pub imports : map without_places p.imports ≡ map without_places q.imports
  pub slots : p.slots ≡ q.slots
  pub functions : p.functions ≡ q.functions
  pub entries : p.entries ≡ q.entries

pub are_asked : (p q : Image) → asked_of p ≡ asked_of q → AreAsked p q
unfolding asked_of
are_asked p q e = record {
  flags = ap (λ (t : Image). t.header.flags) e;
  sections = ap (λ (t : Image). t.header.sections) e;
  imports = ap (λ (t : Image). t.imports) e;
  slots = ap (λ (t : Image). t.slots) e;
  functions = ap (λ (t : Image). t.functions) e;
  entries = ap (λ (t : Image). t.entries) e;
}

asked_parts : (p q : Image) → AreAsked p q → parts_of p ≡ parts_of q
asked_parts p q h =
    same_parts p q (same_count without_places p.imports q.imports h.imports) (ap (λ (t : List Slot). length t) h.slots)
    (ap (λ (t : List Function). length t) h.functions)
    (ap (λ (t : List Slot). signature_bytes_of t) h.slots) h.entries

asked_sections : (p q : Image) (at : ℕ) → AreAsked p q → written_sections p at ≡ written_sections q at
unfolding written_sections
asked_sections p q at h =
    ap (λ (t : Parts). sections_at at t (thunks_of p.header.sections)) (asked_parts p q h)
    ∙ ap (λ (t : RtrSection). sections_at at (parts_of q) t) (same_thunks p.header.sections q.header.sections h.sections)

asked_imports : (p q : Image) (at : ℕ) → AreAsked p q → written_imports p at ≡ written_imports q at
unfolding written_imports
asked_imports p q at h =
    same_placed p.imports q.imports at (at + (parts_of p).arrays) h.imports
    ∙ ap (λ (t : Parts). placed_imports at (at + t.arrays) q.imports) (asked_parts p q h)

pub asked_bytes : (p q : Image) (at : ℕ) → asked_of p ≡ asked_of q → part_bytes p at ≡ part_bytes q at
unfolding part_bytes
asked_bytes p q at e =
    let h = are_asked p q e in
    let flags = h.flags in
    let slots = h.slots in
    let functions = h.functions in
    let entries = h.entries in
    let sections = asked_sections p q at h in
    let imports = asked_imports p q at h in
    let parts = asked_parts p q h in
    rw (sections, imports, parts, slots, functions, entries, flags) refl
