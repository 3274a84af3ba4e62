-- A section header, read from the bytes that spell it, and a range of its section, found by its RVA.
use Rattle.std.proofs.Common.{◌≡◌, ℕ, ◌+◌, ◌-◌, ◌^◌, ◌<◌, ◌≤◌, leb, cond, Bool, true, List, [], ◌∷◌, ◌++◌, length}
use Rattle.std.proofs.Common.{take, drop, Option, Some, None, refl, sym, ap, ◌∙◌, arith, lit<, append_assoc}
use Rattle.std.proofs.Common.{length-append}
use Rattle.std.specs.Prelude.{All, unwrap_or, find}
use Rattle.std.specs.Option.{option_map}
use Rattle.std.proofs.lemmas.Bool.{le-leb, and_from}
use Rattle.std.proofs.lemmas.List.{drop-drop, take_at, drop_at}
use Rattle.rtr_bytes.specs.Field.{u32_of}
use Rattle.pe_image.specs.declared.section.PeSection.{PeSection}
use Rattle.pe_image.specs.Sections.{has_range, section_at, slice_of_rva}
use Rattle.pe_image.specs.Written.{at, StandsIn, Covers, section_fields}
use Rattle.pe_image.specs.Pieces.{fields_bytes, section_bytes}
use Rattle.pe_image.proofs.NumbersInARow.{AllFit, fields_stand, length-fields_bytes}

-- each field of a section header fits its bytes
pub record HeaderFits (s : PeSection) : Type 0 where
  pub name : length s.name ≡ 8
  pub virtual_size : s.virtual_size < 2 ^ 32
  pub rva : s.rva < 2 ^ 32
  pub raw_size : s.raw_size < 2 ^ 32
  pub raw_at : s.raw_at < 2 ^ 32
  pub flags : s.flags < 2 ^ 32

section_fit : (place : ℕ) (s : PeSection) → HeaderFits s → AllFit (section_fields place s)
section_fit place s h = (h.virtual_size, (h.rva, (h.raw_size, (h.raw_at, (lit< tt, (lit< tt, (lit< tt, (lit< tt, (h.flags, tt)))))))))

section_covers : (place : ℕ) (s : PeSection) → Covers (place + 8) (section_fields place s) (place + 40)
section_covers place s = (
  refl,
  (
    omega arith,
    (
      omega arith,
      (omega arith, (omega arith, (omega arith, (omega arith, (omega arith, (omega arith, omega arith)))))),
    ),
  ),
)

pub length-section_bytes : (s : PeSection) → length s.name ≡ 8 → length (section_bytes s) ≡ 40
unfolding section_bytes
length-section_bytes s h =
    omega (
      arith,
      length-append s.name (fields_bytes (section_fields 0 s)),
      length-fields_bytes (section_fields 0 s) 8 40
          (section_covers 0 s),
    )

abbrev section : List ℕ → ℕ → ℕ → ℕ → ℕ → ℕ → PeSection
section name virtual_size rva raw_size raw_at flags =
    record { name = name; virtual_size = virtual_size; rva = rva; raw_size = raw_size; raw_at = raw_at; flags = flags }

same_section : (name name' : List ℕ) (a b c d e a' b' c' d' e' : ℕ) → name ≡ name' → a ≡ a' → b ≡ b' → c ≡ c' → d ≡ d' → e ≡ e'
    → section name a b c d e ≡ section name' a' b' c' d' e'
same_section name name' a b c d e a' b' c' d' e' n f g h i j = rw (n, f, g, h, i, j) refl

-- the section header at a place is the one whose bytes begin there
pub section_at-is : (bytes rest : List ℕ) (place : ℕ) (s : PeSection) → HeaderFits s → place + 40 ≤ length bytes
    → drop place bytes ≡ section_bytes s ++ rest → section_at bytes place ≡ s
unfolding section_bytes
section_at-is bytes rest place s h long whole =
    let numbers = fields_bytes (section_fields 0 s) in
    let split : drop place bytes ≡ s.name ++ (numbers ++ rest) = whole ∙ append_assoc s.name numbers rest in
    let after : drop (place + 8) bytes ≡ numbers ++ rest =
    sym (drop-drop 8 place bytes) ∙ ap (λ (t : List ℕ). drop 8 t) split ∙ drop_at s.name (numbers ++ rest) 8 h.name in
    let fields : All (StandsIn bytes) (section_fields place s) =
    fields_stand (section_fields place s) bytes rest (place + 8) (place + 40) (section_covers place s) (section_fit place s h)
    (omega (arith, long)) after in
    let name : take 8 (drop place bytes) ≡ s.name = ap (λ (t : List ℕ). take 8 t) split ∙ take_at s.name (numbers ++ rest) 8 h.name in
    let number = λ (o : Option ℕ). unwrap_or o 0 in
    let none = at 0 0 0 in
    same_section (take 8 (drop place bytes)) s.name (u32_of bytes (place + 8)) (u32_of bytes (place + 12)) (u32_of bytes (place + 16))
    (u32_of bytes (place + 20)) (u32_of bytes (place + 36)) s.virtual_size s.rva s.raw_size s.raw_at s.flags name
    (ap number (fields 0 none (omega arith))) (ap number (fields 1 none (omega arith))) (ap number (fields 2 none (omega arith)))
    (ap number (fields 3 none (omega arith))) (ap number (fields 8 none (omega arith)))

-- a range within a section's raw bytes is found there
pub part_found : (s : PeSection) (start len : ℕ) → start + len ≤ s.raw_size → s.rva + start + len ≤ 2 ^ 32
    → slice_of_rva (s ∷ []) (s.rva + start) len ≡ Some (s.raw_at + start)
part_found s start len inside small =
    let place : PeSection → ℕ = λ t. t.raw_at + (s.rva + start - t.rva) in
    let d : s.rva + start - s.rva ≡ start = omega arith in
    let low : s.rva ≤ s.rva + start = omega arith in
    let high : s.rva + start + len ≤ s.rva + s.raw_size = omega (arith, inside) in
    let hit : has_range (s.rva + start) len s ≡ true =
    and_from (leb s.rva (s.rva + start)) (leb (s.rva + start + len) (s.rva + s.raw_size)) (le-leb s.rva (s.rva + start) low)
    (le-leb (s.rva + start + len) (s.rva + s.raw_size) high) in
    ap (λ (b : Bool). cond b (option_map place (find (has_range (s.rva + start) len) (s ∷ []))) None)
    (le-leb (s.rva + start + len) (2 ^ 32) small)
    ∙ ap (λ (b : Bool). option_map place (cond b (Some s) None)) hit
    ∙ ap (λ (t : ℕ). Some (s.raw_at + t)) d
