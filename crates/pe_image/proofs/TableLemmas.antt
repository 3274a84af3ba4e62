-- The section table, read from the bytes that were written.
use Rattle.std.proofs.Common.{◌≡◌, ℕ, ◌+◌, ◌*◌, ◌^◌, ◌<◌, ◌≤◌, List, [], ◌∷◌, ◌++◌, length, take, drop, Option, refl}
use Rattle.std.proofs.Common.{sym, ap, ◌∙◌, arith, lit<, append_assoc, length-append}
use Rattle.std.specs.Prelude.{All, unwrap_or}
use Rattle.std.specs.List.{flat_map}
use Rattle.std.proofs.lemmas.List.{drop-drop, take_at, drop_at}
use Rattle.std.proofs.lemmas.List.Elements.{All-nil, All-append}
use Rattle.rtr_bytes.specs.Field.{u32_of}
use Rattle.rtr_bytes.specs.Checks.{records}
use Rattle.pe_image.specs.declared.section.PeSection.{PeSection}
use Rattle.pe_image.specs.Sections.{section_at}
use Rattle.pe_image.specs.Places.{aligned, placed_from, end_from}
use Rattle.pe_image.specs.Written.{at, StandsIn, Covers, section_fields, table_fields}
use Rattle.pe_image.specs.Pieces.{fields_bytes, section_bytes}
use Rattle.pe_image.proofs.NumbersInARow.{AllFit, fields_stand, length-fields_bytes}
use Rattle.pe_image.proofs.PlacesLemmas.{end_from-grows}

-- each field of a section header fits its bytes
pub record HeaderFits (s : PeSection) : Type 0 where
  pub name : length s.name ≡ 8
  pub virtual_size : s.virtual_size < 2 ^ 32
  pub rva : s.rva < 2 ^ 32
  pub raw_size : s.raw_size < 2 ^ 32
  pub raw_at : s.raw_at < 2 ^ 32
  pub flags : s.flags < 2 ^ 32

abbrev pub HeadersFit : List PeSection → Type 0
HeadersFit [] = Unit {0}
HeadersFit (s ∷ ss) = HeaderFits s × HeadersFit ss

pub HeadersFit-append : (a b : List PeSection) → HeadersFit a → HeadersFit b → HeadersFit (a ++ b)
HeadersFit-append [] b h k = k
HeadersFit-append (s ∷ a) b (h, hs) k = (h, HeadersFit-append a b hs k)

-- they still do once each has its place
pub HeadersFit-placed : (ss : List PeSection) (at : ℕ) → HeadersFit ss → end_from at ss < 2 ^ 32 → HeadersFit (placed_from at ss)
HeadersFit-placed [] at h e = tt
HeadersFit-placed (s ∷ ss) at (h, hs) e =
    let low : at < 2 ^ 32 = omega (arith, end_from-grows ss (at + aligned 512 s.raw_size)) in (
      record { name = h.name; virtual_size = h.virtual_size; rva = h.rva; raw_size = h.raw_size; raw_at = low; flags = h.flags },
      HeadersFit-placed ss (at + aligned 512 s.raw_size) hs e,
    )

section_fit : (place : ℕ) (s : PeSection) → HeaderFits s → AllFit (section_fields place s)
section_fit place s h = (h.virtual_size, (h.rva, (h.raw_size, (h.raw_at, (lit< tt, (lit< tt, (lit< tt, (lit< tt, (h.flags, tt)))))))))

section_covers : (place : ℕ) (s : PeSection) → Covers (place + 8) (section_fields place s) (place + 40)
section_covers place s = (
  refl,
  (
    omega arith,
    (
      omega arith,
      (omega arith, (omega arith, (omega arith, (omega arith, (omega arith, (omega arith, omega arith)))))),
    ),
  ),
)

pub length-section_bytes : (s : PeSection) → length s.name ≡ 8 → length (section_bytes s) ≡ 40
unfolding section_bytes
length-section_bytes s h =
    omega (
      arith,
      length-append s.name (fields_bytes (section_fields 0 s)),
      length-fields_bytes (section_fields 0 s) 8 40
          (section_covers 0 s),
    )

-- the numbers of a section header whose bytes begin at a place
section_stands : (bytes rest : List ℕ) (place : ℕ) (s : PeSection) → HeaderFits s → place + 40 ≤ length bytes
    → drop place bytes ≡ section_bytes s ++ rest → All (StandsIn bytes) (section_fields place s)
unfolding section_bytes
section_stands bytes rest place s h long whole =
    let numbers = fields_bytes (section_fields 0 s) in
    let split : drop place bytes ≡ s.name ++ (numbers ++ rest) = whole ∙ append_assoc s.name numbers rest in
    let after : drop (place + 8) bytes ≡ numbers ++ rest =
    sym (drop-drop 8 place bytes) ∙ ap (λ (t : List ℕ). drop 8 t) split ∙ drop_at s.name (numbers ++ rest) 8 h.name in
    fields_stand (section_fields place s) bytes rest (place + 8) (place + 40) (section_covers place s) (section_fit place s h)
    (omega arith) after

abbrev section : List ℕ → ℕ → ℕ → ℕ → ℕ → ℕ → PeSection
section name virtual_size rva raw_size raw_at flags =
    record { name = name; virtual_size = virtual_size; rva = rva; raw_size = raw_size; raw_at = raw_at; flags = flags }

same_section : (name name' : List ℕ) (a b c d e a' b' c' d' e' : ℕ) → name ≡ name' → a ≡ a' → b ≡ b' → c ≡ c' → d ≡ d' → e ≡ e'
    → section name a b c d e ≡ section name' a' b' c' d' e'
same_section name name' a b c d e a' b' c' d' e' n f g h i j = rw (n, f, g, h, i, j) refl

-- the section header at a place is the one whose bytes begin there
section_at-is : (bytes rest : List ℕ) (place : ℕ) (s : PeSection) → HeaderFits s → place + 40 ≤ length bytes
    → drop place bytes ≡ section_bytes s ++ rest → section_at bytes place ≡ s
unfolding section_bytes
section_at-is bytes rest place s h long whole =
    let numbers = fields_bytes (section_fields 0 s) in
    let split : drop place bytes ≡ s.name ++ (numbers ++ rest) = whole ∙ append_assoc s.name numbers rest in
    let name : take 8 (drop place bytes) ≡ s.name = ap (λ (t : List ℕ). take 8 t) split ∙ take_at s.name (numbers ++ rest) 8 h.name in
    let fields = section_stands bytes rest place s h long whole in
    let number = λ (o : Option ℕ). unwrap_or o 0 in
    let none = at 0 0 0 in
    same_section (take 8 (drop place bytes)) s.name (u32_of bytes (place + 8)) (u32_of bytes (place + 12)) (u32_of bytes (place + 16))
    (u32_of bytes (place + 20)) (u32_of bytes (place + 36)) s.virtual_size s.rva s.raw_size s.raw_at s.flags name
    (ap number (fields 0 none (omega arith))) (ap number (fields 1 none (omega arith))) (ap number (fields 2 none (omega arith)))
    (ap number (fields 3 none (omega arith))) (ap number (fields 8 none (omega arith)))

pub length-table : (ss : List PeSection) → HeadersFit ss → length (flat_map section_bytes ss) ≡ 40 * length ss
length-table [] h = refl
length-table (s ∷ ss) (h, hs) =
    omega (arith, length-append (section_bytes s) (flat_map section_bytes ss), length-section_bytes s h.name, length-table ss hs)

-- what is after the first of some section headers
next_header : (ss : List PeSection) (bytes rest : List ℕ) (place : ℕ) (s : PeSection) → HeaderFits s
    → drop place bytes ≡ section_bytes s ++ (flat_map section_bytes ss ++ rest)
    → drop (place + 40) bytes ≡ flat_map section_bytes ss ++ rest
next_header ss bytes rest place s h split =
    sym (drop-drop 40 place bytes) ∙ ap (λ (t : List ℕ). drop 40 t) split
    ∙ drop_at (section_bytes s) (flat_map section_bytes ss ++ rest) 40 (length-section_bytes s h.name)

-- and so for a whole table
pub table-is : (ss : List PeSection) (bytes rest : List ℕ) (place : ℕ) → HeadersFit ss → place + 40 * length ss ≤ length bytes
    → drop place bytes ≡ flat_map section_bytes ss ++ rest → records (section_at bytes) place 40 (length ss) ≡ ss
table-is [] bytes rest place h long whole = refl
table-is (s ∷ ss) bytes rest place (h, hs) long whole =
    let table = flat_map section_bytes ss in
    let split : drop place bytes ≡ section_bytes s ++ (table ++ rest) = whole ∙ append_assoc (section_bytes s) table rest in
    let first : section_at bytes place ≡ s = section_at-is bytes (table ++ rest) place s h (omega arith) split in
    let more : records (section_at bytes) (place + 40) 40 (length ss) ≡ ss =
    table-is ss bytes rest (place + 40) hs (omega arith) (next_header ss bytes rest place s h split) in
    ap (λ (t : PeSection). t ∷ records (section_at bytes) (place + 40) 40 (length ss)) first ∙ ap (λ (t : List PeSection). s ∷ t) more

-- each number of each section header is at its place
pub table_stands : (ss : List PeSection) (bytes rest : List ℕ) (place : ℕ) → HeadersFit ss → place + 40 * length ss ≤ length bytes
    → drop place bytes ≡ flat_map section_bytes ss ++ rest → All (StandsIn bytes) (table_fields place ss)
table_stands [] bytes rest place h long whole = All-nil (StandsIn bytes)
table_stands (s ∷ ss) bytes rest place (h, hs) long whole =
    let table = flat_map section_bytes ss in
    let split : drop place bytes ≡ section_bytes s ++ (table ++ rest) = whole ∙ append_assoc (section_bytes s) table rest in
    All-append (StandsIn bytes) (section_fields place s) (table_fields (place + 40) ss)
    (section_stands bytes (table ++ rest) place s h (omega arith) split)
    (table_stands ss bytes rest (place + 40) hs (omega arith) (next_header ss bytes rest place s h split))
