-- The whole written file: what it promises follows from its pieces.
use Rattle.std.proofs.Common.{◌≡◌, ℕ, ◌+◌, ◌-◌, ◌*◌, ◌^◌, ◌<◌, ◌≤◌, Bool, ◌||◌, List, [], ◌∷◌, ◌++◌, length, drop, map}
use Rattle.std.proofs.Common.{Option, refl, sym, ap, subst, ◌∙◌, arith, inl, inr, lit<, append_assoc, length-append}
use Rattle.std.specs.Prelude.{nat_le, if◌then◌else◌, ◌==◌, replicate, sum_by, All, unwrap_or}
use Rattle.std.specs.List.{flat_map, AllZip}
use Rattle.std.proofs.lemmas.Bool.{cases_Bool, leb-false, or_parts}
use Rattle.std.proofs.lemmas.List.{drop_at}
use Rattle.rtr_bytes.specs.Field.{u16_of}
use Rattle.rtr_bytes.specs.Checks.{records}
use Rattle.pe_image.specs.declared.section.PeSection.{PeSection}
use Rattle.pe_image.specs.declared.values.HeaderValues.{HeaderValues}
use Rattle.pe_image.specs.Sections.{section_at}
use Rattle.pe_image.specs.Headers.{sections_of}
use Rattle.pe_image.specs.Places.{aligned, highest_end, dat_rva, cod_rva, written_table_at, headers_end, dat_section}
use Rattle.pe_image.specs.Places.{cod_section, all_sections, placed_from, end_from, raw_start, written_sections}
use Rattle.pe_image.specs.Places.{AreLaid}
use Rattle.pe_image.specs.Written.{IsWritable, section_alignment_of, resources_of, image_size, header_sizes}
use Rattle.pe_image.specs.Written.{header_values, at, StandsIn, header_fields, table_fields, IsPaddedFrom, HasPadded}
use Rattle.pe_image.specs.Pieces.{header_bytes, section_bytes, file_of}
use Rattle.pe_image.specs.Raw.{padded, raw_of, raw_parts}
use Rattle.pe_image.proofs.PlacesLemmas.{aligned-512, aligned-65536, aligned-aligned, end_from-append, end_from-le}
use Rattle.pe_image.proofs.PlacesLemmas.{end_from-grows, length-placed_from, laid}
use Rattle.pe_image.proofs.HeaderLemmas.{AreInRange, length-header_bytes, header_stands, dos_read}
use Rattle.pe_image.proofs.TableLemmas.{HeadersFit, HeadersFit-append, HeadersFit-placed, length-table, table-is, table_stands}
use Rattle.pe_image.proofs.RawLemmas.{Matches, Holds, AllWhole, HoldsPadded, length-padded, parts_padded, AllZip-each}
use Rattle.pe_image.proofs.RawLemmas.{held, has_padded, padded_front, length-parts, AllZip-append}
use Rattle.pe_image.proofs.InputLemmas.{AreBytes, u32_below}
use Rattle.pe_image.proofs.ReadBack.{HasHeaders, sections-are}

-- ---- places and lengths

pub end_below : (sections : List PeSection) (dat_len cod_len : ℕ)
    → end_from (raw_start sections) (all_sections sections dat_len cod_len)
    ≤ headers_end (length sections + 2) + sum_by (λ s. s.raw_size) sections + dat_len + cod_len + 512 * (length sections + 3)
end_below sections dat_len cod_len =
    let more : List PeSection = dat_section sections dat_len ∷ cod_section sections dat_len cod_len ∷ [] in
    let start = aligned-512 (headers_end (length sections + 2)) in
    let dat = aligned-512 dat_len in
    let cod = aligned-512 cod_len in
    omega (
      arith,
      end_from-append sections more (raw_start sections),
      end_from-le sections (raw_start sections),
      aligned-aligned dat_len,
      aligned-aligned cod_len,
    )

-- ---- the values of the headers

image_size_below : (alignment image_end : ℕ) → image_end < 2 ^ 32 → image_size alignment image_end < 2 ^ 32
image_size_below alignment image_end h =
    elim (cases_Bool (alignment == 0 || nat_le (2 ^ 32) (aligned alignment image_end))) [
      | inl over ↦ subst (λ (b : Bool). (if b then image_end else aligned alignment image_end) < 2 ^ 32) (sym over) h
      | inr within ↦
          let parts = or_parts (alignment == 0) (nat_le (2 ^ 32) (aligned alignment image_end)) within in
          subst (λ (b : Bool). (if b then image_end else aligned alignment image_end) < 2 ^ 32) (sym within)
          (leb-false (2 ^ 32) (aligned alignment image_end) parts.1)
    ]

-- the headers' values are in range
abbrev pub HasRange : List PeSection → List ℕ → ℕ → ℕ → ℕ → Type 0
HasRange sections bytes dat_len cod_len cli =
    AreInRange (length sections + 2) (header_sizes sections bytes dat_len cod_len) (resources_of bytes) (record { start = cli; len = 72 })

pub values_in_range : (sections : List PeSection) (bytes : List ℕ) (dat_len cod_len cli : ℕ) → AreBytes bytes
    → IsWritable sections dat_len cod_len cli
    → cli < 2 ^ 32 → HasRange sections bytes dat_len cod_len cli
unfolding header_sizes
values_in_range sections bytes dat_len cod_len cli h w c =
    let dat = aligned-65536 (highest_end sections) in
    let cod = aligned-65536 (dat_rva sections + dat_len) in
    let dat_size = aligned-512 dat_len in
    let cod_size = aligned-512 cod_len in
    let headers = aligned-512 (headers_end (length sections + 2)) in
    record {
      section_count = omega (arith, w.room_for_headers.0);
      size_of_code = omega (arith, w.room_in_image);
      size_of_initialized_data = omega (arith, w.room_in_image);
      base_of_code = omega (arith, w.room_in_image);
      section_alignment = u32_below bytes _ h;
      size_of_image = image_size_below (section_alignment_of bytes) (cod_rva sections dat_len + cod_len) (omega (arith, w.room_in_image));
      size_of_headers = omega (arith, w.room_for_headers.0);
      resources_start = u32_below bytes _ h;
      resources_len = u32_below bytes _ h;
      cli_start = c;
      cli_len = lit< tt;
    }

-- ---- the section headers and their raw bytes

new_fit : (sections : List PeSection) (dat_len cod_len cli : ℕ) → IsWritable sections dat_len cod_len cli
    → HeadersFit (dat_section sections dat_len ∷ cod_section sections dat_len cod_len ∷ [])
new_fit sections dat_len cod_len cli w =
    let dat = aligned-65536 (highest_end sections) in
    let cod = aligned-65536 (dat_rva sections + dat_len) in
    let dat_size = aligned-512 dat_len in
    let cod_size = aligned-512 cod_len in
    let room = w.room_in_image in (
      record { name = refl; virtual_size = omega arith; rva = omega arith; raw_size = omega arith; raw_at = lit< tt; flags = lit< tt },
      (
        record { name = refl; virtual_size = omega arith; rva = omega arith; raw_size = omega arith; raw_at = lit< tt; flags = lit< tt },
        tt,
      ),
    )

old_match : (bytes : List ℕ) (sections : List PeSection) → AllWhole bytes sections → AllZip Matches sections (map (raw_of bytes) sections)
old_match bytes [] h = tt
old_match bytes (s ∷ ss) (h, hs) = (record { fits = omega (arith, h); same = ap (λ (t : ℕ). aligned 512 t) h }, old_match bytes ss hs)

new_match : (part : List ℕ) (s : PeSection) → s.raw_size ≡ aligned 512 (length part) → Matches s part
new_match part s h =
    let a = aligned-512 (length part) in
    record { fits = omega arith; same = sym (ap (λ (t : ℕ). aligned 512 t) h ∙ aligned-aligned (length part)) }

all_match : (bytes dat cod : List ℕ) (sections : List PeSection) → AllWhole bytes sections
    → AllZip Matches (all_sections sections (length dat) (length cod)) (raw_parts sections bytes dat cod)
unfolding raw_parts
all_match bytes dat cod sections h =
    AllZip-append Matches sections (dat_section sections (length dat) ∷ cod_section sections (length dat) (length cod) ∷ [])
    (map (raw_of bytes) sections) (dat ∷ cod ∷ []) (old_match bytes sections h)
    (new_match dat (dat_section sections (length dat)) refl, (new_match cod (cod_section sections (length dat) (length cod)) refl, tt))

-- ---- the whole file

-- what is known together
pub record Parts (sections : List PeSection) (bytes dat cod : List ℕ) (cli : ℕ) : Type 0 where
  pub writable : IsWritable sections (length dat) (length cod) cli
  pub headers : HeadersFit sections
  pub raw : AllWhole bytes sections
  pub values : HasRange sections bytes (length dat) (length cod) cli

abbrev pub the_file : List PeSection → List ℕ → List ℕ → List ℕ → ℕ → List ℕ
the_file sections bytes dat cod cli =
    file_of (header_values sections bytes (length dat) (length cod) cli) (written_sections sections (length dat) (length cod))
    (raw_parts sections bytes dat cod)

table_fits : (sections : List PeSection) (bytes dat cod : List ℕ) (cli : ℕ) → Parts sections bytes dat cod cli
    → HeadersFit (placed_from (raw_start sections) (all_sections sections (length dat) (length cod)))
table_fits sections bytes dat cod cli p =
    let room = p.writable.room_in_file in
    HeadersFit-placed (all_sections sections (length dat) (length cod)) (raw_start sections)
    (HeadersFit-append sections (dat_section sections (length dat) ∷ cod_section sections (length dat) (length cod) ∷ []) p.headers
    (new_fit sections (length dat) (length cod) cli p.writable))
    (omega (arith, end_below sections (length dat) (length cod)))

count_is : (sections : List PeSection) (dat_len cod_len : ℕ)
    → length (placed_from (raw_start sections) (all_sections sections dat_len cod_len)) ≡ length sections + 2
count_is sections dat_len cod_len =
    omega (
      arith,
      length-placed_from (all_sections sections dat_len cod_len) (raw_start sections),
      length-append sections
          (dat_section sections dat_len ∷ cod_section sections dat_len cod_len ∷ []),
    )

head_size : (v : HeaderValues) (sections placed : List PeSection) → HeadersFit placed → length placed ≡ length sections + 2
    → length (header_bytes v ++ flat_map section_bytes placed) ≡ headers_end (length sections + 2)
head_size v sections placed h n =
    let table = flat_map section_bytes placed in
    omega (arith, length-append (header_bytes v) table, length-header_bytes v, length-table placed h, n)

head_length : (v : HeaderValues) (sections placed : List PeSection) → HeadersFit placed → length placed ≡ length sections + 2
    → length (padded (header_bytes v ++ flat_map section_bytes placed)) ≡ raw_start sections
head_length v sections placed h n =
    length-padded (header_bytes v ++ flat_map section_bytes placed) ∙ ap (λ (t : ℕ). aligned 512 t) (head_size v sections placed h n)

-- after the headers there are zeros
pub file_headers_padded : (sections : List PeSection) (bytes dat cod : List ℕ) (cli : ℕ) → Parts sections bytes dat cod cli
    → IsPaddedFrom (the_file sections bytes dat cod cli) (headers_end (length sections + 2))
unfolding file_of written_sections
file_headers_padded sections bytes dat cod cli p =
    let v = header_values sections bytes (length dat) (length cod) cli in
    let placed = placed_from (raw_start sections) (all_sections sections (length dat) (length cod)) in
    padded_front (header_bytes v ++ flat_map section_bytes placed) (flat_map padded (raw_parts sections bytes dat cod))
    (headers_end (length sections + 2))
    (head_size v sections placed (table_fits sections bytes dat cod cli p) (count_is sections (length dat) (length cod)))

-- each part is at its place, padded
held_padded : (sections : List PeSection) (bytes dat cod : List ℕ) (cli : ℕ) → Parts sections bytes dat cod cli
    → AllZip (HoldsPadded (the_file sections bytes dat cod cli))
    (placed_from (raw_start sections) (all_sections sections (length dat) (length cod))) (raw_parts sections bytes dat cod)
unfolding file_of written_sections
held_padded sections bytes dat cod cli p =
    let v = header_values sections bytes (length dat) (length cod) cli in
    let all = all_sections sections (length dat) (length cod) in
    let placed = placed_from (raw_start sections) all in
    let head = padded (header_bytes v ++ flat_map section_bytes placed) in
    let parts = raw_parts sections bytes dat cod in
    let size : length head ≡ raw_start sections =
    head_length v sections placed (table_fits sections bytes dat cod cli p) (count_is sections (length dat) (length cod)) in
    let P : ℕ → Type 0 = λ t. AllZip (HoldsPadded (head ++ flat_map padded parts)) (placed_from t all) parts in
    subst P size (parts_padded all parts head (all_match bytes dat cod sections p.raw))

pub file_holds : (sections : List PeSection) (bytes dat cod : List ℕ) (cli : ℕ) → Parts sections bytes dat cod cli
    → AllZip (Holds (the_file sections bytes dat cod cli))
    (placed_from (raw_start sections) (all_sections sections (length dat) (length cod))) (raw_parts sections bytes dat cod)
file_holds sections bytes dat cod cli p =
    let out = the_file sections bytes dat cod cli in
    AllZip-each (HoldsPadded out) (Holds out) (placed_from (raw_start sections) (all_sections sections (length dat) (length cod)))
    (raw_parts sections bytes dat cod)
    (held out) (held_padded sections bytes dat cod cli p)

pub file_length : (sections : List PeSection) (bytes dat cod : List ℕ) (cli : ℕ) → Parts sections bytes dat cod cli
    → length (the_file sections bytes dat cod cli) ≡ end_from (raw_start sections) (all_sections sections (length dat) (length cod))
unfolding file_of written_sections
file_length sections bytes dat cod cli p =
    let v = header_values sections bytes (length dat) (length cod) cli in
    let all = all_sections sections (length dat) (length cod) in
    let placed = placed_from (raw_start sections) all in
    let head = padded (header_bytes v ++ flat_map section_bytes placed) in
    let parts = raw_parts sections bytes dat cod in
    let size : length head ≡ raw_start sections =
    head_length v sections placed (table_fits sections bytes dat cod cli p) (count_is sections (length dat) (length cod)) in
    length-append head (flat_map padded parts) ∙ ap (λ (t : ℕ). t + length (flat_map padded parts)) size
    ∙ length-parts all parts (raw_start sections) (all_match bytes dat cod sections p.raw)

-- the file begins with its headers
file_begins : (v : HeaderValues) (placed : List PeSection) (parts : List (List ℕ))
    → (rest : List ℕ) × (file_of v placed parts ≡ header_bytes v ++ (flat_map section_bytes placed ++ rest))
unfolding file_of padded
file_begins v placed parts =
    let a = header_bytes v in
    let b = flat_map section_bytes placed in
    let z = replicate (aligned 512 (length (a ++ b)) - length (a ++ b)) 0 in
    let r = flat_map padded parts in (
      z ++ r,
      ap (λ (t : List ℕ). t ++ r) (append_assoc a b z) ∙ append_assoc a (b ++ z) r
          ∙ ap (λ (t : List ℕ). a ++ t) (append_assoc b z r),
    )

pub file_fields : (sections : List PeSection) (bytes dat cod : List ℕ) (cli : ℕ) → Parts sections bytes dat cod cli
    → All (StandsIn (the_file sections bytes dat cod cli)) (header_fields (header_values sections bytes (length dat) (length cod) cli))
file_fields sections bytes dat cod cli p =
    let v = header_values sections bytes (length dat) (length cod) cli in
    let b = file_begins v (written_sections sections (length dat) (length cod)) (raw_parts sections bytes dat cod) in
    let P : List ℕ → Type 0 = λ t. All (StandsIn t) (header_fields v) in
    subst P (sym b.1)
    (header_stands (length sections + 2) (header_sizes sections bytes (length dat) (length cod)) (resources_of bytes)
    (record { start = cli; len = 72 })
    (flat_map section_bytes (written_sections sections (length dat) (length cod)) ++ b.0) p.values)

-- the headers as the checks read them
pub file_has : (sections : List PeSection) (bytes dat cod : List ℕ) (cli : ℕ) → Parts sections bytes dat cod cli
    → HasHeaders (the_file sections bytes dat cod cli) (length sections + 2) cli
file_has sections bytes dat cod cli p =
    let out = the_file sections bytes dat cod cli in
    let fields = file_fields sections bytes dat cod cli p in
    let v = header_values sections bytes (length dat) (length cod) cli in
    let b = file_begins v (written_sections sections (length dat) (length cod)) (raw_parts sections bytes dat cod) in
    let start = aligned-512 (headers_end (length sections + 2)) in
    let number = λ (o : Option ℕ). unwrap_or o 0 in
    record {
      long = omega (
        arith,
        file_length sections bytes dat cod cli p,
        end_from-grows (all_sections sections (length dat) (length cod))
            (raw_start sections),
      );
      dos = ap (λ (t : List ℕ). u16_of t 0) b.1
          ∙ dos_read v (flat_map section_bytes (written_sections sections (length dat) (length cod)) ++ b.0);
      pe = ap number (fields 1 (at 0 0 0) (omega arith));
      signature = ap number (fields 2 (at 0 0 0) (omega arith));
      sections = ap number (fields 4 (at 0 0 0) (omega arith));
      optional_size = ap number (fields 8 (at 0 0 0) (omega arith));
      magic = ap number (fields 10 (at 0 0 0) (omega arith));
      directories = ap number (fields 38 (at 0 0 0) (omega arith));
      cli_rva = ap number (fields 54 (at 0 0 0) (omega arith));
      cli_size = ap number (fields 55 (at 0 0 0) (omega arith));
    }

-- the section headers begin at 328
table_at : (sections : List PeSection) (bytes dat cod : List ℕ) (cli : ℕ) → Parts sections bytes dat cod cli
    → (rest : List ℕ) × (drop 328 (the_file sections bytes dat cod cli)
    ≡ flat_map section_bytes (placed_from (raw_start sections) (all_sections sections (length dat) (length cod))) ++ rest)
unfolding written_sections
table_at sections bytes dat cod cli p =
    let v = header_values sections bytes (length dat) (length cod) cli in
    let placed = placed_from (raw_start sections) (all_sections sections (length dat) (length cod)) in
    let b = file_begins v placed (raw_parts sections bytes dat cod) in
    (b.0, ap (λ (t : List ℕ). drop 328 t) b.1 ∙ drop_at (header_bytes v) (flat_map section_bytes placed ++ b.0) 328 (length-header_bytes v))

-- the section table is the one that was written
pub file_sections : (sections : List PeSection) (bytes dat cod : List ℕ) (cli : ℕ) → Parts sections bytes dat cod cli
    → sections_of (the_file sections bytes dat cod cli) ≡ placed_from (raw_start sections) (all_sections sections (length dat) (length cod))
file_sections sections bytes dat cod cli p =
    let out = the_file sections bytes dat cod cli in
    let placed = placed_from (raw_start sections) (all_sections sections (length dat) (length cod)) in
    let count = count_is sections (length dat) (length cod) in
    let has = file_has sections bytes dat cod cli p in
    let table = table_at sections bytes dat cod cli p in
    sections-are out (length sections + 2) cli has
    ∙ ap (λ (t : ℕ). records (section_at out) 328 40 t) (sym count)
    ∙ table-is placed out table.0 328 (table_fits sections bytes dat cod cli p) (omega (arith, has.long, count)) table.1

-- number by number
pub file_table : (sections : List PeSection) (bytes dat cod : List ℕ) (cli : ℕ) → Parts sections bytes dat cod cli
    → All (StandsIn (the_file sections bytes dat cod cli))
    (table_fields written_table_at (written_sections sections (length dat) (length cod)))
unfolding written_sections
file_table sections bytes dat cod cli p =
    let out = the_file sections bytes dat cod cli in
    let placed = placed_from (raw_start sections) (all_sections sections (length dat) (length cod)) in
    let count = count_is sections (length dat) (length cod) in
    let has = file_has sections bytes dat cod cli p in
    let table = table_at sections bytes dat cod cli p in
    table_stands placed out table.0 328 (table_fits sections bytes dat cod cli p) (omega (arith, has.long, count)) table.1

-- the bytes of each section, padded
pub file_padded : (sections : List PeSection) (bytes dat cod : List ℕ) (cli : ℕ) → Parts sections bytes dat cod cli
    → AllZip (HasPadded (the_file sections bytes dat cod cli)) (sections_of (the_file sections bytes dat cod cli))
    (raw_parts sections bytes dat cod)
file_padded sections bytes dat cod cli p =
    let out = the_file sections bytes dat cod cli in
    let placed = placed_from (raw_start sections) (all_sections sections (length dat) (length cod)) in
    let parts = raw_parts sections bytes dat cod in
    subst (λ (t : List PeSection). AllZip (HasPadded out) t parts) (sym (file_sections sections bytes dat cod cli p))
    (AllZip-each (HoldsPadded out) (HasPadded out) placed parts (has_padded out) (held_padded sections bytes dat cod cli p))

pub file_laid : (sections : List PeSection) (bytes dat cod : List ℕ) (cli : ℕ) → Parts sections bytes dat cod cli
    → AreLaid (headers_end (length sections + 2)) (sections_of (the_file sections bytes dat cod cli))
    (length (the_file sections bytes dat cod cli))
file_laid sections bytes dat cod cli p =
    let all = all_sections sections (length dat) (length cod) in
    let start = aligned-512 (headers_end (length sections + 2)) in
    let P : List PeSection → Type 0 = λ t. AreLaid (headers_end (length sections + 2)) t (length (the_file sections bytes dat cod cli)) in
    subst P (sym (file_sections sections bytes dat cod cli p))
    (laid all (headers_end (length sections + 2)) (raw_start sections) (length (the_file sections bytes dat cod cli)) (omega arith)
    start.multiple (omega (arith, file_length sections bytes dat cod cli p)))
