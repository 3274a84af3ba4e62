-- The PE headers of a built file, read back: its one section, where ranges are found, the CLI header, and the checks 1 to 14.
use Rattle.std.proofs.Common.{◌≡◌, ◌≤◌, ◌<◌, ◌+◌, ◌^◌, ℕ, List, [], ◌∷◌, ◌++◌, length, drop, Option, Some, false}
use Rattle.std.proofs.Common.{None, refl, sym, ap, subst, ◌∙◌, arith, append_assoc, length-append}
use Rattle.std.specs.Prelude.{All, unwrap_or, is_some}
use Rattle.std.proofs.lemmas.List.{drop-drop, drop_at}
use Rattle.rtr_bytes.specs.declared.fault.Span.{Span}
use Rattle.rtr_bytes.specs.Field.{u32_of}
use Rattle.rtr_bytes.specs.Checks.{first_fault}
use Rattle.pe_image.specs.Checks.{pe_checks}
use Rattle.pe_image.specs.Headers.{cli_at, headers_of, is_wide, metadata_place, metadata_size, native_of, native_span, place_of}
use Rattle.pe_image.specs.Headers.{sections_of}
use Rattle.pe_image.specs.Places.{AreLaid, aligned}
use Rattle.pe_image.specs.Pieces.{section_bytes}
use Rattle.pe_image.specs.Raw.{padded}
use Rattle.pe_image.specs.Sections.{slice_of_rva}
use Rattle.pe_image.specs.Written.{StandsIn, at}
use Rattle.pe_image.specs.declared.section.PeSection.{PeSection}
use Rattle.cli_assembly.specs.Checks.{metadata_of}
use Rattle.asm_builder.specs.declared.content.Content.{Content}
use Rattle.asm_builder.specs.File.{bodies_at, cli_fields, file_of, header_bytes, metadata_at}
use Rattle.asm_builder.specs.File.{metadata_bytes, metadata_rva, section_content, section_size, text_section}
use Rattle.asm_builder.proofs.PeFields.{cli_part, cli_stands, dos_read, header_stands, headers_part}
use Rattle.asm_builder.proofs.PeFields.{length-cli_part, length-headers_part, text_fits}
use Rattle.asm_builder.proofs.PeSizes.{aligned-352, aligned-512, length-padded, padded_begins}
use Rattle.asm_builder.proofs.PeTable.{length-section_bytes, part_found, section_at-is}
use Rattle.asm_builder.proofs.PeReadBack.{HasPe, all_pass, cli_at-is, not_wide, sections_at}

-- what is needed of sizes: the section has at most as many bytes as a file may have
abbrev pub IsShort : Content → Type 0
IsShort content = section_size content ≤ 2 ^ 24

-- ---- bytes one after the other, and with zeros at their end

regrouped : (a b z r : List ℕ) → ((a ++ b) ++ z) ++ r ≡ a ++ (b ++ (z ++ r))
regrouped a b z r =
    ap (λ (t : List ℕ). t ++ r) (append_assoc a b z) ∙ append_assoc a (b ++ z) r ∙ ap (λ (t : List ℕ). a ++ t) (append_assoc b z r)

-- what is after a front of bytes that stand at a place
pub stands_after : (bytes front back rest : List ℕ) (place n : ℕ) → length front ≡ n → drop place bytes ≡ (front ++ back) ++ rest
    → drop (place + n) bytes ≡ back ++ rest
stands_after bytes front back rest place n size whole =
    sym (drop-drop n place bytes) ∙ ap (λ (t : List ℕ). drop n t) (whole ∙ append_assoc front back rest)
    ∙ drop_at front (back ++ rest) n size

header-is : (content : Content) (entry : ℕ)
    → header_bytes content entry ≡ headers_part (section_size content) entry ++ section_bytes (text_section (section_size content))
unfolding header_bytes headers_part
header-is content entry = refl

content-is : (content : Content) (entry : ℕ)
    → section_content content entry ≡ cli_part content entry ++ (content.bodies ++ metadata_bytes content)
unfolding section_content cli_part
content-is content entry = refl

file-is : (content : Content) (entry : ℕ)
    → file_of content entry ≡ padded (header_bytes content entry) ++ padded (section_content content entry)
unfolding file_of
file-is content entry = refl

length-content : (content : Content) (entry : ℕ) → length (section_content content entry) ≡ section_size content
length-content content entry =
    omega (
      arith,
      ap (λ (t : List ℕ). length t) (content-is content entry),
      length-append (cli_part content entry) (content.bodies ++ metadata_bytes content),
      length-append content.bodies (metadata_bytes content),
      length-cli_part content entry,
    )

length-header : (content : Content) (entry : ℕ) → length (header_bytes content entry) ≡ 352
length-header content entry =
    let s = text_section (section_size content) in
    omega (
      arith,
      ap (λ (t : List ℕ). length t) (header-is content entry),
      length-append (headers_part (section_size content) entry) (section_bytes s),
      length-headers_part (section_size content) entry,
      length-section_bytes s refl,
    )

pub length-front : (content : Content) (entry : ℕ) → length (padded (header_bytes content entry)) ≡ 512
length-front content entry =
    length-padded (header_bytes content entry) ∙ ap (λ (t : ℕ). aligned 512 t) (length-header content entry) ∙ aligned-352

pub length-whole : (content : Content) (entry : ℕ) → length (file_of content entry) ≡ 512 + aligned 512 (section_size content)
length-whole content entry =
    let back = section_content content entry in
    ap (λ (t : List ℕ). length t) (file-is content entry)
    ∙ length-append (padded (header_bytes content entry)) (padded back)
    ∙ ap (λ (t : ℕ). t + length (padded back)) (length-front content entry)
    ∙ ap (λ (t : ℕ). 512 + t) (length-padded back ∙ ap (λ (t : ℕ). aligned 512 t) (length-content content entry))

file_begins : (content : Content) (entry : ℕ)
    → (rest : List ℕ) × (file_of content entry
    ≡ headers_part (section_size content) entry ++ (section_bytes (text_section (section_size content)) ++ rest))
file_begins content entry =
    let a = headers_part (section_size content) entry in
    let b = section_bytes (text_section (section_size content)) in
    let r = padded (section_content content entry) in
    let z = padded_begins (header_bytes content entry) in (
      z.0 ++ r,
      file-is content entry ∙ ap (λ (t : List ℕ). t ++ r) (z.1 ∙ ap (λ (t : List ℕ). t ++ z.0) (header-is content entry))
          ∙ regrouped a b z.0 r,
    )

pub section_at_512 : (content : Content) (entry : ℕ)
    → (rest : List ℕ) × (drop 512 (file_of content entry) ≡ section_content content entry ++ rest)
section_at_512 content entry =
    let z = padded_begins (section_content content entry) in (
      z.0,
      ap (λ (t : List ℕ). drop 512 t) (file-is content entry)
          ∙ drop_at (padded (header_bytes content entry)) (padded (section_content content entry)) 512 (length-front content entry) ∙ z.1,
    )

module _ (content : Content) (entry : ℕ) (short : IsShort content) (entry_small : entry < 2 ^ 32) where
  abbrev bytes : List ℕ
  bytes = file_of content entry

  abbrev text : PeSection
  text = text_section (section_size content)

  long : 512 + section_size content ≤ length bytes
  long =
      let a = aligned-512 (section_size content) in
      omega (arith, length-whole content entry, a.low)

  has_pe : HasPe bytes
  has_pe =
      let b = file_begins content entry in
      let rest = section_bytes text ++ b.0 in
      let fields = header_stands (section_size content) entry bytes rest short b.1 in
      let number = λ (o : Option ℕ). unwrap_or o 0 in
      record {
        long = omega (arith, long);
        dos = dos_read (section_size content) entry bytes rest b.1;
        pe = ap number (fields 1 (at 0 0 0) (omega arith));
        signature = ap number (fields 2 (at 0 0 0) (omega arith));
        sections = ap number (fields 4 (at 0 0 0) (omega arith));
        optional_size = ap number (fields 8 (at 0 0 0) (omega arith));
        magic = ap number (fields 10 (at 0 0 0) (omega arith));
        directories = ap number (fields 39 (at 0 0 0) (omega arith));
        cli_rva = ap number (fields 54 (at 0 0 0) (omega arith));
        cli_size = ap number (fields 55 (at 0 0 0) (omega arith));
      }

  -- the one section
  pub sections_are : sections_of bytes ≡ text ∷ []
  sections_are =
      let b = file_begins content entry in
      let head = headers_part (section_size content) entry in
      let here : drop 312 bytes ≡ section_bytes text ++ b.0 =
      ap (λ (t : List ℕ). drop 312 t) b.1
      ∙ drop_at head (section_bytes text ++ b.0) 312 (length-headers_part (section_size content) entry) in
      sections_at bytes has_pe
      ∙ ap (λ (t : PeSection). t ∷ [])
      (section_at-is bytes b.0 312 text (text_fits (section_size content) short) (omega (arith, long)) here)

  -- the section's content is at 512
  pub section_stands : (rest : List ℕ) × (drop 512 bytes ≡ section_content content entry ++ rest)
  section_stands = section_at_512 content entry

  -- a range of the section is found by its RVA
  pub place_is : (start len : ℕ) → start + len ≤ section_size content → place_of bytes (0x2000 + start) len ≡ Some (512 + start)
  place_is start len inside =
      let a = aligned-512 (section_size content) in
      let within : start + len ≤ aligned 512 (section_size content) = omega (arith, inside, a.low) in
      let small : 0x2000 + start + len ≤ 2 ^ 32 = omega (arith, inside, short) in
      ap (λ (t : List PeSection). slice_of_rva t (0x2000 + start) len) sections_are ∙ part_found text start len within small

  cli_found : place_of bytes 0x2000 72 ≡ Some 512
  cli_found = place_is 0 72 (omega arith)

  cli_is : cli_at bytes ≡ 512
  cli_is = cli_at-is bytes 512 has_pe cli_found

  cli_field : All (StandsIn bytes) (cli_fields content entry)
  cli_field =
      let s = section_stands in
      let back = content.bodies ++ metadata_bytes content in
      let whole : drop 512 bytes ≡ cli_part content entry ++ (back ++ s.0) =
      s.1 ∙ ap (λ (t : List ℕ). t ++ s.0) (content-is content entry) ∙ append_assoc (cli_part content entry) back s.0 in
      cli_stands content entry bytes (back ++ s.0) short entry_small (omega (arith, long)) whole

  cb_is : u32_of bytes 512 ≡ 72
  cb_is = ap (λ (o : Option ℕ). unwrap_or o 0) (cli_field 0 (at 0 0 0) (omega arith))

  rva_is : u32_of bytes 520 ≡ metadata_rva content
  rva_is = ap (λ (o : Option ℕ). unwrap_or o 0) (cli_field 3 (at 0 0 0) (omega arith))

  len_is : u32_of bytes 524 ≡ length (metadata_bytes content)
  len_is = ap (λ (o : Option ℕ). unwrap_or o 0) (cli_field 4 (at 0 0 0) (omega arith))

  size_is : metadata_size bytes ≡ length (metadata_bytes content)
  size_is = ap (λ (t : ℕ). u32_of bytes (t + 12)) cli_is ∙ len_is

  metadata_found : metadata_place bytes ≡ Some (metadata_at content)
  metadata_found =
      let start = 72 + length content.bodies in
      let rva : metadata_rva content ≡ 0x2000 + start = omega arith in
      let place : 512 + start ≡ metadata_at content = omega arith in
      ap (λ (t : ℕ). place_of bytes (u32_of bytes (t + 8)) (metadata_size bytes)) cli_is
      ∙ ap (λ (t : ℕ). place_of bytes t (metadata_size bytes)) (rva_is ∙ rva)
      ∙ ap (λ (t : ℕ). place_of bytes (0x2000 + start) t) size_is
      ∙ place_is start (length (metadata_bytes content)) (omega arith) ∙ ap (λ (t : ℕ). Some t) place

  pub metadata_span : metadata_of bytes ≡ record { start = metadata_at content; len = length (metadata_bytes content) }
  metadata_span =
      let span : ℕ → ℕ → Span = λ start len. record { start = start; len = len } in
      ap (λ (o : Option ℕ). span (unwrap_or o 0) (metadata_size bytes)) metadata_found
      ∙ ap (λ (t : ℕ). span (metadata_at content) t) size_is

  pub flags_are : (headers_of bytes).cli_flags ≡ 1
  flags_are =
      ap (λ (t : ℕ). u32_of bytes (t + 16)) cli_is ∙ ap (λ (o : Option ℕ). unwrap_or o 0) (cli_field 5 (at 0 0 0) (omega arith))

  pub entry_is : (headers_of bytes).entry_token ≡ entry
  entry_is =
      ap (λ (t : ℕ). u32_of bytes (t + 20)) cli_is ∙ ap (λ (o : Option ℕ). unwrap_or o 0) (cli_field 6 (at 0 0 0) (omega arith))

  -- PE32, without a native header
  pub narrow_is : is_wide bytes ≡ false
  narrow_is = not_wide bytes has_pe

  pub native_is : native_of bytes ≡ None
  native_is =
      let number = λ (o : Option ℕ). unwrap_or o 0 in
      let rva : u32_of bytes (cli_at bytes + 64) ≡ 0 =
      ap (λ (t : ℕ). u32_of bytes (t + 64)) cli_is ∙ ap number (cli_field 12 (at 0 0 0) (omega arith)) in
      let size : u32_of bytes (cli_at bytes + 68) ≡ 0 =
      ap (λ (t : ℕ). u32_of bytes (t + 68)) cli_is ∙ ap number (cli_field 13 (at 0 0 0) (omega arith)) in
      ap (λ (t : ℕ). native_span t (u32_of bytes (cli_at bytes + 68))) rva ∙ ap (λ (t : ℕ). native_span 0 t) size

  -- the bodies and the metadata stand in one piece each
  all_stand : (rest : List ℕ) × (drop bodies_at bytes ≡ (content.bodies ++ metadata_bytes content) ++ rest)
  all_stand =
      let s = section_stands in
      let back = content.bodies ++ metadata_bytes content in
      let whole : drop 512 bytes ≡ (cli_part content entry ++ back) ++ s.0 =
      s.1 ∙ ap (λ (t : List ℕ). t ++ s.0) (content-is content entry) in
      (s.0, stands_after bytes (cli_part content entry) back s.0 512 72 (length-cli_part content entry) whole)

  pub bodies_stand : (rest : List ℕ) × (drop bodies_at bytes ≡ content.bodies ++ rest)
  bodies_stand =
      let s = all_stand in
      (metadata_bytes content ++ s.0, s.1 ∙ append_assoc content.bodies (metadata_bytes content) s.0)

  pub metadata_stands : (rest : List ℕ) × (drop (metadata_at content) bytes ≡ metadata_bytes content ++ rest)
  metadata_stands =
      let s = all_stand in
      (s.0, stands_after bytes content.bodies (metadata_bytes content) s.0 bodies_at (length content.bodies) refl s.1)

  laid : AreLaid 0 (sections_of bytes) (length bytes)
  laid =
      let whole : 512 + aligned 512 (section_size content) ≤ length bytes = omega (arith, length-whole content entry) in
      subst (λ (t : List PeSection). AreLaid 0 t (length bytes)) (sym sections_are) (omega arith, refl, whole)

  pub pe_passes : first_fault pe_checks bytes ≡ None
  pe_passes = all_pass bytes 512 0 has_pe laid cli_found cb_is (ap (λ (o : Option ℕ). is_some o) metadata_found)
