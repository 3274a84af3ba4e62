-- The numbers of a built file's headers: each fits its bytes, they cover the file up to its section table, and each is at its place.
use Rattle.std.proofs.Common.{◌≡◌, ℕ, ◌+◌, ◌^◌, ◌<◌, ◌≤◌, Bool, true, false, ◌&&◌, List, [], ◌∷◌, ◌++◌, length, drop}
use Rattle.std.proofs.Common.{Option, refl, ap, lit<, arith, ◌∙◌, length-append}
use Rattle.std.specs.Prelude.{All, unwrap_or, ◌==◌, if◌then◌else◌}
use Rattle.std.proofs.lemmas.Bool.{and_parts, eqb-true}
use Rattle.rtr_bytes.specs.Field.{u16_of}
use Rattle.pe_image.specs.Places.{aligned}
use Rattle.pe_image.specs.Pieces.{fields_bytes}
use Rattle.pe_image.specs.Written.{HeaderField, at, StandsIn, Covers}
use Rattle.pe_image.proofs.NumbersInARow.{AllFit, AllFit-append, field_stands, fields_stand, length-fields_bytes}
use Rattle.asm_builder.specs.declared.content.Content.{Content}
use Rattle.asm_builder.specs.File.{cli_fields, coff_fields, directory_fields, image_size}
use Rattle.asm_builder.specs.File.{metadata_bytes, metadata_rva, optional_fields, section_size}
use Rattle.asm_builder.specs.File.{text_section}
use Rattle.asm_builder.proofs.PeSizes.{aligned-512, aligned-8192}
use Rattle.asm_builder.proofs.PeTable.{HeaderFits}

-- ---- fields in a row, from one place to another

abbrev are_covered : ℕ → List HeaderField → ℕ → Bool
are_covered from [] to = from == to
are_covered from (f ∷ fs) to = f.place == from && are_covered (from + f.width) fs to

covers-computed : (fs : List HeaderField) (from to : ℕ) → are_covered from fs to ≡ true → Covers from fs to
covers-computed [] from to h = eqb-true from to h
covers-computed (f ∷ fs) from to h =
    let p = and_parts (f.place == from) (are_covered (from + f.width) fs to) h in
    (eqb-true f.place from p.0, covers-computed fs (from + f.width) to p.1)

-- ---- the headers up to the section table

abbrev pub header_fields : ℕ → ℕ → List HeaderField
header_fields size entry = coff_fields entry ++ (optional_fields size ++ directory_fields)

unfoldable pub headers_part : ℕ → ℕ → List ℕ
headers_part size entry = fields_bytes (header_fields size entry)

characteristics_fit : (b : Bool) → (if b then 0x2102 else 0x0102) < 2 ^ 16
characteristics_fit true = lit< tt
characteristics_fit false = lit< tt

coff_fit : (entry : ℕ) → AllFit (coff_fields entry)
coff_fit entry =
    let b : AllFit (drop 5 (coff_fields entry)) = (lit< tt, (lit< tt, (lit< tt, (lit< tt, (characteristics_fit (entry == 0), tt))))) in
    (lit< tt, (lit< tt, (lit< tt, (lit< tt, (lit< tt, b)))))

optional_fit : (size : ℕ) → size ≤ 2 ^ 24 → AllFit (optional_fields size)
optional_fit size h =
    let fields = optional_fields size in
    let a = aligned-512 size in
    let code : aligned 512 size < 2 ^ 32 = omega (arith, a.high) in
    let image : image_size size < 2 ^ 32 = omega (arith, aligned-8192 size) in
    let e : AllFit (drop 20 fields) =
    (lit< tt, (lit< tt, (lit< tt, (lit< tt, (lit< tt, (lit< tt, (lit< tt, (lit< tt, (lit< tt, (lit< tt, tt)))))))))) in
    let d : AllFit (drop 12 fields) = (lit< tt, (lit< tt, (lit< tt, (lit< tt, (lit< tt, (lit< tt, (lit< tt, (image, e)))))))) in
    let c : AllFit (drop 4 fields) = (lit< tt, (lit< tt, (lit< tt, (lit< tt, (lit< tt, (lit< tt, (lit< tt, (lit< tt, d)))))))) in
    (lit< tt, (lit< tt, (lit< tt, (code, c))))

directory_fit : AllFit directory_fields
directory_fit =
    let b : AllFit (drop 9 directory_fields) = (lit< tt, (lit< tt, (lit< tt, (lit< tt, (lit< tt, (lit< tt, (lit< tt, (lit< tt, tt)))))))) in
    (lit< tt, (lit< tt, (lit< tt, (lit< tt, (lit< tt, (lit< tt, (lit< tt, (lit< tt, (lit< tt, b)))))))))

header_fit : (size entry : ℕ) → size ≤ 2 ^ 24 → AllFit (header_fields size entry)
header_fit size entry h =
    AllFit-append (coff_fields entry) (optional_fields size ++ directory_fields) (coff_fit entry)
    (AllFit-append (optional_fields size) directory_fields (optional_fit size h) directory_fit)

header_covers : (size entry : ℕ) → Covers 0 (header_fields size entry) 312
header_covers size entry = covers-computed (header_fields size entry) 0 312 refl

pub length-headers_part : (size entry : ℕ) → length (headers_part size entry) ≡ 312
unfolding headers_part
length-headers_part size entry = omega (arith, length-fields_bytes (header_fields size entry) 0 312 (header_covers size entry))

pub header_stands : (size entry : ℕ) (out rest : List ℕ) → size ≤ 2 ^ 24 → out ≡ headers_part size entry ++ rest
    → All (StandsIn out) (header_fields size entry)
unfolding headers_part
header_stands size entry out rest h whole =
    fields_stand (header_fields size entry) out rest 0 312 (header_covers size entry) (header_fit size entry h) (omega arith) whole

-- its first two bytes, read as one number
dos_here : (size entry : ℕ) (rest : List ℕ) → u16_of (headers_part size entry ++ rest) 0 ≡ 0x5A4D
unfolding headers_part
dos_here size entry rest =
    ap (λ (o : Option ℕ). unwrap_or o 0)
    (field_stands (at 0 2 0x5A4D) (headers_part size entry ++ rest) (drop 2 (headers_part size entry ++ rest)) (lit< tt)
    (omega (arith, length-append (headers_part size entry) rest, length-headers_part size entry)) refl)

pub dos_read : (size entry : ℕ) (out rest : List ℕ) → out ≡ headers_part size entry ++ rest → u16_of out 0 ≡ 0x5A4D
dos_read size entry out rest whole = ap (λ (t : List ℕ). u16_of t 0) whole ∙ dos_here size entry rest

-- ---- the section's header

pub text_fits : (size : ℕ) → size ≤ 2 ^ 24 → HeaderFits (text_section size)
text_fits size h =
    let a = aligned-512 size in
    let raw : aligned 512 size < 2 ^ 32 = omega (arith, a.high) in
    record { name = refl; virtual_size = omega (arith, h); rva = lit< tt; raw_size = raw; raw_at = lit< tt; flags = lit< tt }

-- ---- the CLI header

unfoldable pub cli_part : Content → ℕ → List ℕ
cli_part content entry = fields_bytes (cli_fields content entry)

cli_fit : (content : Content) (entry : ℕ) → section_size content ≤ 2 ^ 24 → entry < 2 ^ 32 → AllFit (cli_fields content entry)
cli_fit content entry h small =
    let rva : metadata_rva content < 2 ^ 32 = omega (arith, h) in
    let len : length (metadata_bytes content) < 2 ^ 32 = omega (arith, h) in
    let b : AllFit (drop 7 (cli_fields content entry)) =
    (lit< tt, (lit< tt, (lit< tt, (lit< tt, (lit< tt, (lit< tt, (lit< tt, tt))))))) in
    (lit< tt, (lit< tt, (lit< tt, (rva, (len, (lit< tt, (small, b)))))))

cli_covers : (content : Content) (entry : ℕ) → Covers 512 (cli_fields content entry) 584
cli_covers content entry = covers-computed (cli_fields content entry) 512 584 refl

pub length-cli_part : (content : Content) (entry : ℕ) → length (cli_part content entry) ≡ 72
unfolding cli_part
length-cli_part content entry = omega (arith, length-fields_bytes (cli_fields content entry) 512 584 (cli_covers content entry))

pub cli_stands : (content : Content) (entry : ℕ) (out rest : List ℕ) → section_size content ≤ 2 ^ 24 → entry < 2 ^ 32
    → 512 ≤ length out → drop 512 out ≡ cli_part content entry ++ rest → All (StandsIn out) (cli_fields content entry)
unfolding cli_part
cli_stands content entry out rest h small long whole =
    fields_stand (cli_fields content entry) out rest 512 584 (cli_covers content entry) (cli_fit content entry h small) long whole
