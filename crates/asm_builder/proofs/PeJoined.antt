-- The parts of a file, put one after the other.
use Rattle.std.proofs.Common.{◌≡◌, ℕ, ◌+◌, ◌-◌, List, [], ◌∷◌, ◌++◌, length, Result, Ok, Err, OnOk, sym, ap, ◌∙◌, arith}
use Rattle.std.proofs.Common.{append_assoc, length-append}
use Rattle.std.specs.Prelude.{replicate}
use Rattle.std.proofs.lemmas.Grind.{flat_map-append}
use Rattle.pe_image.specs.Places.{aligned}
use Rattle.pe_image.specs.Pieces.{field_bytes, fields_bytes, section_bytes}
use Rattle.pe_image.specs.Raw.{padded}
use Rattle.pe_image.specs.Written.{HeaderField}
use Rattle.asm_builder.specs.declared.content.Content.{Content}
use Rattle.asm_builder.specs.declared.headers.Number.{Number}
use Rattle.asm_builder.specs.Numbers.{numbers_bytes}
use Rattle.asm_builder.specs.File.{cli_fields, coff_fields, directory_fields, file_of, header_bytes, metadata_bytes}
use Rattle.asm_builder.specs.File.{metadata_rva, optional_fields, section_content, section_size, text_section}
use Rattle.asm_builder.proofs.PeBack.{length-front}
use Rattle.asm_builder.proofs.PeNumbers.{number}

-- ---- zeros after a multiple of 512 and what follows it

aligned-more : (n : ℕ) → aligned 512 (512 + n) ≡ 512 + aligned 512 n
unfolding aligned
aligned-more n = omega arith

padded_after : (front back : List ℕ) → length front ≡ 512 → padded (front ++ back) ≡ front ++ padded back
unfolding padded
padded_after front back size =
    let n = length back in
    let all : length (front ++ back) ≡ 512 + n = length-append front back ∙ ap (λ (t : ℕ). t + n) size in
    let zeros : aligned 512 (length (front ++ back)) - length (front ++ back) ≡ aligned 512 n - n =
    ap (λ (t : ℕ). aligned 512 t - t) all ∙ ap (λ (t : ℕ). t - (512 + n)) (aligned-more n) ∙ (omega arith) in
    ap (λ (t : ℕ). (front ++ back) ++ replicate t 0) zeros ∙ append_assoc front back (replicate (aligned 512 n - n) 0)

-- ---- the headers and the section

three : (a b c : List HeaderField) → (fields_bytes a ++ fields_bytes b) ++ fields_bytes c ≡ fields_bytes (a ++ (b ++ c))
three a b c =
    append_assoc (fields_bytes a) (fields_bytes b) (fields_bytes c)
    ∙ ap (λ (t : List ℕ). fields_bytes a ++ t) (sym (flat_map-append field_bytes b c))
    ∙ sym (flat_map-append field_bytes a (b ++ c))

abbrev fields : ℕ → ℕ → List HeaderField
fields size entry = coff_fields entry ++ (optional_fields size ++ directory_fields)

header_joined : (content : Content) (entry size : ℕ) (coff optional directories header : List ℕ) → size ≡ section_size content
    → coff ≡ fields_bytes (coff_fields entry) → optional ≡ coff ++ fields_bytes (optional_fields size)
    → directories ≡ optional ++ fields_bytes directory_fields → header ≡ directories ++ section_bytes (text_section size)
    → header ≡ header_bytes content entry
unfolding header_bytes
header_joined content entry size coff optional directories header es ec eo ed eh =
    eh ∙ ap (λ (t : List ℕ). t ++ section_bytes (text_section size))
    (ed ∙ ap (λ (t : List ℕ). t ++ fields_bytes directory_fields) (eo ∙ ap (λ (t : List ℕ). t ++ fields_bytes (optional_fields size)) ec)
    ∙ three (coff_fields entry) (optional_fields size) directory_fields)
    ∙ ap (λ (t : ℕ). fields_bytes (fields t entry) ++ section_bytes (text_section t)) es

section_joined : (content : Content) (entry : ℕ) (front cli bodies all : List ℕ) → cli ≡ front ++ fields_bytes (cli_fields content entry)
    → bodies ≡ cli ++ content.bodies → all ≡ bodies ++ metadata_bytes content → all ≡ front ++ section_content content entry
unfolding section_content
section_joined content entry front cli bodies all ec eb ea =
    let own = fields_bytes (cli_fields content entry) in
    let code = content.bodies in
    let metadata = metadata_bytes content in
    ea ∙ ap (λ (t : List ℕ). t ++ metadata) (eb ∙ ap (λ (t : List ℕ). t ++ code) ec ∙ append_assoc front own code)
    ∙ append_assoc front (own ++ code) metadata ∙ ap (λ (t : List ℕ). front ++ t) (append_assoc own code metadata)

pub file_joined : (content : Content) (entry size : ℕ) (coff optional directories header front cli bodies all whole : List ℕ)
    → size ≡ section_size content
    → coff ≡ fields_bytes (coff_fields entry) → optional ≡ coff ++ fields_bytes (optional_fields size)
    → directories ≡ optional ++ fields_bytes directory_fields → header ≡ directories ++ section_bytes (text_section size)
    → front ≡ padded header → cli ≡ front ++ fields_bytes (cli_fields content entry) → bodies ≡ cli ++ content.bodies
    → all ≡ bodies ++ metadata_bytes content → whole ≡ padded all → whole ≡ file_of content entry
unfolding file_of
file_joined content entry size coff optional directories header front cli bodies all whole es ec eo ed eh ef el eb ea ew =
    let head = header_bytes content entry in
    let front-is : front ≡ padded head =
    ef ∙ ap (λ (t : List ℕ). padded t) (header_joined content entry size coff optional directories header es ec eo ed eh) in
    let all-is : all ≡ padded head ++ section_content content entry =
    section_joined content entry front cli bodies all el eb ea ∙ ap (λ (t : List ℕ). t ++ section_content content entry) front-is in
    ew ∙ ap (λ (t : List ℕ). padded t) all-is ∙ padded_after (padded head) (section_content content entry) (length-front content entry)

-- ---- the CLI header's numbers

abbrev pub cli_numbers : ℕ → ℕ → ℕ → List Number
cli_numbers rva len entry =
    number 4 72 ∷ number 2 2 ∷ number 2 5 ∷ number 4 rva ∷ number 4 len ∷ number 4 1 ∷ number 4 entry ∷ number 8 0 ∷ number 8 0
    ∷ number 8 0 ∷ number 8 0 ∷ number 8 0 ∷ number 4 0 ∷ number 4 0 ∷ []

pub put_cli : {A E : Type 0} (r : Result A E) (new old : List ℕ) (numbers : List Number) (bodies metadata entry : ℕ)
    → OnOk r (new ≡ old ++ numbers_bytes numbers) → numbers ≡ cli_numbers (0x2048 + bodies) metadata entry
    → OnOk r ((content : Content) → bodies ≡ length content.bodies → metadata ≡ length (metadata_bytes content)
    → new ≡ old ++ fields_bytes (cli_fields content entry))
put_cli (Ok x) new old numbers bodies metadata entry h e = λ content eb em.
    h ∙ ap (λ (t : List Number). old ++ numbers_bytes t) e
    ∙ ap (λ (t : ℕ). old ++ numbers_bytes (cli_numbers (0x2048 + t) metadata entry)) eb
    ∙ ap (λ (t : ℕ). old ++ numbers_bytes (cli_numbers (metadata_rva content) t entry)) em
put_cli (Err x) new old numbers bodies metadata entry h e = tt
