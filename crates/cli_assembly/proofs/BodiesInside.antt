-- The code of a body that is in a section is in the file.
use Rattle.std.proofs.Common.{◌≡◌, ℕ, ◌+◌, ◌-◌, ◌/◌, ◌%◌, ◌≤◌, ◌==◌, IfSome, Bool, true, false, List, length}
use Rattle.std.proofs.Common.{take, drop, Option, Some, None, refl, ap, ◌∙◌, arith}
use Rattle.std.specs.Prelude.{if◌then◌else◌, is_some, slice_index, unwrap_or}
use Rattle.std.specs.Option.{option_map, option_map_or}
use Rattle.pe_image.specs.Headers.{place_of, sections_of}
use Rattle.metadata.specs.declared.schema.Table.TheVariants as tables
use Rattle.metadata.specs.Tables.{Layout}
use Rattle.cli_assembly.specs.declared.body.Body.{Body}
use Rattle.cli_assembly.specs.declared.header.BodyAt.{BodyAt}
use Rattle.cli_assembly.specs.declared.header.BodyAt.TheVariants as headers
use Rattle.cli_assembly.specs.Assemblies.{placed_in}
use Rattle.cli_assembly.specs.Bodies.{MethodBody, body_at, code_size, fat_at, fat_body, fat_header_at, header_at, header_words, placed}
use Rattle.cli_assembly.specs.Bodies.{placed_body, tiny_at, tiny_body, with_code}
use Rattle.cli_assembly.specs.Checks.{has_cil_body, method_rva}
use Rattle.cli_assembly.specs.Kept.{answer_of, by_row, file_layout}
use Rattle.cli_assembly.specs.Named.{IsWellFormed}
use Rattle.cli_assembly.proofs.ByRow.{answers_have}
use Rattle.cli_assembly.proofs.Inside.{AllInFile, sections_inside, slice_inside}
use Rattle.cli_assembly.proofs.Passed.{pe_pass}

abbrev IsCodeInside : List ℕ → Body → Type 0
IsCodeInside bytes body = body.code.start + body.code.len ≤ length bytes

-- a body that is in a section, if there is one
abbrev Holds : List ℕ → BodyAt → Type 0
Holds bytes (headers.Placed body) = IsCodeInside bytes body
Holds bytes (headers.Malformed at) = Unit {0}
Holds bytes headers.Unplaced = Unit {0}

placed_holds : (bytes : List ℕ) (body : ℕ → Body) (place : Option ℕ) (len : ℕ)
    → (is_some place ≡ true → unwrap_or place 0 + len ≤ length bytes)
    → ((at : ℕ) → at + len ≤ length bytes → IsCodeInside bytes (body at))
    → Holds bytes (placed body place)
placed_holds bytes body None len ends fits = tt
placed_holds bytes body (Some at) len ends fits = fits at (ends refl)

tiny_holds : (bytes : List ℕ) (rva first : ℕ) → AllInFile bytes (sections_of bytes) → Holds bytes (tiny_at bytes rva first)
unfolding tiny_at
tiny_holds bytes rva first all =
    let size = first / 4 in
    placed_holds bytes (tiny_body size) (place_of bytes rva (1 + size)) (1 + size)
    (slice_inside bytes (sections_of bytes) rva (1 + size) (omega arith) all) (λ at fits. omega (arith, fits))

fat_header_by : (bytes : List ℕ) (b : Bool) (body : BodyAt) (header : ℕ) → Holds bytes body
    → Holds bytes (if b then body else headers.Malformed header)
fat_header_by bytes true body header e = e
fat_header_by bytes false body header e = tt

fat_header_holds : (bytes : List ℕ) (rva header : ℕ) → AllInFile bytes (sections_of bytes) → Holds bytes (fat_header_at bytes rva header)
fat_header_holds bytes rva header all =
    let size = code_size bytes header in
    fat_header_by bytes (header_words bytes header == 3) (placed (fat_body bytes header) (place_of bytes rva (12 + size))) header
    (placed_holds bytes (fat_body bytes header) (place_of bytes rva (12 + size)) (12 + size)
    (slice_inside bytes (sections_of bytes) rva (12 + size) (omega arith) all) (λ at fits. omega (arith, fits)))

-- what is found at a place, if it is one
at_place : (bytes : List ℕ) (found : ℕ → BodyAt) (place : Option ℕ) → ((at : ℕ) → Holds bytes (found at))
    → Holds bytes (option_map_or found place headers.Unplaced)
at_place bytes found None e = tt
at_place bytes found (Some at) e = e at

fat_holds : (bytes : List ℕ) (rva : ℕ) → AllInFile bytes (sections_of bytes) → Holds bytes (fat_at bytes rva)
unfolding fat_at
fat_holds bytes rva all =
    at_place bytes (fat_header_at bytes rva) (place_of bytes rva 12) (λ header. fat_header_holds bytes rva header all)

header_by : (bytes : List ℕ) (tiny fat : Bool) (a b : BodyAt) (at : ℕ) → Holds bytes a → Holds bytes b
    → Holds bytes (if tiny then a else if fat then b else headers.Malformed at)
header_by bytes true fat a b at e f = e
header_by bytes false true a b at e f = f
header_by bytes false false a b at e f = tt

body_holds : (bytes : List ℕ) (rva : ℕ) → AllInFile bytes (sections_of bytes) → Holds bytes (body_at bytes rva)
unfolding body_at
body_holds bytes rva all =
    at_place bytes (λ at. header_at bytes rva at (slice_index bytes at)) (place_of bytes rva 1)
    (λ at. let first = slice_index bytes at in
    header_by bytes (first % 4 == 2) (first % 4 == 3) (tiny_at bytes rva first) (fat_at bytes rva) at
    (tiny_holds bytes rva first all) (fat_holds bytes rva all))

-- ---- the body of a row

if_placed : (bytes : List ℕ) (b : Bool) (found : BodyAt) → Holds bytes found
    → IfSome (if b then placed_body found else None) (IsCodeInside bytes)
if_placed bytes true (headers.Placed body) e = e
if_placed bytes true (headers.Malformed at) e = tt
if_placed bytes true headers.Unplaced e = tt
if_placed bytes false found e = tt

row_inside : (bytes : List ℕ) (layout : Layout) (row : ℕ) → AllInFile bytes (sections_of bytes)
    → IfSome (placed_in bytes layout row) (IsCodeInside bytes)
unfolding placed_in
row_inside bytes layout row all =
    let rva = method_rva bytes layout row in
    if_placed bytes (has_cil_body bytes layout row) (body_at bytes rva) (body_holds bytes rva all)

pub body_inside : (bytes : List ℕ) (row : ℕ) → IsWellFormed bytes
    → IfSome (answer_of (by_row (file_layout bytes) tables.MethodDef (placed_in bytes (file_layout bytes))) row)
    (λ body. body.code.start + body.code.len ≤ length bytes)
body_inside bytes row e =
    answers_have (IsCodeInside bytes) (placed_in bytes (file_layout bytes)) _ row
    (λ i. row_inside bytes (file_layout bytes) i (sections_inside bytes (pe_pass bytes e)))

-- its code is what a slice of the file is there
pub code_is : (bytes slice : List ℕ) (body : Body) (found : Option MethodBody) → slice ≡ bytes
    → option_map (with_code bytes) (Some body) ≡ found
    → Some (take (body.code.start + body.code.len - body.code.start) (drop body.code.start slice))
    ≡ option_map (λ (b : MethodBody). b.code) found
unfolding with_code
code_is bytes slice body found same e =
    let n : body.code.start + body.code.len - body.code.start ≡ body.code.len = omega arith in
    ap (λ k. Some (take k (drop body.code.start slice))) n
    ∙ ap (λ b. Some (take body.code.len (drop body.code.start b))) same
    ∙ ap (option_map (λ (b : MethodBody). b.code)) e
