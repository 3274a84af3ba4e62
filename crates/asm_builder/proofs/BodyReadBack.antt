-- One body, read back: where its bytes stand at a place that its RVA is found at, its header says what it was written with.
use Rattle.std.proofs.Common.{◌≡◌, ◌≤◌, ◌<◌, ◌+◌, ◌/◌, ◌^◌, ℕ, Bool, true, false, List, [], ◌∷◌, ◌++◌, length}
use Rattle.std.proofs.Common.{get_or, drop, take, Option, Some, None, refl, sym, ap, ◌∙◌, arith, lit<, length-append}
use Rattle.std.specs.Prelude.{All, if◌then◌else◌, ◌==◌, slice_index, unwrap_or}
use Rattle.std.specs.Option.{option_map_or}
use Rattle.std.proofs.lemmas.List.{get_or-drop, take_at}
use Rattle.rtr_bytes.specs.Field.{u16_of, u32_of}
use Rattle.pe_image.specs.Headers.{place_of}
use Rattle.pe_image.specs.Places.{aligned}
use Rattle.pe_image.specs.Written.{HeaderField, StandsIn, at}
use Rattle.pe_image.proofs.NumbersInARow.{fields_stand}
use Rattle.cli_assembly.specs.Bodies.{body_at, code_size, fat_at, fat_body, fat_header_at, header_at, header_words}
use Rattle.cli_assembly.specs.Bodies.{placed, with_code, MethodBody}
use Rattle.cli_assembly.specs.Flags.{has_flag}
use Rattle.cli_assembly.specs.declared.body.Body.{Body}
use Rattle.asm_builder.specs.declared.asked.Method.{Method}
use Rattle.asm_builder.specs.Cells.{body_size, is_empty}
use Rattle.asm_builder.specs.Content.{body_bytes, body_header, padded4}
use Rattle.asm_builder.proofs.Padding.{length-padded4}
use Rattle.asm_builder.proofs.PeBack.{stands_after}

-- ---- lengths

pub length-body_header : (locals : ℕ) (m : Method) → length (body_header locals m) ≡ 12
length-body_header locals m = refl

length-full : (locals : ℕ) (m : Method) → length (padded4 (body_header locals m ++ m.code)) ≡ aligned 4 (12 + length m.code)
length-full locals m =
    length-padded4 (body_header locals m ++ m.code)
    ∙ ap (λ (t : ℕ). aligned 4 t)
    (length-append (body_header locals m) m.code ∙ ap (λ (t : ℕ). t + length m.code) (length-body_header locals m))

if_length : (b : Bool) (bytes : List ℕ) (n : ℕ) → length bytes ≡ n → length (if b then [] else bytes) ≡ (if b then 0 else n)
if_length true bytes n h = refl
if_length false bytes n h = h

pub length-body_bytes : (locals : ℕ) (m : Method) → length (body_bytes locals m) ≡ body_size m
length-body_bytes locals m =
    if_length (is_empty m.code) (padded4 (body_header locals m ++ m.code)) (aligned 4 (12 + length m.code)) (length-full locals m)

-- ---- a body with code

pub is_full : (locals : ℕ) (m : Method) → is_empty m.code ≡ false → body_bytes locals m ≡ padded4 (body_header locals m ++ m.code)
is_full locals m h = ap (λ (b : Bool). if b then [] else padded4 (body_header locals m ++ m.code)) h

pub size_is_full : (m : Method) → is_empty m.code ≡ false → body_size m ≡ aligned 4 (12 + length m.code)
size_is_full m h = ap (λ (b : Bool). if b then 0 else aligned 4 (12 + length m.code)) h

-- ---- its header, read

abbrev fields_at : ℕ → ℕ → Method → List HeaderField
fields_at place locals m =
    at place 2 0x3013 ∷ at (place + 2) 2 m.max_stack ∷ at (place + 4) 4 (length m.code) ∷ at (place + 8) 4 locals ∷ []

header_fields : (bytes rest : List ℕ) (place locals : ℕ) (m : Method) → m.max_stack < 2 ^ 16 → length m.code < 2 ^ 32 → locals < 2 ^ 32
    → place ≤ length bytes → drop place bytes ≡ body_header locals m ++ rest → All (StandsIn bytes) (fields_at place locals m)
header_fields bytes rest place locals m stack size token long whole =
    fields_stand (fields_at place locals m) bytes rest place (place + 12)
    (refl, (refl, (omega arith, (omega arith, omega arith)))) (lit< tt, (stack, (size, (token, tt)))) long whole

-- what its header says
abbrev pub read_body : ℕ → ℕ → Method → Body
read_body place locals m =
    record { max_stack = m.max_stack; locals = locals; code = record { start = place + 12; len = length m.code }; more = false }

abbrev body : ℕ → ℕ → ℕ → ℕ → Bool → Body
body max_stack locals start len more =
    record { max_stack = max_stack; locals = locals; code = record { start = start; len = len }; more = more }

same_body : (a b c d : ℕ) (e : Bool) (a' b' d' : ℕ) (e' : Bool) → a ≡ a' → b ≡ b' → d ≡ d' → e ≡ e' → body a b c d e ≡ body a' b' c d' e'
same_body a b c d e a' b' d' e' f g h i = rw (f, g, h, i) refl

first_byte : (bytes rest : List ℕ) (place locals : ℕ) (m : Method) → drop place bytes ≡ body_header locals m ++ rest
    → slice_index bytes place ≡ 0x13
first_byte bytes rest place locals m whole =
    let here : place + 0 ≡ place = omega arith in
    ap (λ (t : ℕ). get_or bytes t 0) (sym here) ∙ sym (get_or-drop place bytes 0 0) ∙ ap (λ (t : List ℕ). get_or t 0 0) whole

where_true : {A : Type 0} (b : Bool) (x y : A) → b ≡ true → (if b then x else y) ≡ x
where_true b x y h = ap (λ (t : Bool). if t then x else y) h

pub body_is : (bytes rest : List ℕ) (rva place locals : ℕ) (m : Method)
    → ((len : ℕ) → len ≤ 12 + length m.code → place_of bytes rva len ≡ Some place)
    → m.max_stack < 2 ^ 16 → length m.code < 2 ^ 32 → locals < 2 ^ 32 → place ≤ length bytes
    → drop place bytes ≡ body_header locals m ++ rest → body_at bytes rva ≡ placed (λ at. read_body at locals m) (Some place)
unfolding body_at fat_at
body_is bytes rest rva place locals m found stack size token long whole =
    let fields = header_fields bytes rest place locals m stack size token long whole in
    let number = λ (o : Option ℕ). unwrap_or o 0 in
    let format : u16_of bytes place ≡ 0x3013 = ap number (fields 0 (at 0 0 0) (omega arith)) in
    let max_stack : u16_of bytes (place + 2) ≡ m.max_stack = ap number (fields 1 (at 0 0 0) (omega arith)) in
    let len : code_size bytes place ≡ length m.code = ap number (fields 2 (at 0 0 0) (omega arith)) in
    let sig : u32_of bytes (place + 8) ≡ locals = ap number (fields 3 (at 0 0 0) (omega arith)) in
    let more : has_flag (u16_of bytes place) 0x08 ≡ false = ap (λ (t : ℕ). has_flag t 0x08) format in
    let words : header_words bytes place ≡ 3 = ap (λ (t : ℕ). t / 2 ^ 12) format in
    let all : place_of bytes rva (12 + code_size bytes place) ≡ Some place =
    ap (λ (t : ℕ). place_of bytes rva (12 + t)) len ∙ found (12 + length m.code) (omega arith) in
    let none = placed (fat_body bytes place) None in
    let three : fat_header_at bytes rva place ≡ placed (fat_body bytes place) (place_of bytes rva (12 + code_size bytes place)) =
    where_true (header_words bytes place == 3) _ _ (ap (λ (t : ℕ). t == 3) words) in
    ap (λ (o : Option ℕ). option_map_or (λ (t : ℕ). header_at bytes rva t (slice_index bytes t)) o none) (found 1 (omega arith))
    ∙ ap (λ (t : ℕ). header_at bytes rva place t) (first_byte bytes rest place locals m whole)
    ∙ ap (λ (o : Option ℕ). option_map_or (fat_header_at bytes rva) o none) (found 12 (omega arith))
    ∙ three
    ∙ ap (λ (o : Option ℕ). placed (fat_body bytes place) o) all
    ∙ ap (λ (t : Body). placed (λ at. t) (Some place))
    (same_body (u16_of bytes (place + 2)) (u32_of bytes (place + 8)) (place + 12) (code_size bytes place)
    (has_flag (u16_of bytes place) 0x08)
    m.max_stack locals (length m.code) false max_stack sig len more)

pub code_is : (bytes rest : List ℕ) (place locals : ℕ) (m : Method) → drop place bytes ≡ (body_header locals m ++ m.code) ++ rest
    → with_code bytes (read_body place locals m) ≡ record { max_stack = m.max_stack; locals = locals; code = m.code; more = false }
unfolding with_code
code_is bytes rest place locals m whole =
    let made : List ℕ → MethodBody = λ code. record { max_stack = m.max_stack; locals = locals; code = code; more = false } in
    ap (λ (t : List ℕ). made (take (length m.code) t))
    (stands_after bytes (body_header locals m) m.code rest place 12 (length-body_header locals m) whole)
    ∙ ap made (take_at m.code rest (length m.code) refl)
