-- Bodies, read back: a body in one piece at its place of the section is found by its RVA, with what its header says.
use Rattle.std.proofs.Common.{◌≡◌, ◌≤◌, ◌<◌, ◌+◌, ◌-◌, ◌^◌, ℕ, zero, suc, Bool, true, false, ◌&&◌, List, [], ◌∷◌, ◌++◌}
use Rattle.std.proofs.Common.{length, drop, Some, None, sym, ap, ◌∙◌, arith, append_assoc, length-append, length-drop}
use Rattle.std.specs.Prelude.{IsTrue, if◌then◌else◌, nat_lt, not, replicate, slice_get}
use Rattle.std.specs.List.{list_all}
use Rattle.std.proofs.lemmas.Bool.{and_parts, ltb-true}
use Rattle.std.proofs.lemmas.List.{drop-append-le, drop-drop, drop_at}
use Rattle.pe_image.specs.Headers.{place_of}
use Rattle.pe_image.specs.Places.{aligned}
use Rattle.cli_assembly.specs.Bodies.{body_at, placed_body, with_code}
use Rattle.cli_assembly.specs.declared.body.Body.{Body}
use Rattle.cli_assembly.specs.Checks.{place_if_malformed, place_if_unplaced}
use Rattle.asm_builder.specs.declared.asked.Method.{Method}
use Rattle.asm_builder.specs.Cells.{bodies_rva, body_size, has_locals, is_empty}
use Rattle.asm_builder.specs.declared.content.Content.{Content}
use Rattle.asm_builder.specs.Content.{bodies_from, body_bytes, body_header, locals_after, locals_token}
use Rattle.asm_builder.specs.File.{bodies_at, file_of}
use Rattle.asm_builder.specs.Sound.{are_bytes, are_writable_locals, is_writable_method, is_writable_sig}
use Rattle.asm_builder.proofs.Padding.{aligned4_up}
use Rattle.asm_builder.proofs.PeBack.{IsShort, bodies_stand, place_is}
use Rattle.asm_builder.proofs.BodyReadBack.{body_is, code_is, is_full, length-body_bytes, read_body, size_is_full}

-- the RVA of the method at an index, and how many rows of StandAloneSig are before its own
abbrev pub rva_before : ℕ → List Method → ℕ → ℕ
rva_before at [] i = at
rva_before at (m ∷ ms) zero = at
rva_before at (m ∷ ms) (suc i) = rva_before (at + body_size m) ms i

abbrev pub locals_before : ℕ → List Method → ℕ → ℕ
locals_before n [] i = n
locals_before n (m ∷ ms) zero = n
locals_before n (m ∷ ms) (suc i) = locals_before (locals_after n m) ms i

pub rva_grows : (ms : List Method) (at i : ℕ) → at ≤ rva_before at ms i
rva_grows [] at i = omega arith
rva_grows (m ∷ ms) at zero = omega arith
rva_grows (m ∷ ms) at (suc i) = omega (arith, rva_grows ms (at + body_size m) i)

-- ---- each row of StandAloneSig has a body

one_more : (b c : Bool) (n size : ℕ) → 0 < size → (if not b && not c then n + 1 else n) ≤ n + (if b then 0 else size)
one_more true c n size h = omega arith
one_more false true n size h = omega arith
one_more false false n size h = omega arith

few_locals : (n : ℕ) (m : Method) → locals_after n m ≤ n + body_size m
few_locals n m =
    let up = aligned4_up (12 + length m.code) in
    one_more (is_empty m.code) (is_empty m.locals) n (aligned 4 (12 + length m.code)) (omega (arith, up))

locals_below : (ms : List Method) (n at i : ℕ) → locals_before n ms i + at ≤ n + rva_before at ms i
locals_below [] n at i = omega arith
locals_below (m ∷ ms) n at zero = omega arith
locals_below (m ∷ ms) n at (suc i) = omega (arith, few_locals n m, locals_below ms (locals_after n m) (at + body_size m) i)

token_below : (b : Bool) (before : ℕ) → before < 2 ^ 25 → (if b then 0x1100_0001 + before else 0) < 2 ^ 32
token_below true before h = omega (arith, h)
token_below false before h = omega arith

-- ---- a method's body is at its place among the bodies

abbrev Stands : ℕ → List Method → ℕ → Method → ℕ → Type 0
Stands n ms i m at =
    (rest : List ℕ) × (drop (rva_before at ms i - at) (bodies_from n ms) ≡ body_bytes (locals_token (locals_before n ms i) m) m ++ rest)

first_stands : (n : ℕ) (f : Method) (ms : List Method) (m : Method) (at : ℕ) → f ≡ m → Stands n (f ∷ ms) zero m at
unfolding bodies_from
first_stands n f ms m at e =
    let none : at - at ≡ 0 = omega arith in
    let others = bodies_from (locals_after n f) ms in (
      others,
      ap (λ (t : ℕ). drop t (body_bytes (locals_token n f) f ++ others)) none
          ∙ ap (λ (t : Method). body_bytes (locals_token n t) t ++ others) e,
    )

next_stands : (n : ℕ) (f : Method) (ms : List Method) (i : ℕ) (m : Method) (at : ℕ) → Stands (locals_after n f) ms i m (at + body_size f)
    → Stands n (f ∷ ms) (suc i) m at
unfolding bodies_from
next_stands n f ms i m at (rest, e) =
    let first = body_bytes (locals_token n f) f in
    let others = bodies_from (locals_after n f) ms in
    let to = rva_before (at + body_size f) ms i in
    let further : to - at ≡ body_size f + (to - (at + body_size f)) = omega (arith, rva_grows ms (at + body_size f) i) in (
      rest,
      ap (λ (t : ℕ). drop t (first ++ others)) further ∙ sym (drop-drop (to - (at + body_size f)) (body_size f) (first ++ others))
          ∙ ap (λ (t : List ℕ). drop (to - (at + body_size f)) t)
          (drop_at first others (body_size f) (length-body_bytes (locals_token n f) f))
          ∙ e,
    )

same_method : (f m : Method) → Some f ≡ Some m → f ≡ m
same_method f m e = cc

pub body_stands : (n : ℕ) (ms : List Method) (i : ℕ) (m : Method) → slice_get ms i ≡ Some m → (at : ℕ)
    → (rest : List ℕ) × (drop (rva_before at ms i - at) (bodies_from n ms) ≡ body_bytes (locals_token (locals_before n ms i) m) m ++ rest)
body_stands n [] i m e at = absurd (let x : ⊥ = cc in x)
body_stands n (f ∷ ms) zero m e at = first_stands n f ms m at (same_method f m e)
body_stands n (f ∷ ms) (suc i) m e at =
    next_stands n f ms i m at (body_stands (locals_after n f) ms i m e (at + body_size f))

-- ---- a method of those that can be written

writable_at : (ms : List Method) (i : ℕ) (m : Method) → IsTrue (list_all is_writable_method ms) → slice_get ms i ≡ Some m
    → is_writable_method m ≡ true
writable_at [] i m h e = absurd (let x : ⊥ = cc in x)
writable_at (f ∷ ms) zero m h e =
    ap is_writable_method (sym (same_method f m e)) ∙ (and_parts (is_writable_method f) (list_all is_writable_method ms) h).0
writable_at (f ∷ ms) (suc i) m h e = writable_at ms i m (and_parts (is_writable_method f) (list_all is_writable_method ms) h).1 e

small_stack : (m : Method) → is_writable_method m ≡ true → m.max_stack < 2 ^ 16
small_stack m h =
    let c = are_writable_locals m.locals && are_bytes m.code in
    let b = nat_lt m.max_stack (2 ^ 16) && c in
    let a = is_writable_sig m.sig && b in
    ltb-true m.max_stack (2 ^ 16)
    (and_parts (nat_lt m.max_stack (2 ^ 16)) c (and_parts (is_writable_sig m.sig) b (and_parts (nat_lt m.flags (2 ^ 16)) a h).1).1).0

-- ---- read back from the file

-- the bytes of a method's body stand in the file
record InFile (content : Content) (entry before far : ℕ) (m : Method) : Type 0 where
  rest : List ℕ
  room : far + body_size m ≤ length content.bodies
  stands : drop (bodies_at + far) (file_of content entry) ≡ body_bytes (locals_token before m) m ++ rest

in_file : (content : Content) (entry : ℕ) → IsShort content → entry < 2 ^ 32 → (before far : ℕ) (m : Method) → is_empty m.code ≡ false
    → (rest : List ℕ) → drop far content.bodies ≡ body_bytes (locals_token before m) m ++ rest → InFile content entry before far m
in_file content entry short small before far m full rest e =
    let own = body_bytes (locals_token before m) m in
    let file = file_of content entry in
    let all = bodies_stand content entry short small in
    let up = aligned4_up (12 + length m.code) in
    let size : length content.bodies - far ≡ body_size m + length rest =
    sym (length-drop far content.bodies) ∙ ap (λ (t : List ℕ). length t) e ∙ length-append own rest
    ∙ ap (λ (t : ℕ). t + length rest) (length-body_bytes (locals_token before m) m) in
    let more : 0 < body_size m = omega (arith, size_is_full m full, up) in
    let within : far ≤ length content.bodies = omega (arith, size, more) in
    record {
      rest = rest ++ all.0;
      room = omega (arith, size, more);
      stands = sym (drop-drop far bodies_at file) ∙ ap (λ (t : List ℕ). drop far t) all.1
          ∙ drop-append-le far content.bodies all.0 within
          ∙ ap (λ (t : List ℕ). t ++ all.0) e
          ∙ append_assoc own rest all.0;
    }

-- what is said of a body that was read
abbrev IsBack : Content → ℕ → ℕ → ℕ → Method → Type 0
IsBack content entry rva locals m =
    (body : Body) × (placed_body (body_at (file_of content entry) rva) ≡ Some body)
    × ((column : ℕ) → place_if_unplaced column (body_at (file_of content entry) rva) ≡ None)
    × (place_if_malformed (body_at (file_of content entry) rva) ≡ None)
    × (with_code (file_of content entry) body ≡ record { max_stack = m.max_stack; locals = locals; code = m.code; more = false })

one_back : (content : Content) (entry : ℕ) → IsShort content → entry < 2 ^ 32 → (before far rva : ℕ) (m : Method) → rva ≡ bodies_rva + far
    → before ≤ far → is_empty m.code ≡ false → m.max_stack < 2 ^ 16 → InFile content entry before far m
    → IsBack content entry rva (locals_token before m) m
one_back content entry short small before far rva m rva-is few full stack inside =
    let file = file_of content entry in
    let place = bodies_at + far in
    let locals = locals_token before m in
    let code = body_header locals m ++ m.code in
    let zeros : List ℕ = replicate (aligned 4 (length code) - length code) 0 in
    let up = aligned4_up (12 + length m.code) in
    let size = size_is_full m full in
    let room = inside.room in
    let found : (len : ℕ) → len ≤ 12 + length m.code → place_of file rva len ≡ Some place = λ len h.
    let is : rva ≡ 0x2000 + (72 + far) = omega (arith, rva-is) in
    let to : 512 + (72 + far) ≡ place = omega arith in
    ap (λ (t : ℕ). place_of file t len) is
    ∙ place_is content entry short small (72 + far) len (omega (arith, h, room, size, up)) ∙ ap (λ (t : ℕ). Some t) to in
    let whole : drop place file ≡ code ++ (zeros ++ inside.rest) =
    inside.stands ∙ ap (λ (t : List ℕ). t ++ inside.rest) (is_full locals m full) ∙ append_assoc code zeros inside.rest in
    let begins : drop place file ≡ body_header locals m ++ (m.code ++ (zeros ++ inside.rest)) =
    whole ∙ append_assoc (body_header locals m) m.code (zeros ++ inside.rest) in
    let token : locals < 2 ^ 32 = token_below (has_locals m) before (omega (arith, few, room, short)) in
    let short_code : length m.code < 2 ^ 32 = omega (arith, room, size, up, short) in
    let there : 12 + length m.code ≤ length file - place =
    omega (
      arith,
      sym (length-drop place file) ∙ ap (λ (t : List ℕ). length t) whole,
      length-append code (zeros ++ inside.rest),
      length-append (body_header locals m) m.code,
    ) in
    let is =
    body_is file (m.code ++ (zeros ++ inside.rest)) rva place locals m found stack short_code token (omega (arith, there)) begins in (
      read_body place locals m,
      ap placed_body is,
      (λ column. ap (place_if_unplaced column) is),
      ap place_if_malformed is,
      code_is file (zeros ++ inside.rest) place locals m whole,
    )

pub body_back : (content : Content) (entry : ℕ) → IsShort content → entry < 2 ^ 32 → (methods : List Method)
    → IsTrue (list_all is_writable_method methods) → content.bodies ≡ bodies_from 0 methods → (i : ℕ) (m : Method)
    → slice_get methods i ≡ Some m → is_empty m.code ≡ false
    → (body : Body) × (placed_body (body_at (file_of content entry) (rva_before bodies_rva methods i)) ≡ Some body)
    × ((column : ℕ) → place_if_unplaced column (body_at (file_of content entry) (rva_before bodies_rva methods i)) ≡ None)
    × (place_if_malformed (body_at (file_of content entry) (rva_before bodies_rva methods i)) ≡ None)
    × (with_code (file_of content entry) body
    ≡ record { max_stack = m.max_stack; locals = locals_token (locals_before 0 methods i) m; code = m.code; more = false })
body_back content entry short small methods writable bodies i m here full =
    let rva = rva_before bodies_rva methods i in
    let far = rva - bodies_rva in
    let before = locals_before 0 methods i in
    let stands = body_stands 0 methods i m here bodies_rva in
    let grows = rva_grows methods bodies_rva i in
    let inside = in_file content entry short small before far m full stands.0 (ap (λ (t : List ℕ). drop far t) bodies ∙ stands.1) in
    one_back content entry short small before far rva m (omega (arith, grows)) (omega (arith, locals_below methods 0 bodies_rva i)) full
    (small_stack m (writable_at methods i m writable here)) inside
