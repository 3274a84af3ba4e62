-- What is computed of the fixup that bytes begin with is what the relation of fixups and their spellings says.
use Rattle.std.proofs.Common.{◌≡◌, zero, suc, get_or, ◌<◌, ◌≤◌, ◌+◌, ◌-◌, ◌*◌, ◌==◌, ◌&&◌, ℕ, Bool, true, false, cond, List, [], ◌∷◌, ◌++◌}
use Rattle.std.proofs.Common.{length, drop, Option, Some, None, unwrap_or, refl, sym, ap, ◌∙◌, subst, append_assoc, arith}
use Rattle.std.proofs.lemmas.Bool.{lt-ltb, le-ltb, le-leb}
use Rattle.std.proofs.lemmas.Bool.Decides.{nat_tests}
use Rattle.std.specs.Prelude.{nat_lt}
use Rattle.std.specs.List.{AllByRecursion}
use Rattle.std.specs.Option.{option_map, IfSome}
use Rattle.std.proofs.lemmas.List.{length-append, length-drop}
use Rattle.rtr_bytes.specs.Compressed.{IsCompressed, compressed_in, four_bytes_in, number_in, two_bytes_in}
use Rattle.rtr_bytes.specs.Spelling.{BeginsAt}
use Rattle.fixup_sigs.specs.declared.fixup.Fixup.{Fixup}
use Rattle.fixup_sigs.specs.declared.fixup.Fixup.TheVariants as fixups
use Rattle.fixup_sigs.specs.declared.fixup.SigType.TheVariants as types
use Rattle.fixup_sigs.specs.declared.fixup.FieldToken.{FieldToken}
use Rattle.fixup_sigs.specs.Fixup.{IsElement, IsFixup, IsFieldToken, IsSigType, IsPair, flags_of}
use Rattle.fixup_sigs.specs.Shortest.{fixup_bytes}
use Rattle.fixup_sigs.specs.Reading.{Found, made, then_in, is_element, element_in, type_in, array_type_in, token}
use Rattle.fixup_sigs.specs.Reading.{row_in, field_in, payload_in, fixup_in, with_next, without_next, fixup_and_next_at, fixup_at}

-- ---- what is found is spelled

-- the bytes begin with a spelling of x, and the rest is after it
abbrev pub Begins : {X : Type 0} → (List ℕ → X → Type 0) → List ℕ → X → List ℕ → Type 0
Begins Spells bytes x rest = (spelling : List ℕ) × (bytes ≡ spelling ++ rest) × Spells spelling x

-- each is a byte
abbrev pub AreBytes : List ℕ → Type 0
AreBytes bytes = AllByRecursion (λ b. b < 256) bytes

-- what a reader finds in bytes is spelled
abbrev pub IsSound : {X : Type 0} → (List ℕ → X → Type 0) → (List ℕ → Found X) → Type 0
IsSound {X = X} Spells read =
    (bytes : List ℕ) (x : X) (rest : List ℕ) → AreBytes bytes → ◌≡◌ {A = Found X} (read bytes) (Some (x, rest))
    → Begins Spells bytes x rest

-- and what is spelled is found
abbrev pub IsWhole : {X : Type 0} → (List ℕ → X → Type 0) → (List ℕ → Found X) → Type 0
IsWhole {X = X} Spells read =
    (spelling : List ℕ) (x : X) (rest : List ℕ) → Spells spelling x → ◌≡◌ {A = Found X} (read (spelling ++ rest)) (Some (x, rest))

same_found : {X : Type 0} (x y : X) (a b : List ℕ) → ◌≡◌ {A = Found X} (Some (x, a)) (Some (y, b)) → (x ≡ y) × (a ≡ b)
same_found {X = X} x y a b e =
    (let f : Found X → X = λ o. (unwrap_or o (x, a)).0 in ap f e, let f : Found X → List ℕ = λ o. (unwrap_or o (x, a)).1 in ap f e)

none_some : {X P : Type 0} (x : X) (a : List ℕ) → ◌≡◌ {A = Found X} None (Some (x, a)) → P
none_some x a e = absurd (let h : ⊥ = cc in h)

-- a test decides which
chosen : {X P : Type 0} (b : Bool) (o p : Found X) (r : Found X) → cond b o p ≡ r → (b ≡ true → o ≡ r → P) → (b ≡ false → p ≡ r → P) → P
chosen true o p r e here there = here refl e
chosen false o p r e here there = there refl e

-- what was made of a value that was found
made_of : {X Y P : Type 0} (f : X → Y) (o : Found X) (y : Y) (rest : List ℕ) → ◌≡◌ {A = Found Y} (made f o) (Some (y, rest))
    → ((x : X) → ◌≡◌ {A = Found X} o (Some (x, rest)) → f x ≡ y → P) → P
made_of f None y rest e go = none_some y rest e
made_of {X = X} {Y = Y} f (Some (x, more)) y rest e go =
    let (same, end) = same_found (f x) y more rest e in
    go x (let g : List ℕ → Found X = λ t. Some (x, t) in ap g end) same

then_of : {X Y P : Type 0} (o : Found X) (next : X → List ℕ → Found Y) (y : Y) (rest : List ℕ)
    → ◌≡◌ {A = Found Y} (then_in o next) (Some (y, rest))
    → ((x : X) (more : List ℕ) → ◌≡◌ {A = Found X} o (Some (x, more)) → ◌≡◌ {A = Found Y} (next x more) (Some (y, rest)) → P) → P
then_of None next y rest e go = none_some y rest e
then_of (Some (x, more)) next y rest e go = go x more refl e

eqb-eq : (a b : ℕ) → (a == b) ≡ true → a ≡ b
eqb-eq a b t = grind (arith, nat_tests)

-- ---- bytes

later_bytes : (s rest : List ℕ) → AreBytes (s ++ rest) → AreBytes rest
later_bytes [] rest fits = fits
later_bytes (b ∷ s) rest (one, fits) = later_bytes s rest fits

-- those after what was found
left_bytes : {X : Type 0} (Spells : List ℕ → X → Type 0) (bytes rest : List ℕ) (x : X) → Begins Spells bytes x rest → AreBytes bytes
    → AreBytes rest
left_bytes Spells bytes rest x (s, parts, h) fits = later_bytes s rest (subst AreBytes parts fits)

dropped_bytes : (at : ℕ) (bytes : List ℕ) → AreBytes bytes → AreBytes (drop at bytes)
dropped_bytes zero bytes fits = fits
dropped_bytes (suc at) [] fits = tt
dropped_bytes (suc at) (b ∷ bytes) (one, fits) = dropped_bytes at bytes fits

pub are_bytes : (bytes : List ℕ) → ((i : ℕ) → get_or bytes i 0 < 256) → AreBytes bytes
are_bytes [] each = tt
are_bytes (b ∷ bytes) each = (each 0, are_bytes bytes (λ i. each (suc i)))

-- ---- numbers

abbrev Counted : Type 0
Counted = Option (ℕ × ℕ)

same_count : (m n j k : ℕ) → ◌≡◌ {A = Counted} (Some (m, j)) (Some (n, k)) → (m ≡ n) × (j ≡ k)
same_count m n j k e =
    (let f : Counted → ℕ = λ o. (unwrap_or o (m, j)).0 in ap f e, let f : Counted → ℕ = λ o. (unwrap_or o (m, j)).1 in ap f e)

-- a number by how many bytes it has
begins_with : (bytes : List ℕ) (m n j k : ℕ) → ◌≡◌ {A = Counted} (Some (m, j)) (Some (n, k)) → Begins IsCompressed bytes m (drop j bytes)
    → Begins IsCompressed bytes n (drop k bytes)
begins_with bytes m n j k e h =
    let (same, size) = same_count m n j k e in
    let P : ℕ → Type 0 = λ t. Begins IsCompressed bytes t (drop j bytes) in
    let Q : ℕ → Type 0 = λ t. Begins IsCompressed bytes n (drop t bytes) in
    subst Q size (subst P same h)

none_counted : {P : Type 0} (n k : ℕ) → ◌≡◌ {A = Counted} None (Some (n, k)) → P
none_counted n k e = absurd (let h : ⊥ = cc in h)

which : {P : Type 0} (b : Bool) (o p r : Counted) → cond b o p ≡ r → (b ≡ true → o ≡ r → P) → (b ≡ false → p ≡ r → P) → P
which true o p r e here there = here refl e
which false o p r e here there = there refl e

two_counted : (a : ℕ) (more : List ℕ) (n k : ℕ) → 0x80 ≤ a → a < 0xC0 → AreBytes more
    → ◌≡◌ {A = Counted} (two_bytes_in a more) (Some (n, k)) → Begins IsCompressed (a ∷ more) n (drop k (a ∷ more))
two_counted a [] n k low high fits e = none_counted n k e
two_counted a (b ∷ more) n k low high (one, fits) e =
    begins_with (a ∷ b ∷ more) ((a - 0x80) * 256 + b) n 2 k e (a ∷ b ∷ [], refl, (low, high, one, refl))

four_counted : (a : ℕ) (more : List ℕ) (n k : ℕ) → 0xC0 ≤ a → a < 0xE0 → AreBytes more
    → ◌≡◌ {A = Counted} (four_bytes_in a more) (Some (n, k)) → Begins IsCompressed (a ∷ more) n (drop k (a ∷ more))
four_counted a [] n k low high fits e = none_counted n k e
four_counted a (b ∷ []) n k low high fits e = none_counted n k e
four_counted a (b ∷ c ∷ []) n k low high fits e = none_counted n k e
four_counted a (b ∷ c ∷ d ∷ more) n k low high (one, (two, (three, fits))) e =
    begins_with (a ∷ b ∷ c ∷ d ∷ more) ((((a - 0xC0) * 256 + b) * 256 + c) * 256 + d) n 4 k e
    (a ∷ b ∷ c ∷ d ∷ [], refl, (low, high, one, two, three, refl))

counted : (bytes : List ℕ) (n k : ℕ) → AreBytes bytes → ◌≡◌ {A = Counted} (compressed_in bytes) (Some (n, k))
    → Begins IsCompressed bytes n (drop k bytes)
counted [] n k fits e = none_counted n k e
counted (a ∷ more) n k (one, fits) e =
    which (nat_lt a 0x80) (Some (a, 1)) _ (Some (n, k)) e
    (λ t s. begins_with (a ∷ more) a n 1 k s (a ∷ [], refl, (grind (arith, nat_tests), refl)))
    (λ big s. which (nat_lt a 0xC0) (two_bytes_in a more) _ (Some (n, k)) s
    (λ t u. two_counted a more n k (grind (arith, nat_tests)) (grind (arith, nat_tests)) fits u)
    (λ bigger u. which (nat_lt a 0xE0) (four_bytes_in a more) None (Some (n, k)) u
    (λ t v. four_counted a more n k (grind (arith, nat_tests)) (grind (arith, nat_tests)) fits v)
    (λ t v. none_counted n k v)))

counted_found : {P : Type 0} (bytes : List ℕ) (o : Counted) (n : ℕ) (rest : List ℕ)
    → ◌≡◌ {A = Found ℕ} (option_map (λ found. (found.0, drop found.1 bytes)) o) (Some (n, rest))
    → ((k : ℕ) → ◌≡◌ {A = Counted} o (Some (n, k)) → drop k bytes ≡ rest → P) → P
counted_found bytes None n rest e go = none_some n rest e
counted_found bytes (Some (m, k)) n rest e go =
    let (same, end) = same_found m n (drop k bytes) rest e in
    go k (let f : ℕ → Counted = λ t. Some (t, k) in ap f same) end

number_sound : IsSound IsCompressed number_in
number_sound bytes n rest fits e =
    counted_found bytes (compressed_in bytes) n rest e (λ k found end.
    let P : List ℕ → Type 0 = λ t. Begins IsCompressed bytes n t in subst P end (counted bytes n k fits found))

number_whole : IsWhole IsCompressed number_in
number_whole [] n rest h = absurd h
number_whole (a ∷ []) n rest (low, is) = rw (lt-ltb a 0x80 low, is) refl
number_whole (a ∷ b ∷ []) n rest (low, high, byte, is) = rw (le-ltb a 0x80 low, lt-ltb a 0xC0 high, is) refl
number_whole (a ∷ b ∷ c ∷ []) n rest h = absurd h
number_whole (a ∷ b ∷ c ∷ d ∷ []) n rest (low, high, one, two, three, is) =
    rw (le-ltb a 0x80 (omega arith), le-ltb a 0xC0 low, lt-ltb a 0xE0 high, is) refl
number_whole (a ∷ b ∷ c ∷ d ∷ x ∷ more) n rest h = absurd h

-- the byte of an integer type
abbrev pub IsElementByte : List ℕ → ℕ → Type 0
IsElementByte bytes e = (bytes ≡ e ∷ []) × IsElement e

element_of : (e : ℕ) → is_element e ≡ true → IsElement e
element_of e t = (grind (arith, nat_tests), grind (arith, nat_tests))

of_element : (e : ℕ) → IsElement e → is_element e ≡ true
of_element e (low, high) = rw (le-leb 0x02 e low, le-leb e 0x0B high) refl

element_sound : IsSound IsElementByte element_in
unfolding element_in
element_sound [] e rest fits told = none_some e rest told
element_sound (a ∷ more) e rest fits told =
    chosen (is_element a) (Some (a, more)) None (Some (e, rest)) told
    (λ t s. let (same, end) = same_found a e more rest s in
    (e ∷ [], ap (λ r. a ∷ r) end ∙ ap (λ b. b ∷ rest) same, (refl, subst IsElement same (element_of a t))))
    (λ t s. none_some e rest s)

element_whole : IsWhole IsElementByte element_in
unfolding element_in
element_whole s e rest (is, element) =
    rw (ap (λ (x : List ℕ). x ++ rest) is, of_element e element) refl

-- one byte, and nothing after it
one_byte : {X : Type 0} (Spells : List ℕ → X → Type 0) (a k : ℕ) (x y : X) (more rest : List ℕ) → a ≡ k
    → ◌≡◌ {A = Found X} (Some (x, more)) (Some (y, rest)) → Spells (k ∷ []) x → Begins Spells (a ∷ more) y rest
one_byte {X = X} Spells a k x y more rest is e h =
    let (same, end) = same_found x y more rest e in
    let P : X → Type 0 = λ z. Spells (k ∷ []) z in
    (k ∷ [], ap (λ b. b ∷ more) is ∙ ap (λ r. k ∷ r) end, subst P same h)

-- a byte, and after it what a reader finds
behind_sound : {X Y : Type 0} (Spells : List ℕ → X → Type 0) (Made : List ℕ → Y → Type 0) (read : List ℕ → Found X) (f : X → Y) (k a : ℕ)
    (more : List ℕ) (y : Y) (rest : List ℕ)
    → AreBytes more → IsSound Spells read
    → ((s : List ℕ) (x : X) → Spells s x → Made (k ∷ s) (f x)) → (a == k) ≡ true → ◌≡◌ {A = Found Y} (made f (read more)) (Some (y, rest))
    → Begins Made (a ∷ more) y rest
behind_sound {Y = Y} Spells Made read f k a more y rest fits sound spelled test e =
    made_of f (read more) y rest e (λ x found is.
    let (s, parts, h) = sound more x rest fits found in
    let P : Y → Type 0 = λ z. Made (k ∷ s) z in
    (k ∷ s, ap (λ b. b ∷ more) (eqb-eq a k test) ∙ ap (λ r. k ∷ r) parts, subst P is (spelled s x h)))

array_spelled : (s : List ℕ) (x : ℕ) → IsElementByte s x → IsSigType (0x1D ∷ s) (types.Array x)
array_spelled s x (is, element) = (ap (λ r. 0x1D ∷ r) is, element)

type_sound : IsSound IsSigType type_in
unfolding type_in
type_sound [] of rest fits e = none_some of rest e
type_sound (a ∷ more) of rest (one, fits) e =
    chosen (is_element a) (Some (types.Int a, more)) _ (Some (of, rest)) e
    (λ t s. one_byte IsSigType a a (types.Int a) of more rest refl s (refl, element_of a t))
    (λ _ s. chosen (a == 0x0E) (Some (types.Str, more)) _ (Some (of, rest)) s
    (λ t u. one_byte IsSigType a 0x0E types.Str of more rest (eqb-eq a 0x0E t) u refl)
    (λ _ u. chosen (a == 0x1C) (Some (types.Object, more)) _ (Some (of, rest)) u
    (λ t v. one_byte IsSigType a 0x1C types.Object of more rest (eqb-eq a 0x1C t) v refl)
    (λ _ v. chosen (a == 0x12) (made types.Class (number_in more)) _ (Some (of, rest)) v
    (λ t w. behind_sound IsCompressed IsSigType number_in types.Class 0x12 a more of rest fits number_sound (λ s x h. (s, refl, h)) t w)
    (λ _ w. chosen (a == 0x1D) (made types.Array (element_in more)) None (Some (of, rest)) w
    (λ t z. behind_sound IsElementByte IsSigType element_in types.Array 0x1D a more of rest fits element_sound array_spelled t z)
    (λ _ z. none_some of rest z)))))

type_whole : IsWhole IsSigType type_in
unfolding type_in
type_whole s (types.Int e) rest (is, element) =
    rw (ap (λ (x : List ℕ). x ++ rest) is, of_element e element) refl
type_whole s types.Str rest is = rw (ap (λ (x : List ℕ). x ++ rest) is) refl
type_whole s types.Object rest is = rw (ap (λ (x : List ℕ). x ++ rest) is) refl
type_whole s (types.Class coded) rest (more, is, h) =
    rw (ap (λ (x : List ℕ). x ++ rest) is, number_whole more coded rest h) refl
type_whole s (types.Array e) rest (is, element) =
    rw (ap (λ (x : List ℕ). x ++ rest) is, element_whole (e ∷ []) e rest (refl, element)) refl

-- an array, as a type that is one
abbrev pub IsArray : List ℕ → ℕ → Type 0
IsArray bytes e = IsSigType bytes (types.Array e)

array_sound : IsSound IsArray array_type_in
array_sound [] e rest fits told = none_some e rest told
array_sound (a ∷ more) e rest (one, fits) told =
    chosen (a == 0x1D) (element_in more) None (Some (e, rest)) told
    (λ t s. let (spelled, parts, h) = element_sound more e rest fits
    s in (0x1D ∷ spelled, ap (λ b. b ∷ more) (eqb-eq a 0x1D t) ∙ ap (λ r. 0x1D ∷ r) parts, array_spelled spelled e h))
    (λ t s. none_some e rest s)

array_whole : IsWhole IsArray array_type_in
array_whole s e rest (is, element) =
    rw (ap (λ (x : List ℕ). x ++ rest) is, element_whole (e ∷ []) e rest (refl, element)) refl

-- two, one after the other
pair_sound : {X Y : Type 0} (SpellsX : List ℕ → X → Type 0) (SpellsY : List ℕ → Y → Type 0) (bytes more rest : List ℕ) (x : X) (y : Y)
    → Begins SpellsX bytes x more → Begins SpellsY more y rest → Begins (IsPair SpellsX SpellsY) bytes (x, y) rest
pair_sound SpellsX SpellsY bytes more rest x y (s, first, h) (t, second, k) =
    (s ++ t, first ∙ ap (λ r. s ++ r) second ∙ sym (append_assoc s t rest), (s, t, refl, h, k))

row_sound : (flags : ℕ) (bytes more rest : List ℕ) (field : FieldToken) → AreBytes more → Begins IsCompressed bytes flags more
    → ◌≡◌ {A = Found FieldToken} (row_in flags more) (Some (field, rest)) → Begins IsFieldToken bytes field rest
row_sound flags bytes more rest field fits first e =
    chosen (flags == 0x00) (made (token false) (number_in more)) _ (Some (field, rest)) e
    (λ t s. flagged false (eqb-eq flags 0x00 t) s)
    (λ _ s. chosen (flags == 0x10) (made (token true) (number_in more)) None (Some (field, rest)) s
    (λ t u. flagged true (eqb-eq flags 0x10 t) u)
    (λ _ u. none_some field rest u))
  where
    flagged : (b : Bool) → flags ≡ flags_of b → ◌≡◌ {A = Found FieldToken} (made (token b) (number_in more)) (Some (field, rest))
        → Begins IsFieldToken bytes field rest
    flagged b is s = made_of (token b) (number_in more) field rest s (λ row found same.
        let P : FieldToken → Type 0 = λ f. Begins IsFieldToken bytes f rest in
        let Q : ℕ → Type 0 = λ n. Begins (IsPair IsCompressed IsCompressed) bytes (n, row) rest in
        subst P same
        (subst Q is (pair_sound IsCompressed IsCompressed bytes more rest flags row first (number_sound more row rest fits found))))

field_sound : IsSound IsFieldToken field_in
unfolding field_in
field_sound bytes field rest fits e =
    then_of (number_in bytes) row_in field rest e (λ flags more found told.
    let first = number_sound bytes flags more fits found in
    row_sound flags bytes more rest field (left_bytes IsCompressed bytes more flags first fits) first told)

row_whole : (b : Bool) (row : ℕ) (more rest : List ℕ) → ◌≡◌ {A = Found ℕ} (number_in more) (Some (row, rest))
    → ◌≡◌ {A = Found FieldToken} (row_in (flags_of b) more) (Some (token b row, rest))
row_whole false row more rest e = rw e refl
row_whole true row more rest e = rw e refl

field_whole : IsWhole IsFieldToken field_in
unfolding field_in
field_whole s field rest (front, back, is, first, second) =
    rw (ap (λ (x : List ℕ). x ++ rest) is, append_assoc, number_whole front (flags_of field.member_ref) (back ++ rest) first)
    (row_whole field.member_ref field.row (back ++ rest) rest (number_whole back field.row rest second))

-- ---- fixups

offset_sound : (more : List ℕ) (fixup : Fixup) (rest : List ℕ) → AreBytes more
    → ◌≡◌ {A = Found Fixup} (then_in (number_in more) (λ offset behind. made (fixups.CheckFieldOffset offset) (field_in behind)))
    (Some (fixup, rest))
    → Begins IsFixup (0x2B ∷ more) fixup rest
offset_sound more fixup rest fits e =
    then_of (number_in more) (λ offset behind. made (fixups.CheckFieldOffset offset) (field_in behind)) fixup rest e
    (λ offset behind found told.
    made_of (fixups.CheckFieldOffset offset) (field_in behind) fixup rest told (λ field there same.
    let first = number_sound more offset behind fits found in
    let second = field_sound behind field rest (left_bytes IsCompressed more behind offset first fits) there in
    let (s, parts, h) = pair_sound IsCompressed IsFieldToken more behind rest offset field first second in
    let P : Fixup → Type 0 = λ f. IsFixup (0x2B ∷ s) f in
    (0x2B ∷ s, ap (λ r. 0x2B ∷ r) parts, subst P same (s, refl, h))))

payload_sound : (kind : ℕ) (more : List ℕ) (fixup : Fixup) (rest : List ℕ) → AreBytes more
    → ◌≡◌ {A = Found Fixup} (payload_in kind more) (Some (fixup, rest)) → Begins IsFixup (kind ∷ more) fixup rest
unfolding payload_in
payload_sound kind more fixup rest fits e =
    chosen (kind == 0x14) (made fixups.MethodEntryDefToken (number_in more)) _ (Some (fixup, rest)) e
    (λ t s. behind_sound IsCompressed IsFixup number_in fixups.MethodEntryDefToken 0x14 kind more fixup rest fits number_sound
    (λ s x h. (s, refl, h)) t s)
    (λ _ e1. chosen (kind == 0x15) (made fixups.MethodEntryRefToken (number_in more)) _ (Some (fixup, rest)) e1
    (λ t s. behind_sound IsCompressed IsFixup number_in fixups.MethodEntryRefToken 0x15 kind more fixup rest fits number_sound
    (λ s x h. (s, refl, h)) t s)
    (λ _ e2. chosen (kind == 0x17) (made fixups.VirtualEntryDefToken (number_in more)) _ (Some (fixup, rest)) e2
    (λ t s. behind_sound IsCompressed IsFixup number_in fixups.VirtualEntryDefToken 0x17 kind more fixup rest fits number_sound
    (λ s x h. (s, refl, h)) t s)
    (λ _ e3. chosen (kind == 0x18) (made fixups.VirtualEntryRefToken (number_in more)) _ (Some (fixup, rest)) e3
    (λ t s. behind_sound IsCompressed IsFixup number_in fixups.VirtualEntryRefToken 0x18 kind more fixup rest fits number_sound
    (λ s x h. (s, refl, h)) t s)
    (λ _ e4. chosen (kind == 0x1A) (made fixups.Helper (number_in more)) _ (Some (fixup, rest)) e4
    (λ t s. behind_sound IsCompressed IsFixup number_in fixups.Helper 0x1A kind more fixup rest fits number_sound (λ s x h. (s, refl, h)) t
    s)
    (λ _ e5. chosen (kind == 0x1B) (made fixups.StringHandle (number_in more)) _ (Some (fixup, rest)) e5
    (λ t s. behind_sound IsCompressed IsFixup number_in fixups.StringHandle 0x1B kind more fixup rest fits number_sound
    (λ s x h. (s, refl, h)) t s)
    (λ _ e6. chosen (kind == 0x1C) (made fixups.NewObject (type_in more)) _ (Some (fixup, rest)) e6
    (λ t s. behind_sound IsSigType IsFixup type_in fixups.NewObject 0x1C kind more fixup rest fits type_sound (λ s x h. (s, refl, h)) t s)
    (λ _ e7. chosen (kind == 0x1D) (made fixups.NewArray (array_type_in more)) _ (Some (fixup, rest)) e7
    (λ t s. behind_sound IsArray IsFixup array_type_in fixups.NewArray 0x1D kind more fixup rest fits array_sound (λ s x h. (s, refl, h)) t
    s)
    (λ _ e8. chosen (kind == 0x1E) (made fixups.IsInstanceOf (type_in more)) _ (Some (fixup, rest)) e8
    (λ t s. behind_sound IsSigType IsFixup type_in fixups.IsInstanceOf 0x1E kind more fixup rest fits type_sound (λ s x h. (s, refl, h)) t
    s)
    (λ _ e9. chosen (kind == 0x1F) (made fixups.ChkCast (type_in more)) _ (Some (fixup, rest)) e9
    (λ t s. behind_sound IsSigType IsFixup type_in fixups.ChkCast 0x1F kind more fixup rest fits type_sound (λ s x h. (s, refl, h)) t s)
    (λ _ e10. chosen (kind == 0x20) (made fixups.FieldAddress (field_in more)) _ (Some (fixup, rest)) e10
    (λ t s. behind_sound IsFieldToken IsFixup field_in fixups.FieldAddress 0x20 kind more fixup rest fits field_sound
    (λ s x h. (s, refl, h)) t s)
    (λ _ e11. chosen (kind == 0x26) (made fixups.FieldBaseOffset (type_in more)) _ (Some (fixup, rest)) e11
    (λ t s. behind_sound IsSigType IsFixup type_in fixups.FieldBaseOffset 0x26 kind more fixup rest fits type_sound (λ s x h. (s, refl, h))
    t s)
    (λ _ e12. chosen (kind == 0x27) (made fixups.FieldOffset (field_in more)) _ (Some (fixup, rest)) e12
    (λ t s. behind_sound IsFieldToken IsFixup field_in fixups.FieldOffset 0x27 kind more fixup rest fits field_sound (λ s x h. (s, refl, h))
    t s)
    (λ _ e13. chosen (kind == 0x2B) (then_in (number_in more) (λ offset behind. made (fixups.CheckFieldOffset offset) (field_in behind)))
    None (Some (fixup, rest)) e13
    (λ t s. let P : ℕ → Type 0 = λ k. Begins IsFixup (k ∷ more) fixup rest in subst P (sym (eqb-eq kind 0x2B t))
    (offset_sound more fixup rest fits s))
    (λ _ s. none_some fixup rest s))))))))))))))

fixup_sound : IsSound IsFixup fixup_in
fixup_sound [] fixup rest fits e = none_some fixup rest e
fixup_sound (kind ∷ more) fixup rest (one, fits) e = payload_sound kind more fixup rest fits e

fixup_whole : IsWhole IsFixup fixup_in
unfolding payload_in
fixup_whole s (fixups.MethodEntryDefToken x) rest (more, is, h) =
    rw (ap (λ (t : List ℕ). t ++ rest) is, number_whole more x rest h) refl
fixup_whole s (fixups.MethodEntryRefToken x) rest (more, is, h) =
    rw (ap (λ (t : List ℕ). t ++ rest) is, number_whole more x rest h) refl
fixup_whole s (fixups.VirtualEntryDefToken x) rest (more, is, h) =
    rw (ap (λ (t : List ℕ). t ++ rest) is, number_whole more x rest h) refl
fixup_whole s (fixups.VirtualEntryRefToken x) rest (more, is, h) =
    rw (ap (λ (t : List ℕ). t ++ rest) is, number_whole more x rest h) refl
fixup_whole s (fixups.Helper x) rest (more, is, h) =
    rw (ap (λ (t : List ℕ). t ++ rest) is, number_whole more x rest h) refl
fixup_whole s (fixups.StringHandle x) rest (more, is, h) =
    rw (ap (λ (t : List ℕ). t ++ rest) is, number_whole more x rest h) refl
fixup_whole s (fixups.NewObject x) rest (more, is, h) =
    rw (ap (λ (t : List ℕ). t ++ rest) is, type_whole more x rest h) refl
fixup_whole s (fixups.NewArray x) rest (more, is, h) =
    rw (ap (λ (t : List ℕ). t ++ rest) is, array_whole more x rest h) refl
fixup_whole s (fixups.IsInstanceOf x) rest (more, is, h) =
    rw (ap (λ (t : List ℕ). t ++ rest) is, type_whole more x rest h) refl
fixup_whole s (fixups.ChkCast x) rest (more, is, h) =
    rw (ap (λ (t : List ℕ). t ++ rest) is, type_whole more x rest h) refl
fixup_whole s (fixups.FieldAddress x) rest (more, is, h) =
    rw (ap (λ (t : List ℕ). t ++ rest) is, field_whole more x rest h) refl
fixup_whole s (fixups.FieldBaseOffset x) rest (more, is, h) =
    rw (ap (λ (t : List ℕ). t ++ rest) is, type_whole more x rest h) refl
fixup_whole s (fixups.FieldOffset x) rest (more, is, h) =
    rw (ap (λ (t : List ℕ). t ++ rest) is, field_whole more x rest h) refl
fixup_whole s (fixups.CheckFieldOffset offset field) rest (more, is, (front, back, parts, first, second)) =
    rw (
      ap (λ (t : List ℕ). t ++ rest) is,
      ap (λ (t : List ℕ). t ++ rest) parts,
      append_assoc,
      number_whole front offset (back ++ rest) first,
      field_whole back field rest second,
    ) refl

-- ---- at a place

-- what is left from a place on
length_left : (bytes : List ℕ) (at : ℕ) → length (drop at bytes) ≡ length bytes - at
length_left bytes at = length-drop at bytes

-- where a fixup begins it is the one that is computed, with the place after it
pub next_at-found : (bytes : List ℕ) (at : ℕ) (fixup : Fixup) (next : ℕ) → BeginsAt IsFixup bytes at fixup next
    → fixup_and_next_at bytes at ≡ Some (fixup, next)
unfolding fixup_and_next_at
next_at-found bytes at fixup next (spelling, rest, parts, (payload, is, spelled), end) =
    let some : 1 ≤ length spelling = omega (arith, ap length is) in
    let left : length bytes - at ≡ length spelling + length rest =
    sym (length_left bytes at) ∙ ap length parts ∙ length-append spelling rest in
    let place : length bytes - length rest ≡ next = omega (arith, left, some, end) in
    rw (parts, fixup_whole spelling fixup rest (payload, is, spelled), place) refl

none_found : (o : Found Fixup) (n : ℕ) → ((fixup : Fixup) (rest : List ℕ) → ◌≡◌ {A = Found Fixup} o (Some (fixup, rest)) → ⊥)
    → option_map (with_next n) o ≡ None
none_found None n never = refl
none_found (Some (fixup, rest)) n never = absurd (never fixup rest refl)

-- and where none begins, none is computed
pub next_at-none : (bytes : List ℕ) (at : ℕ) → AreBytes bytes → ((fixup : Fixup) (next : ℕ) → BeginsAt IsFixup bytes at fixup next → ⊥)
    → fixup_and_next_at bytes at ≡ None
unfolding fixup_and_next_at
next_at-none bytes at fits never =
    none_found (fixup_in (drop at bytes)) (length bytes) (λ fixup rest e.
    let (s, parts, h) =
    fixup_sound (drop at bytes) fixup rest (dropped_bytes at bytes fits) e in never fixup (at + length s) (s, rest, parts, h, refl))

-- so what is read by the relation is what is computed
pub read_is : (bytes : List ℕ) (at : ℕ) (read : Option (Fixup × ℕ)) → ((i : ℕ) → get_or bytes i 0 < 256)
    → IfSome read (λ found. BeginsAt IsFixup bytes at found.0 found.1)
    → ((fixup : Fixup) (next : ℕ) → BeginsAt IsFixup bytes at fixup next → read ≡ Some (fixup, next)) → read ≡ fixup_and_next_at bytes at
read_is bytes at None each found only =
    sym (next_at-none bytes at (are_bytes bytes each) (λ fixup next h. let e = only fixup next h in absurd (cc)))
read_is bytes at (Some (fixup, next)) each found only = sym (next_at-found bytes at fixup next found)

pub fixup_at-found : (bytes : List ℕ) (at : ℕ) (fixup : Fixup) (next : ℕ) → BeginsAt IsFixup bytes at fixup next
    → fixup_at bytes at ≡ Some fixup
unfolding fixup_at
fixup_at-found bytes at fixup next h = rw (next_at-found bytes at fixup next h) refl

pub fixup_at-written : (fixup : Fixup) (bytes rest : List ℕ) (at : ℕ) → IsFixup (fixup_bytes fixup) fixup
    → drop at bytes ≡ fixup_bytes fixup ++ rest → fixup_at bytes at ≡ Some fixup
fixup_at-written fixup bytes rest at spelled is =
    fixup_at-found bytes at fixup (at + length (fixup_bytes fixup)) (fixup_bytes fixup, rest, is, spelled, refl)

found_is : (o : Found Fixup) (n : ℕ) (fixup : Fixup) → option_map without_next (option_map (with_next n) o) ≡ Some fixup
    → (rest : List ℕ) × ◌≡◌ {A = Found Fixup} o (Some (fixup, rest))
found_is None n fixup e = absurd (let x : ⊥ = cc in x)
found_is (Some (x, rest)) n fixup e =
    let same : x ≡ fixup = cc in
    (rest, let f : Fixup → Found Fixup = λ y. Some (y, rest) in ap f same)

-- what is computed at a place has a spelling
pub fixup_at-spelled : (bytes : List ℕ) (at : ℕ) (fixup : Fixup) → AreBytes bytes → fixup_at bytes at ≡ Some fixup
    → (spelling : List ℕ) × IsFixup spelling fixup
unfolding fixup_at fixup_and_next_at
fixup_at-spelled bytes at fixup fits e =
    let (rest, is) = found_is (fixup_in (drop at bytes)) (length bytes) fixup e in
    let (s, parts, h) = fixup_sound (drop at bytes) fixup rest (dropped_bytes at bytes fits) is in
    (s, h)

-- the fixup of what was read
pub fixup_at-read : (bytes : List ℕ) (at : ℕ) (read : Option (Fixup × ℕ)) → read ≡ fixup_and_next_at bytes at
    → option_map without_next read ≡ fixup_at bytes at
unfolding fixup_at
fixup_at-read bytes at read e = ap (option_map without_next) e
