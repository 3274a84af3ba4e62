-- Fields one after the other: each is read at its place.
use Rattle.std.proofs.Common.{◌≡◌, ℕ, ◌+◌, ◌^◌, ◌<◌, ◌≤◌, List, [], ◌∷◌, ◌++◌, length, drop, Some, refl, sym, ap, ◌∙◌}
use Rattle.std.proofs.Common.{arith, append_assoc, length-append, length-drop, inl, inr}
use Rattle.std.specs.Prelude.{All}
use Rattle.std.specs.List.{flat_map}
use Rattle.std.proofs.lemmas.Bool.{cases_lt, le-leb, lt-leb}
use Rattle.std.proofs.lemmas.List.{drop-drop, drop_at}
use Rattle.std.proofs.lemmas.List.Elements.{All-nil, All-cons}
use Rattle.byteorder.specs.Endian.{little_bytes, little_number}
use Rattle.byteorder.specs.Numbers.{little_number-reads_back, length-bytes_low_first}
use Rattle.rtr_bytes.specs.Field.{field_at}
use Rattle.pe_image.specs.Written.{HeaderField, StandsIn, Covers}
use Rattle.pe_image.specs.Pieces.{field_bytes, fields_bytes}

-- each fits its width
abbrev pub AllFit : List HeaderField → Type 0
AllFit [] = Unit {0}
AllFit (f ∷ fs) = (f.number < 256 ^ f.width) × AllFit fs

pub AllFit-append : (a b : List HeaderField) → AllFit a → AllFit b → AllFit (a ++ b)
AllFit-append [] b h k = k
AllFit-append (f ∷ fs) b (h, hs) k = (h, AllFit-append fs b hs k)

pub length-field_bytes : (f : HeaderField) → length (field_bytes f) ≡ f.width
length-field_bytes f = length-bytes_low_first 0 f.width f.number

-- fields that cover a range have its length
pub length-fields_bytes : (fs : List HeaderField) (from to : ℕ) → Covers from fs to → from + length (fields_bytes fs) ≡ to
length-fields_bytes [] from to h = omega (arith, h)
length-fields_bytes (f ∷ fs) from to (here, more) =
    omega (arith, length-append (field_bytes f) (fields_bytes fs), length-field_bytes f, length-fields_bytes fs (from + f.width) to more)

pub field_at-is : (k : ℕ) (bytes : List ℕ) (place : ℕ) → place + k ≤ length bytes
    → field_at k bytes place ≡ Some (little_number k (drop place bytes))
field_at-is k bytes place h = rw (le-leb (place + k) (length bytes) h) refl

-- a field whose bytes are at a place is read there
pub field_stands : (f : HeaderField) (bytes rest : List ℕ) → f.number < 256 ^ f.width → f.place + f.width ≤ length bytes
    → drop f.place bytes ≡ field_bytes f ++ rest → StandsIn bytes f
field_stands f bytes rest fit long whole =
    field_at-is f.width bytes f.place long
    ∙ ap (λ (t : List ℕ). Some (little_number f.width t)) whole
    ∙ ap (λ (t : ℕ). Some t) (little_number-reads_back f.width f.number rest fit)

-- and so is each of a row of them
pub fields_stand : (fs : List HeaderField) (bytes rest : List ℕ) (from to : ℕ) → Covers from fs to → AllFit fs → from ≤ length bytes
    → drop from bytes ≡ fields_bytes fs ++ rest → All (StandsIn bytes) fs
fields_stand [] bytes rest from to h fit long whole = All-nil (StandsIn bytes)
fields_stand (f ∷ fs) bytes rest from to (here, more) (fit, fits) long whole =
    let tail = fields_bytes fs ++ rest in
    let split : drop from bytes ≡ field_bytes f ++ tail = whole ∙ append_assoc (field_bytes f) (fields_bytes fs) rest in
    let size = length-field_bytes f in
    let room : from + f.width ≤ length bytes =
    omega (arith, long, length-drop from bytes, ap (λ (t : List ℕ). length t) split, length-append (field_bytes f) tail, size) in
    let first : StandsIn bytes f =
    field_stands f bytes tail fit (omega (arith, here, room)) (ap (λ (t : ℕ). drop t bytes) here ∙ split) in
    let next : drop (from + f.width) bytes ≡ tail =
    sym (drop-drop f.width from bytes) ∙ ap (λ (t : List ℕ). drop f.width t) split ∙ drop_at (field_bytes f) tail f.width size in
    All-cons (StandsIn bytes) f fs first (fields_stand fs bytes rest (from + f.width) to more fits room next)
