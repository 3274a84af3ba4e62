-- Records of one size that are in a file one after the other, read back as what they spell.
use Rattle.std.proofs.Common.{◌≡◌, ℕ, suc, ◌+◌, ◌^◌, ◌<◌, ◌≤◌, Bool, true, List, [], ◌∷◌, ◌++◌, length, drop, get_or, All, Some, None, refl}
use Rattle.std.proofs.Common.{sym, ap, ◌∙◌, arith, append_assoc, length-append, length-drop}
use Rattle.std.specs.Prelude.{flat_map}
use Rattle.std.specs.List.{AllByRecursion}
use Rattle.std.proofs.lemmas.List.{drop-drop, get_or-drop}
use Rattle.std.proofs.Math.Seq.{drop-append_seam}
use Rattle.byteorder.specs.Endian.{little_bytes, little_number}
use Rattle.byteorder.specs.Numbers.{length-bytes_low_first, little_number-reads_back}
use Rattle.rtr_bytes.specs.Checks.{first_record, records}
use Rattle.rtr_bytes.specs.Field.{field_at}
use Rattle.rtr_sections.proofs.ByPlace.{field_at-is}

-- what holds of each element, by recursion
pub all_of : {X : Type 0} (P : X → Type 0) (xs : List X) → All P xs → AllByRecursion P xs
all_of P [] h = tt
all_of P (x ∷ xs) h = (h 0 x (omega arith), all_of P xs (λ k d below. h (suc k) d (omega arith)))

-- a place after others
pub drop_behind : (file front behind : List ℕ) (place : ℕ) → drop place file ≡ front ++ behind → drop (place + length front) file ≡ behind
drop_behind file front behind place e =
    sym (drop-drop (length front) place file) ∙ ap (λ (t : List ℕ). drop (length front) t) e ∙ drop-append_seam front behind

-- a number whose bytes begin at a place
pub field_here : (k x : ℕ) (file : List ℕ) (place : ℕ) (behind : List ℕ) → drop place file ≡ little_bytes k x ++ behind → 0 < k
    → x < 256 ^ k → field_at k file place ≡ Some x
field_here k x file place behind e some fits =
    let size : length (drop place file) ≡ k + length behind =
    ap (λ (t : List ℕ). length t) e ∙ length-append (little_bytes k x) behind
    ∙ ap (λ (t : ℕ). t + length behind) (length-bytes_low_first 0 k x) in
    let inside : place + k ≤ length file = omega (arith, size, length-drop place file) in
    field_at-is k file place inside ∙ ap (λ (t : List ℕ). Some (little_number k t)) e
    ∙ ap (λ (t : ℕ). Some t) (little_number-reads_back k x behind fits)

-- and one after others
pub field_behind : (k x : ℕ) (file front : List ℕ) (place : ℕ) (behind : List ℕ) → drop place file ≡ front ++ (little_bytes k x ++ behind)
    → 0 < k → x < 256 ^ k → field_at k file (place + length front) ≡ Some x
field_behind k x file front place behind e some fits =
    field_here k x file (place + length front) behind (drop_behind file front (little_bytes k x ++ behind) place e) some fits

pub byte_behind : (file : List ℕ) (place i x : ℕ) (all : List ℕ) → drop place file ≡ all → get_or all i 0 ≡ x
    → get_or file (place + i) 0 ≡ x
byte_behind file place i x all e is = sym (get_or-drop place file i 0) ∙ ap (λ (t : List ℕ). get_or t i 0) e ∙ is

-- each record is read back
pub records_back : {X : Type 0} (read : ℕ → X) (spell : X → List ℕ) (size : ℕ) (file : List ℕ) (Fits : X → Type 0) (xs : List X) (start : ℕ)
    (rest : List ℕ)
    → ((x : X) → length (spell x) ≡ size)
    → ((x : X) (place : ℕ) (behind : List ℕ) → Fits x → drop place file ≡ spell x ++ behind → read place ≡ x)
    → AllByRecursion Fits xs → drop start file ≡ flat_map spell xs ++ rest → records read start size (length xs) ≡ xs
records_back read spell size file Fits [] start rest len back fits e = refl
records_back read spell size file Fits (x ∷ xs) start rest len back (fit, fits) e =
    let others = flat_map spell xs ++ rest in
    let whole : drop start file ≡ spell x ++ others = e ∙ append_assoc (spell x) (flat_map spell xs) rest in
    let next : drop (start + size) file ≡ others =
    ap (λ (t : ℕ). drop (start + t) file) (sym (len x)) ∙ drop_behind file (spell x) others start whole in
    rw (back x start others fit whole, records_back read spell size file Fits xs (start + size) rest len back fits next) refl

-- a test of records that are what was read
pub none_fails : {X : Type 0} (read : ℕ → X) (holds : X → Bool) (test : ℕ → Bool) (size : ℕ) (xs : List X) (start : ℕ)
    → ((place : ℕ) → test place ≡ holds (read place)) → records read start size (length xs) ≡ xs → AllByRecursion (λ x. holds x ≡ true) xs
    → first_record test start size (length xs) ≡ None
none_fails read holds test size [] start same e h = refl
none_fails read holds test size (x ∷ xs) start same e (h, hs) =
    let here : read start ≡ x = cc in
    let others : records read (start + size) size (length xs) ≡ xs = cc in
    let passes : test start ≡ true = same start ∙ ap holds here ∙ h in
    rw passes (none_fails read holds test size xs (start + size) same others hs)
