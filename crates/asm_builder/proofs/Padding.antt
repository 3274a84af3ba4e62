-- Zeros up to a multiple of 4, and the sizes of bodies.
use Rattle.std.proofs.Common.{◌≡◌, ◌≤◌, ◌<◌, ◌+◌, ◌-◌, ◌*◌, ◌/◌, ◌%◌, ℕ, Bool, true, false, cond, List, [], ◌∷◌, ◌++◌}
use Rattle.std.proofs.Common.{length, replicate, refl, sym, ap, ◌∙◌, arith, append_assoc, length-append}
use Rattle.std.specs.Prelude.{◌↔◌}
use Rattle.std.proofs.lemmas.Bool.{both_ways}
use Rattle.std.proofs.lemmas.List.{length-replicate}
use Rattle.pe_image.specs.Places.{aligned}
use Rattle.asm_builder.specs.declared.asked.Method.{Method}
use Rattle.asm_builder.specs.Cells.{body_size, is_empty}
use Rattle.asm_builder.specs.Content.{body_bytes, body_header, padded4}

pub aligned4_up : (n : ℕ) → n ≤ aligned 4 n
unfolding aligned
aligned4_up n = omega arith

pub aligned4_near : (n : ℕ) → aligned 4 n < n + 4
unfolding aligned
aligned4_near n = omega arith

pub aligned4_fours : (n : ℕ) → aligned 4 n % 4 ≡ 0
unfolding aligned
aligned4_fours n = omega arith

pub length-padded4 : (bytes : List ℕ) → length (padded4 bytes) ≡ aligned 4 (length bytes)
length-padded4 bytes =
    let zeros = aligned 4 (length bytes) - length bytes in
    let sum = length-append bytes (replicate zeros 0) in
    let few = length-replicate {A = ℕ} zeros 0 in
    let up = aligned4_up (length bytes) in
    omega (arith, sum, few, up)

fours : (n : ℕ) → n % 4 ≡ 0 → (k : ℕ) × (n ≡ 4 * k)
fours n e = (n / 4, omega arith)

pub padded4_fours : (bytes : List ℕ) → (k : ℕ) × (length (padded4 bytes) ≡ 4 * k)
padded4_fours bytes = fours (length (padded4 bytes)) (ap (λ n. n % 4) (length-padded4 bytes) ∙ aligned4_fours (length bytes))

pub not_empty : {X : Type 0} (xs : List X) (b : Bool) → (b ≡ true) ↔ (xs ≡ []) → b ≡ false → is_empty xs ≡ false
not_empty [] b iff e = absurd (both_ways b e (iff.1 refl))
not_empty (x ∷ xs) b iff e = refl

-- ---- bodies

pub size_is : (m : Method) (len pad : ℕ) → is_empty m.code ≡ false → len ≡ 12 + length m.code
    → pad ≡ aligned 4 len - len → len + pad ≡ body_size m
size_is m len pad some len_is pad_is =
    let same = ap (λ n. aligned 4 n) len_is in
    let up = aligned4_up len in
    let sum : len + pad ≡ aligned 4 (12 + length m.code) = omega (arith, same, up, len_is, pad_is) in
    sum ∙ sym (ap (λ b. cond b 0 (aligned 4 (12 + length m.code))) some)

pub size_few : (m : Method) → body_size m ≤ 15 + length m.code
size_few m = by_code (is_empty m.code)
  where
    by_code : (b : Bool) → cond b 0 (aligned 4 (12 + length m.code)) ≤ 15 + length m.code
    by_code true = omega arith
    by_code false = let near = aligned4_near (12 + length m.code) in omega (arith, near)

pub put_is : (old now1 now2 now3 : List ℕ) (locals : ℕ) (m : Method) (pad : ℕ) → is_empty m.code ≡ false
    → now1 ≡ old ++ body_header locals m → now2 ≡ now1 ++ m.code → pad ≡ aligned 4 (12 + length m.code) - (12 + length m.code)
    → now3 ≡ now2 ++ replicate pad 0 → now3 ≡ old ++ body_bytes locals m
put_is old now1 now2 now3 locals m pad some e1 e2 pad_is e3 =
    let header = body_header locals m in
    let whole = header ++ m.code in
    let count : length (body_header locals m ++ m.code) ≡ 12 + length m.code = omega arith in
    let second : now2 ≡ old ++ (body_header locals m ++ m.code) = e2 ∙ ap (λ (l : List ℕ). l ++ m.code) e1
    ∙ append_assoc old header m.code in
    let zeros : pad ≡ aligned 4 (length (body_header locals m ++ m.code)) - length (body_header locals m ++ m.code) =
    pad_is ∙ ap (λ n. aligned 4 n - n) (sym count) in
    let body : body_bytes locals m ≡ padded4 (body_header locals m ++ m.code) =
    ap (λ b. cond b [] (padded4 (body_header locals m ++ m.code))) some in
    let third : now3 ≡ old ++ padded4 (body_header locals m ++ m.code) =
    e3
    ∙ ap (λ (l : List ℕ). l ++ replicate pad 0) second
    ∙ append_assoc old whole (replicate pad 0)
    ∙ ap (λ k. old ++ (whole ++ replicate k 0)) zeros in
    third ∙ ap (λ (l : List ℕ). old ++ l) (sym body)

-- four parts, one after the other
pub four_parts : (old a b d e whole now1 now2 now3 now4 : List ℕ) → now1 ≡ old ++ a → now2 ≡ now1 ++ b → now3 ≡ now2 ++ d → now4 ≡ now3 ++ e
    → whole ≡ a ++ (b ++ (d ++ e)) → now4 ≡ old ++ whole
four_parts old a b d e whole now1 now2 now3 now4 e1 e2 e3 e4 whole_is =
    let two : now2 ≡ old ++ (a ++ b) = e2 ∙ ap (λ (l : List ℕ). l ++ b) e1 ∙ append_assoc old a b in
    let three : now3 ≡ old ++ ((a ++ b) ++ d) = e3 ∙ ap (λ (l : List ℕ). l ++ d) two ∙ append_assoc old (a ++ b) d in
    let four : now4 ≡ old ++ (((a ++ b) ++ d) ++ e) = e4 ∙ ap (λ (l : List ℕ). l ++ e) three ∙ append_assoc old ((a ++ b) ++ d) e in
    four ∙ ap (λ (l : List ℕ). old ++ l) (append_assoc (a ++ b) d e ∙ append_assoc a b (d ++ e) ∙ sym whole_is)
