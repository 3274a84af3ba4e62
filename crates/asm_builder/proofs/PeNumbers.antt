-- Numbers that calls made, and what they spell.
use Rattle.std.proofs.Common.{◌≡◌, ℕ, List, [], ◌∷◌, ◌++◌, Result, Ok, Err, OnOk, refl, ap, ◌∙◌, append_assoc}
use Rattle.asm_builder.specs.declared.headers.Number.{Number}
use Rattle.asm_builder.specs.Numbers.{numbers_bytes}

abbrev pub number : ℕ → ℕ → Number
number width value = record { width = width; value = value }

-- lists are the same where their items are
pub same : {a b : Number} {xs ys : List Number} → a ≡ b → xs ≡ ys → (a ∷ xs) ≡ (b ∷ ys)
same {a} {b} {xs} {ys} e f = ap (λ (t : Number). t ∷ xs) e ∙ ap (λ (t : List Number). b ∷ t) f

pub no_more : (let none : List Number = [] in none) ≡ []
no_more = refl

-- what was put by numbers that are known
pub put_known : {A E : Type 0} {known : List Number} (r : Result A E) (new old bytes : List ℕ) (numbers : List Number)
    → OnOk r (new ≡ old ++ numbers_bytes numbers) → numbers ≡ known → numbers_bytes known ≡ bytes → OnOk r (new ≡ old ++ bytes)
put_known (Ok x) new old bytes numbers h e is = h ∙ ap (λ (t : List Number). old ++ numbers_bytes t) e ∙ ap (λ (t : List ℕ). old ++ t) is
put_known (Err x) new old bytes numbers h e is = tt

-- with other numbers and a text before them
pub put_after : {A E : Type 0} {known more : List Number} (r : Result A E) (new old before named text bytes : List ℕ)
    (first last : List Number)
    → before ≡ old ++ numbers_bytes first → named ≡ before ++ text → OnOk r (new ≡ named ++ numbers_bytes last)
    → first ≡ known → last ≡ more → numbers_bytes known ++ (text ++ numbers_bytes more) ≡ bytes → OnOk r (new ≡ old ++ bytes)
put_after {A} {E} {known} {more} (Ok x) new old before named text bytes first last a b h e f is =
    let front = numbers_bytes first in
    let back = numbers_bytes last in
    let named-is : named ≡ old ++ (front ++ text) = b ∙ ap (λ (t : List ℕ). t ++ text) a ∙ append_assoc old front text in
    h ∙ ap (λ (t : List ℕ). t ++ back) named-is ∙ append_assoc old (front ++ text) back
    ∙ ap (λ (t : List ℕ). old ++ t)
    (append_assoc front text back ∙ ap (λ (t : List Number). numbers_bytes t ++ (text ++ back)) e
    ∙ ap (λ (t : List Number). numbers_bytes known ++ (text ++ numbers_bytes t)) f ∙ is)
put_after (Err x) new old before named text bytes first last a b h e f is = tt
