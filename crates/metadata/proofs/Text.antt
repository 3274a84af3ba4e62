-- Where a text begins, by the places after it.
use Rattle.std.proofs.Common.{◌≡◌, ℕ, suc, ◌+◌, ◌<◌, ◌≤◌, ◌==◌, inl, inr, Bool, true, false, not, cond, ◌&&◌, List, []}
use Rattle.std.proofs.Common.{◌∷◌, ◌++◌, length, take, drop, get_or, Some, None, refl, sym, ap, ◌∙◌, subst, arith}
use Rattle.std.proofs.Common.{append_assoc, drop-cons, length-append}
use Rattle.std.specs.Prelude.{◌||◌, is_some, position, nat_lt}
use Rattle.std.specs.Char.{IsScalar, len_utf8}
use Rattle.std.specs.List.{list_any, position_or_len}
use Rattle.std.specs.Option.{option_and_then}
use Rattle.std.specs.Str.{IsUtf8, is_utf8}
use Rattle.std.proofs.lemmas.Bool.{and_from, and_parts, cases_Bool, cases_eq, cases_lt, eq-eqb, le-ltb, lt-ltb, ne_eqb, or_cases}
use Rattle.std.proofs.lemmas.Str.{IsUtf8-append, IsUtf8-encode, IsUtf8-from_is_utf8, IsUtf8-nil, char_from_byte}
use Rattle.std.proofs.lemmas.Str.{encode_ascii, is_utf8-from_IsUtf8, len_utf8_bounds, length-encode}
use Rattle.std.proofs.lemmas.List.{drop_all, take-append-drop}
use lib.Utf8.{encode, encodes, scalar, scalars, low_scalar}
use Rattle.metadata.specs.Heaps.{text_in, text_of}
use Rattle.metadata.specs.Marks.{begins_by_lead, goes_on, is_text}

-- ---- tests

pub utf8_so : (bytes : List ℕ) → IsUtf8 bytes → is_utf8 bytes ≡ true
utf8_so bytes u = is_utf8-from_IsUtf8 bytes u

pub utf8_not : (bytes : List ℕ) → (IsUtf8 bytes → ⊥) → is_utf8 bytes ≡ false
utf8_not bytes not_text = elim (cases_Bool (is_utf8 bytes)) [ inl e ↦ absurd (not_text (IsUtf8-from_is_utf8 bytes e)) | inr e ↦ e ]

same_test : (a b : Bool) → (a ≡ true → b ≡ true) → (b ≡ true → a ≡ true) → a ≡ b
same_test true b f g = sym (f refl)
same_test false true f g = g refl
same_test false false f g = refl

or_false : (a b : Bool) → (a || b) ≡ false → (a ≡ false) × (b ≡ false)
or_false true b e = absurd (let x : ⊥ = cc in x)
or_false false b e = (refl, e)

or_right : (a b : Bool) → b ≡ true → (a || b) ≡ true
or_right true b e = refl
or_right false b e = e

or_left : (a b : Bool) → a ≡ true → (a || b) ≡ true
or_left true b e = refl
or_left false b e = absurd (let x : ⊥ = cc in x)

not_true : (a : Bool) → not a ≡ true → a ≡ false
not_true true e = absurd (let x : ⊥ = cc in x)
not_true false e = refl

-- ---- the first zero

abbrev is_zero : ℕ → Bool
is_zero b = b == 0

-- a list up to its first zero
record Split (bytes : List ℕ) : Type 0 where
  text : List ℕ
  rest : List ℕ
  split : bytes ≡ text ++ 0 ∷ rest
  nonzero : list_any is_zero text ≡ false
  place : position_or_len is_zero bytes ≡ length text

place_step : (x : ℕ) (xs : List ℕ) → is_zero x ≡ false → position_or_len is_zero (x ∷ xs) ≡ 1 + position_or_len is_zero xs
place_step x xs e = ap (λ b. cond (not b) (1 + position_or_len is_zero xs) 0) e

place_here : (x : ℕ) (xs : List ℕ) → is_zero x ≡ true → position_or_len is_zero (x ∷ xs) ≡ 0
place_here x xs e = ap (λ b. cond (not b) (1 + position_or_len is_zero xs) 0) e

any_step : (x : ℕ) (xs : List ℕ) → is_zero x ≡ false → list_any is_zero xs ≡ false → list_any is_zero (x ∷ xs) ≡ false
any_step x xs e f = ap (λ b. b || list_any is_zero xs) e ∙ f

split_of : (bytes : List ℕ) → position_or_len is_zero bytes < length bytes → Split bytes
split_of [] h = absurd (omega arith)
split_of (x ∷ xs) h = elim (cases_eq x 0) [
  | inl e ↦ record { text = []; rest = xs; split = ap (λ y. y ∷ xs) e; nonzero = refl; place = place_here x xs (eq-eqb x 0 e) }
  | inr ne ↦
      let other = ne_eqb x 0 ne in
      let step = place_step x xs other in
      let ih = split_of xs (omega (arith, step)) in
      record {
        text = x ∷ ih.text;
        rest = ih.rest;
        split = ap (λ l. x ∷ l) ih.split;
        nonzero = any_step x ih.text other ih.nonzero;
        place = step ∙ (let p = ih.place in omega (arith, p));
      }
]

place_of : (text rest : List ℕ) → list_any is_zero text ≡ false → position_or_len is_zero (text ++ 0 ∷ rest) ≡ length text
place_of [] rest e = refl
place_of (x ∷ xs) rest e =
    let parts = or_false (is_zero x) (list_any is_zero xs) e in
    let ih = place_of xs rest parts.1 in
    place_step x (xs ++ 0 ∷ rest) parts.0 ∙ omega (arith, ih)

take_front : (text rest : List ℕ) → take (length text) (text ++ rest) ≡ text
take_front [] rest = refl
take_front (x ∷ xs) rest = ap (λ l. x ∷ l) (take_front xs rest)

drop_front : (text rest : List ℕ) → drop (length text) (text ++ rest) ≡ rest
drop_front [] rest = refl
drop_front (x ∷ xs) rest = drop_front xs rest

-- ---- a text at the front

record HasText (bytes : List ℕ) : Type 0 where
  text : List ℕ
  rest : List ℕ
  split : bytes ≡ text ++ 0 ∷ rest
  nonzero : list_any is_zero text ≡ false
  utf8 : IsUtf8 text

some_if : (b : Bool) (t : List ℕ) → is_some (cond b (Some t) None) ≡ b
some_if true t = refl
some_if false t = refl

text_at : (bytes : List ℕ) (n : ℕ) → position_or_len is_zero bytes ≡ n → n < length bytes → is_some (text_in bytes) ≡ is_utf8 (take n bytes)
unfolding text_in
text_at bytes n e lt =
    let at : nat_lt (position_or_len is_zero bytes) (length bytes) ≡ true = lt-ltb _ _ (omega (arith, e)) in
    ap (λ b. is_some (option_and_then (λ n. text_of (take n bytes)) (cond b (Some (position_or_len is_zero bytes)) None))) at
    ∙ ap (λ k. is_some (text_of (take k bytes))) e
    ∙ some_if (is_utf8 (take n bytes)) (take n bytes)

no_text : (bytes : List ℕ) → length bytes ≤ position_or_len is_zero bytes → is_some (text_in bytes) ≡ false
unfolding text_in
no_text bytes ge =
    ap (λ b. is_some (option_and_then (λ n. text_of (take n bytes)) (cond b (Some (position_or_len is_zero bytes)) None))) (le-ltb _ _ ge)

has_text : (bytes : List ℕ) → is_some (text_in bytes) ≡ true → HasText bytes
has_text bytes some = elim (cases_lt (position_or_len is_zero bytes) (length bytes)) [
  | inl lt ↦
      let s = split_of bytes lt in
      let front : take (position_or_len is_zero bytes) bytes ≡ s.text = ap (λ n. take n bytes) s.place
      ∙ ap (λ l. take (length s.text) l) s.split ∙ take_front s.text (0 ∷ s.rest) in
      let utf8 : is_utf8 s.text ≡ true = ap is_utf8 (sym front) ∙ sym (text_at bytes (position_or_len is_zero bytes) refl lt) ∙ some in
      record { text = s.text; rest = s.rest; split = s.split; nonzero = s.nonzero; utf8 = IsUtf8-from_is_utf8 s.text utf8 }
  | inr ge ↦ let none = no_text bytes ge in absurd (let x : ⊥ = cc in x)
]

text_is_in : (bytes : List ℕ) → HasText bytes → is_some (text_in bytes) ≡ true
text_is_in bytes t =
    let place : position_or_len is_zero bytes ≡ length t.text = ap (λ l. position_or_len is_zero l) t.split
    ∙ place_of t.text t.rest t.nonzero in
    let len = ap length t.split ∙ length-append t.text (0 ∷ t.rest) in
    let front : take (length t.text) bytes ≡ t.text = ap (λ l. take (length t.text) l) t.split ∙ take_front t.text (0 ∷ t.rest) in
    text_at bytes (length t.text) place (omega (arith, len)) ∙ ap is_utf8 front ∙ is_utf8-from_IsUtf8 t.text t.utf8

-- ---- from the places after it

take_drop : (n : ℕ) (l : List ℕ) → take n l ++ drop n l ≡ l
take_drop n l = take-append-drop n l

any_append : (xs ys : List ℕ) → list_any is_zero xs ≡ false → list_any is_zero ys ≡ false → list_any is_zero (xs ++ ys) ≡ false
any_append [] ys e f = f
any_append (x ∷ xs) ys e f =
    let parts = or_false (is_zero x) (list_any is_zero xs) e in any_step x (xs ++ ys) parts.0 (any_append xs ys parts.1 f)

any_parts : (xs ys : List ℕ) → list_any is_zero (xs ++ ys) ≡ false → (list_any is_zero xs ≡ false) × (list_any is_zero ys ≡ false)
any_parts [] ys e = (refl, e)
any_parts (x ∷ xs) ys e =
    let parts = or_false (is_zero x) (list_any is_zero (xs ++ ys)) e in
    let ih = any_parts xs ys parts.1 in
    (any_step x xs parts.0 ih.0, ih.1)

-- a part of a text, and then a text
longer : (n : ℕ) (bytes : List ℕ) → IsUtf8 (take n bytes) → list_any is_zero (take n bytes) ≡ false → HasText (drop n bytes) → HasText bytes
longer n bytes u nz t = record {
  text = take n bytes ++ t.text;
  rest = t.rest;
  split = sym (take_drop n bytes) ∙ ap (λ l. take n bytes ++ l) t.split ∙ sym (append_assoc (take n bytes) t.text (0 ∷ t.rest));
  nonzero = any_append (take n bytes) t.text nz t.nonzero;
  utf8 = IsUtf8-append (take n bytes) t.text u t.utf8;
}

went_on : (n : ℕ) (bytes : List ℕ) → goes_on n bytes ≡ true → is_some (text_in bytes) ≡ true
went_on n bytes e =
    let parts = and_parts (is_some (text_in (drop n bytes))) (is_text (take n bytes)) e in
    let here = and_parts (is_utf8 (take n bytes)) (not (list_any is_zero (take n bytes))) parts.1 in
    text_is_in bytes (longer n bytes (IsUtf8-from_is_utf8 (take n bytes) here.0) (not_true _ here.1) (has_text (drop n bytes) parts.0))

-- the text's first character
record FirstChar (bytes : List ℕ) : Type 0 where
  char : ℕ
  more : List ℕ
  split : bytes ≡ encode char ++ more
  scalar_is : IsScalar char
  nonzero : list_any is_zero (encode char) ≡ false
  text : HasText more

first_char : (bytes : List ℕ) (t : HasText bytes) (cs : List ℕ) → scalars cs ≡ true → encodes cs ≡ t.text
    → 0 < length t.text → FirstChar bytes
first_char bytes t [] ok e some = absurd (let n = ap length e in omega (arith, n))
first_char bytes t (c ∷ cs) ok e some =
    let parts = and_parts (scalar c) (scalars cs) ok in
    let nz = any_parts (encode c) (encodes cs) (subst (λ l. list_any is_zero l ≡ false) (sym e) t.nonzero) in
    record {
      char = c;
      more = encodes cs ++ 0 ∷ t.rest;
      split = t.split ∙ ap (λ l. l ++ 0 ∷ t.rest) (sym e) ∙ append_assoc (encode c) (encodes cs) (0 ∷ t.rest);
      scalar_is = parts.0;
      nonzero = nz.0;
      text = record { text = encodes cs; rest = t.rest; split = refl; nonzero = nz.1; utf8 = (cs, (parts.1, refl)) };
    }

first_of_text : (b : ℕ) (bytes : List ℕ) → 0 < b → HasText (b ∷ bytes) → FirstChar (b ∷ bytes)
first_of_text b bytes some t = first_char (b ∷ bytes) t t.utf8.0 t.utf8.1.0 t.utf8.1.1 (has_some t.text t.split)
  where
    has_some : (text : List ℕ) → b ∷ bytes ≡ text ++ 0 ∷ t.rest → 0 < length text
    has_some [] e = absurd (let h = ap (λ l. get_or l 0 0) e in omega (arith, h))
    has_some (x ∷ xs) e = omega arith

on_by_char : (b : ℕ) (bytes : List ℕ) (f : FirstChar (b ∷ bytes)) → goes_on (len_utf8 f.char) (b ∷ bytes) ≡ true
on_by_char b bytes f =
    let size = length-encode f.char in
    let front : take (len_utf8 f.char) (b ∷ bytes) ≡ encode f.char = ap (λ n. take n (b ∷ bytes)) (sym size)
    ∙ ap (λ l. take (length (encode f.char)) l) f.split ∙ take_front (encode f.char) f.more in
    let rest : drop (len_utf8 f.char) (b ∷ bytes) ≡ f.more = ap (λ n. drop n (b ∷ bytes)) (sym size)
    ∙ ap (λ l. drop (length (encode f.char)) l) f.split ∙ drop_front (encode f.char) f.more in
    and_from _ _
    (ap (λ l. is_some (text_in l)) rest ∙ text_is_in f.more f.text)
    (ap is_text front ∙ and_from _ _ (is_utf8-from_IsUtf8 (encode f.char) (IsUtf8-encode f.char f.scalar_is)) (ap not f.nonzero))

pub after_zero : (b : ℕ) (bytes : List ℕ) → b ≡ 0 → is_some (text_in (b ∷ bytes)) ≡ true
after_zero b bytes e =
    text_is_in (b ∷ bytes) (record { text = []; rest = bytes; split = ap (λ x. x ∷ bytes) e; nonzero = refl; utf8 = IsUtf8-nil })

ascii_test : (b : ℕ) → 0 < b → b < 128 → (is_utf8 (b ∷ []) && not (list_any is_zero (b ∷ []))) ≡ true
ascii_test b some small =
    and_from _ _
    (is_utf8-from_IsUtf8 (b ∷ []) (subst IsUtf8 (encode_ascii b small) (IsUtf8-encode b (low_scalar b (omega arith)))))
    (ap not (any_step b [] (ne_eqb b 0 (λ e. omega arith)) refl))

pub after_ascii : (b : ℕ) (bytes : List ℕ) → 0 < b → b < 128 → is_some (text_in (b ∷ bytes)) ≡ is_some (text_in bytes)
after_ascii b bytes some small = same_test (is_some (text_in (b ∷ bytes))) (is_some (text_in bytes))
    (λ h.
    let f = first_of_text b bytes some (has_text (b ∷ bytes) h) in
    let c : f.char ≡ b = char_from_byte (b ∷ bytes) f.more f.char f.split small (omega arith) in
    let same : b ∷ bytes ≡ b ∷ f.more = f.split ∙ ap (λ x. encode x ++ f.more) c ∙ ap (λ l. l ++ f.more) (encode_ascii b small) in
    let rest : bytes ≡ f.more = cc in
    ap (λ l. is_some (text_in l)) rest ∙ text_is_in f.more f.text)
    (λ h. went_on 1 (b ∷ bytes) (and_from _ _ h (ascii_test b some small)))

sized : (n : ℕ) (P : ℕ → Bool) → 1 < n → n ≤ 4 → P n ≡ true → ((P 2 || P 3) || P 4) ≡ true
sized n P low high e = elim (cases_eq n 2) [
  | inl two ↦ or_left (P 2 || P 3) (P 4) (or_left (P 2) (P 3) (ap P (sym two) ∙ e))
  | inr not_two ↦ elim (cases_eq n 3) [
    | inl three ↦ or_left (P 2 || P 3) (P 4) (or_right (P 2) (P 3) (ap P (sym three) ∙ e))
    | inr not_three ↦
        let four : n ≡ 4 = omega arith in
        or_right (P 2 || P 3) (P 4) (ap P (sym four) ∙ e)
  ]
]

not_ascii : (b : ℕ) (bytes : List ℕ) (f : FirstChar (b ∷ bytes)) → 127 < b → 1 < len_utf8 f.char
not_ascii b bytes f big = elim (cases_lt f.char 128) [
  | inl small ↦
      let first = ap (λ l. get_or l 0 0) (f.split ∙ ap (λ l. l ++ f.more) (encode_ascii f.char small)) in
      absurd (omega (arith, first))
  | inr large ↦
      let one : (nat_lt f.char 0x80) ≡ false = le-ltb _ _ large in
      long f.char one
]
  where
    two_or_more : (p q : Bool) → 1 < cond p 2 (cond q 3 4)
    two_or_more true q = omega arith
    two_or_more false true = omega arith
    two_or_more false false = omega arith

    long : (c : ℕ) → nat_lt c 0x80 ≡ false → 1 < len_utf8 c
    long c e =
        subst (λ b. 1 < cond b 1 (cond (nat_lt c 0x800) 2 (cond (nat_lt c 0x1_0000) 3 4))) (sym e)
        (two_or_more (nat_lt c 0x800) (nat_lt c 0x1_0000))

after_lead : (b : ℕ) (bytes : List ℕ) → 127 < b → is_some (text_in (b ∷ bytes)) ≡ begins_by_lead (b ∷ bytes)
after_lead b bytes big = same_test _ _
    (λ h.
    let f = first_of_text b bytes (omega arith) (has_text (b ∷ bytes) h) in
    sized (len_utf8 f.char) (λ n. goes_on n (b ∷ bytes)) (not_ascii b bytes f big) (len_utf8_bounds f.char).1 (on_by_char b bytes f))
    (λ h. elim (or_cases (goes_on 2 (b ∷ bytes) || goes_on 3 (b ∷ bytes)) (goes_on 4 (b ∷ bytes)) h) [
      | inl less ↦ elim (or_cases (goes_on 2 (b ∷ bytes)) (goes_on 3 (b ∷ bytes)) less) [
        | inl two ↦ went_on 2 (b ∷ bytes) two
        | inr three ↦ went_on 3 (b ∷ bytes) three
      ]
      | inr four ↦ went_on 4 (b ∷ bytes) four
    ])

-- ---- by place

at_place : (heap : List ℕ) (at : ℕ) → at < length heap → drop at heap ≡ get_or heap at 0 ∷ drop (at + 1) heap
at_place heap at lt = let next : suc at ≡ at + 1 = omega arith in drop-cons heap at 0 lt ∙ ap (λ k. get_or heap at 0 ∷ drop k heap) next

pub begins_at_zero : (heap : List ℕ) (at : ℕ) → at < length heap → get_or heap at 0 ≡ 0 → is_some (text_in (drop at heap)) ≡ true
begins_at_zero heap at lt zero_is =
    ap (λ l. is_some (text_in l)) (at_place heap at lt) ∙ after_zero (get_or heap at 0) (drop (at + 1) heap) zero_is

pub begins_at_ascii : (heap : List ℕ) (at : ℕ) → at < length heap → 0 < get_or heap at 0 → get_or heap at 0 < 128
    → is_some (text_in (drop at heap)) ≡ is_some (text_in (drop (at + 1) heap))
begins_at_ascii heap at lt some small =
    ap (λ l. is_some (text_in l)) (at_place heap at lt) ∙ after_ascii (get_or heap at 0) (drop (at + 1) heap) some small

pub begins_at_lead : (heap : List ℕ) (at : ℕ) → at < length heap → 127 < get_or heap at 0
    → is_some (text_in (drop at heap)) ≡ begins_by_lead (drop at heap)
begins_at_lead heap at lt big =
    let here = at_place heap at lt in
    ap (λ l. is_some (text_in l)) here ∙ after_lead (get_or heap at 0) (drop (at + 1) heap) big ∙ ap begins_by_lead (sym here)

pub none_past_end : (heap : List ℕ) (at : ℕ) → length heap ≤ at → is_some (text_in (drop at heap)) ≡ false
none_past_end heap at past = ap (λ l. is_some (text_in l)) (drop_all at heap past) ∙ no_text [] (omega arith)

-- ---- a text by the place of its zero

pub text_by_zero : (bytes : List ℕ) (n : ℕ) → position is_zero bytes ≡ Some n → text_in bytes ≡ text_of (take n bytes)
unfolding text_in
text_by_zero bytes n e = ap (option_and_then (λ n. text_of (take n bytes))) e

pub text_without_zero : (bytes : List ℕ) → position is_zero bytes ≡ None → text_in bytes ≡ None
unfolding text_in
text_without_zero bytes e = ap (option_and_then (λ n. text_of (take n bytes))) e
