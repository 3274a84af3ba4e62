-- Places of methods among those before them: RVAs, and rows of StandAloneSig.
use Rattle.std.proofs.Common.{◌≡◌, ◌≤◌, ◌<◌, ◌+◌, ◌*◌, ◌^◌, ℕ, zero, suc, Bool, true, false, cond, List, [], ◌∷◌, ◌++◌}
use Rattle.std.proofs.Common.{length, map, take, drop, get_or, Some, refl, sym, ap, ◌∙◌, subst, arith}
use Rattle.std.specs.Prelude.{◌&&◌, nat_lt, slice_get}
use Rattle.std.specs.List.{list_all}
use Rattle.std.proofs.lemmas.Bool.{and_parts}
use Rattle.std.proofs.lemmas.List.{map-append, take_more}
use Rattle.std.proofs.lemmas.List.Elements.{filter-append}
use Rattle.std.proofs.lemmas.List.Sums.{sum_by-cons}
use Rattle.cli_assembly.specs.Shortest.{is_writable_type}
use Rattle.asm_builder.specs.declared.asked.Field.{Field}
use Rattle.asm_builder.specs.declared.asked.Method.{Method}
use Rattle.asm_builder.specs.Cells.{Cell, bodies_rva, body_size, has_locals, locals_cells, locals_of, method_cells, method_rows}
use Rattle.asm_builder.specs.Content.{Heaps, bodies_from, body_bytes, locals_after, locals_token}
use Rattle.asm_builder.specs.Content.{row_after, row_numbers, table_after, table_numbers}
use Rattle.asm_builder.specs.Room.{AreShort}
use Rattle.asm_builder.specs.Sound.{are_bytes, are_writable_locals, code_size, is_writable_field, is_writable_method, is_writable_sig}
use Rattle.asm_builder.proofs.BodiesBack.{locals_before, rva_before}
use Rattle.asm_builder.proofs.Growth.{goes_on_table, short_back, short_row}
use Rattle.asm_builder.proofs.Padding.{size_few}
use Rattle.asm_builder.proofs.Spelled.{Spelling, after_append, bodies_more, item_is, method_more, spelling_append, spelling_push}

-- ---- RVAs

rva_first : (at : ℕ) (ms : List Method) → rva_before at ms 0 ≡ at
rva_first at [] = refl
rva_first at (m ∷ ms) = refl

rva_next : (at : ℕ) (ms : List Method) (i : ℕ) (m : Method) → slice_get ms i ≡ Some m
    → rva_before at ms (suc i) ≡ rva_before at ms i + body_size m
rva_next at [] i m e = absurd (let h : ⊥ = cc in h)
rva_next at (x ∷ ms) zero m e = let same : x ≡ m = cc in rva_first (at + body_size x) ms ∙ ap (λ (y : Method). at + body_size y) same
rva_next at (x ∷ ms) (suc i) m e = rva_next (at + body_size x) ms i m e

pub rva_more : (at : ℕ) (ms : List Method) (i : ℕ) (m : Method) → slice_get ms i ≡ Some m
    → rva_before at ms (i + 1) ≡ rva_before at ms i + body_size m
rva_more at ms i m e = let next : i + 1 ≡ suc i = omega arith in ap (rva_before at ms) next ∙ rva_next at ms i m e

pub rva_few : (at : ℕ) (ms : List Method) (i : ℕ) → rva_before at ms i ≤ at + (15 * length ms + code_size ms)
rva_few at [] i = omega arith
rva_few at (m ∷ ms) zero = omega arith
rva_few at (m ∷ ms) (suc i) =
    let rest = rva_few (at + body_size m) ms i in
    let size = size_few m in
    let sum = sum_by-cons (λ (m : Method). length m.code) m ms in
    omega (arith, rest, size, sum)

-- ---- rows of StandAloneSig

locals_first : (n : ℕ) (ms : List Method) → locals_before n ms 0 ≡ n
locals_first n [] = refl
locals_first n (m ∷ ms) = refl

locals_next : (n : ℕ) (ms : List Method) (i : ℕ) (m : Method) → slice_get ms i ≡ Some m
    → locals_before n ms (suc i) ≡ locals_after (locals_before n ms i) m
locals_next n [] i m e = absurd (let h : ⊥ = cc in h)
locals_next n (x ∷ ms) zero m e = let same : x ≡ m = cc in locals_first (locals_after n x) ms ∙ ap (locals_after n) same
locals_next n (x ∷ ms) (suc i) m e = locals_next (locals_after n x) ms i m e

pub locals_more : (n : ℕ) (ms : List Method) (i : ℕ) (m : Method) → slice_get ms i ≡ Some m
    → locals_before n ms (i + 1) ≡ locals_after (locals_before n ms i) m
locals_more n ms i m e = let next : i + 1 ≡ suc i = omega arith in ap (locals_before n ms) next ∙ locals_next n ms i m e

after_few : (n : ℕ) (b : Bool) → cond b (n + 1) n ≤ n + 1
after_few n true = omega arith
after_few n false = omega arith

pub locals_few : (n : ℕ) (ms : List Method) (i : ℕ) → locals_before n ms i ≤ n + i
locals_few n [] i = omega arith
locals_few n (m ∷ ms) zero = omega arith
locals_few n (m ∷ ms) (suc i) =
    let rest = locals_few (locals_after n m) ms i in
    let one = after_few n (has_locals m) in
    omega (arith, rest, one)

-- ---- one method of all

pub code_part : (ms : List Method) (i : ℕ) (m : Method) → slice_get ms i ≡ Some m → length m.code ≤ code_size ms
code_part [] i m e = absurd (let h : ⊥ = cc in h)
code_part (x ∷ ms) zero m e =
    let same : x ≡ m = cc in
    let sum = sum_by-cons (λ (m : Method). length m.code) x ms in
    let lengths = ap (λ (y : Method). length y.code) same in
    omega (arith, sum, lengths)
code_part (x ∷ ms) (suc i) m e =
    let sum = sum_by-cons (λ (m : Method). length m.code) x ms in
    let rest = code_part ms i m e in
    omega (arith, sum, rest)

-- what holds of each item holds of one
pub all_item : {X : Type 0} (p : X → Bool) (xs : List X) (i : ℕ) (x : X) → slice_get xs i ≡ Some x → list_all p xs ≡ true → p x ≡ true
all_item p [] i x e all = absurd (let h : ⊥ = cc in h)
all_item p (y ∷ xs) zero x e all = let same : y ≡ x = cc in ap p (sym same) ∙ (and_parts (p y) (list_all p xs) all).0
all_item p (y ∷ xs) (suc i) x e all = all_item p xs i x e (and_parts (p y) (list_all p xs) all).1

-- the parts of a method that can be written
pub writable_sig : (m : Method) → is_writable_method m ≡ true → is_writable_sig m.sig ≡ true
writable_sig m e =
    let rest =
    and_parts (nat_lt m.flags (2 ^ 16))
    (is_writable_sig m.sig && (nat_lt m.max_stack (2 ^ 16) && (are_writable_locals m.locals && are_bytes m.code))) e in
    (and_parts (is_writable_sig m.sig) (nat_lt m.max_stack (2 ^ 16) && (are_writable_locals m.locals && are_bytes m.code)) rest.1).0

pub writable_locals : (m : Method) → is_writable_method m ≡ true → are_writable_locals m.locals ≡ true
writable_locals m e =
    let rest =
    and_parts (nat_lt m.flags (2 ^ 16))
    (is_writable_sig m.sig && (nat_lt m.max_stack (2 ^ 16) && (are_writable_locals m.locals && are_bytes m.code))) e in
    let later =
    and_parts (is_writable_sig m.sig) (nat_lt m.max_stack (2 ^ 16) && (are_writable_locals m.locals && are_bytes m.code)) rest.1 in
    let last = and_parts (nat_lt m.max_stack (2 ^ 16)) (are_writable_locals m.locals && are_bytes m.code) later.1 in
    (and_parts (are_writable_locals m.locals) (are_bytes m.code) last.1).0

pub writable_field_sig : (f : Field) → is_writable_field f ≡ true → is_writable_type f.sig ≡ true
writable_field_sig f e = (and_parts (nat_lt f.flags (2 ^ 16)) (is_writable_type f.sig) e).1

-- ---- the loop over bodies

abbrev pub AreBodies : List Method → ℕ → List ℕ → ℕ → Type 0
AreBodies ms i out before = (out ≡ bodies_from 0 (take i ms)) × (before ≡ locals_before 0 ms i)

pub bodies_none : (ms : List Method) → AreBodies ms 0 [] 0
unfolding bodies_from
bodies_none ms = (refl, sym (locals_first 0 ms))

pub bodies_step : (ms : List Method) (i : ℕ) (m : Method) (out next : List ℕ) (before later token : ℕ) → i < length ms → m ≡ get_or ms i m
    → AreBodies ms i out before → token ≡ locals_token before m → next ≡ out ++ body_bytes token m → later ≡ locals_after before m
    → AreBodies ms (i + 1) next later
bodies_step ms i m out next before later token lt is (out_is, before_is) token_is next_is later_is =
    let at = item_is ms i m lt is in (
      next_is
          ∙ ap (λ (l : List ℕ). l ++ body_bytes token m) out_is
          ∙ ap (λ t. bodies_from 0 (take i ms) ++ body_bytes t m) (token_is ∙ ap (λ n. locals_token n m) before_is)
          ∙ sym (bodies_more 0 ms i m at),
      later_is ∙ ap (λ n. locals_after n m) before_is ∙ sym (locals_more 0 ms i m at),
    )

-- ---- the loop over rows of methods

take_method_rows : (at : ℕ) (ms : List Method) (i : ℕ) → take i (method_rows at ms) ≡ method_rows at (take i ms)
take_method_rows at [] zero = refl
take_method_rows at [] (suc i) = refl
take_method_rows at (m ∷ ms) zero = refl
take_method_rows at (m ∷ ms) (suc i) = ap (λ (l : List (List Cell)). method_cells at m ∷ l) (take_method_rows (at + body_size m) ms i)

pub method_row_at : (at : ℕ) (ms : List Method) (i : ℕ) (m : Method) → slice_get ms i ≡ Some m
    → slice_get (method_rows at ms) i ≡ Some (method_cells (rva_before at ms i) m)
method_row_at at [] i m e = absurd (let h : ⊥ = cc in h)
method_row_at at (x ∷ ms) zero m e = let same : x ≡ m = cc in ap (λ (y : Method). Some (method_cells at y)) same
method_row_at at (x ∷ ms) (suc i) m e = method_row_at (at + body_size x) ms i m e

-- so many rows of methods were spelled
pub record MethodsSpelled (heaps : Heaps) (ms : List Method) (i : ℕ) (rows : List (List ℕ)) (now : Heaps) (rva : ℕ) : Type 0 where
  pub spelled : Spelling heaps (method_rows bodies_rva (take i ms)) rows now
  pub rva_is : rva ≡ rva_before bodies_rva ms i

pub methods_start : (heaps : Heaps) (ms : List Method) (rows : List (List ℕ)) → rows ≡ [] → MethodsSpelled heaps ms 0 rows heaps bodies_rva
methods_start heaps ms rows none = record { spelled = record { rows_are = none; heaps_are = refl }; rva_is = sym (rva_first bodies_rva ms) }

pub methods_short : (heaps : Heaps) (ms : List Method) (i : ℕ) (m : Method) (rows : List (List ℕ)) (now : Heaps)
    (rva : ℕ) → i < length ms → m ≡ get_or ms i m
    → MethodsSpelled heaps ms i rows now rva → AreShort (table_after heaps (method_rows bodies_rva ms))
    → AreShort (row_after now (method_cells rva m))
methods_short heaps ms i m rows now rva lt is s short =
    let at = method_row_at bodies_rva ms i m (item_is ms i m lt is) in
    let all = short_row heaps (method_rows bodies_rva ms) i (method_cells (rva_before bodies_rva ms i) m) at short in
    let so_far =
    subst (λ (c : List (List Cell)). AreShort
    (row_after (table_after heaps c) (method_cells (rva_before bodies_rva ms i) m))) (take_method_rows bodies_rva ms i) all in
    let here =
    subst (λ (h : Heaps). AreShort (row_after h (method_cells (rva_before bodies_rva ms i) m))) (sym s.spelled.heaps_are) so_far in
    subst (λ r. AreShort (row_after now (method_cells r m))) (sym s.rva_is) here

pub methods_step : (heaps : Heaps) (ms : List Method) (i : ℕ) (m : Method) (rows more : List (List ℕ))
    (now next : Heaps) (rva later : ℕ) (numbers : List ℕ)
    → i < length ms → m ≡ get_or ms i m → MethodsSpelled heaps ms i rows now rva → numbers ≡ row_numbers now (method_cells rva m)
    → next ≡ row_after now (method_cells rva m) → more ≡ rows ++ numbers ∷ [] → later ≡ rva + body_size m
    → MethodsSpelled heaps ms (i + 1) more next later
methods_step heaps ms i m rows more now next rva later numbers lt is s numbers_are next_is more_are later_is =
    let at = item_is ms i m lt is in
    let cells = method_cells (rva_before bodies_rva ms i) m in
    let pushed = spelling_push heaps (method_rows bodies_rva (take i ms)) rows more now next cells numbers s.spelled
    (numbers_are ∙ ap (λ r. row_numbers now (method_cells r m)) s.rva_is)
    (next_is ∙ ap (λ r. row_after now (method_cells r m)) s.rva_is) more_are in
    record {
      spelled = subst (λ (c : List (List Cell)). Spelling heaps c more next) (sym (method_more bodies_rva ms i m at)) pushed;
      rva_is = later_is ∙ ap (λ r. r + body_size m) s.rva_is ∙ sym (rva_more bodies_rva ms i m at);
    }

pub rva_small : (heaps : Heaps) (ms : List Method) (i : ℕ) (m : Method) (rows : List (List ℕ)) (now : Heaps) (rva : ℕ)
    → i < length ms → m ≡ get_or ms i m
    → MethodsSpelled heaps ms i rows now rva → length ms < 2 ^ 24 → code_size ms < 2 ^ 24 → rva + body_size m < 2 ^ 32
rva_small heaps ms i m rows now rva lt is s few codes =
    let next = rva_more bodies_rva ms i m (item_is ms i m lt is) in
    let bound = rva_few bodies_rva ms (i + 1) in
    let here = s.rva_is in
    omega (arith, next, bound, here)

-- ---- the loop over methods with locals

-- the row of a method's own locals, where it has some
abbrev pub own_locals : Method → List (List Cell)
own_locals m = map locals_cells (locals_of (m ∷ []))

split_at : (ms : List Method) (i : ℕ) (m : Method) → slice_get ms i ≡ Some m → ms ≡ take i ms ++ ((m ∷ []) ++ drop (suc i) ms)
split_at [] i m e = absurd (let h : ⊥ = cc in h)
split_at (x ∷ ms) zero m e = let same : x ≡ m = cc in ap (λ (y : Method). y ∷ ms) same
split_at (x ∷ ms) (suc i) m e = ap (λ (l : List Method). x ∷ l) (split_at ms i m e)

rows_of_two : (xs ys : List Method)
    → map locals_cells (locals_of (xs ++ ys)) ≡ map locals_cells (locals_of xs) ++ map locals_cells (locals_of ys)
rows_of_two xs ys = ap (map locals_cells) (filter-append has_locals xs ys) ∙ map-append locals_cells (locals_of xs) (locals_of ys)

pub locals_short : (heaps : Heaps) (ms : List Method) (i : ℕ) (m : Method) (rows : List (List ℕ)) (now : Heaps)
    → i < length ms → m ≡ get_or ms i m
    → Spelling heaps (map locals_cells (locals_of (take i ms))) rows now → AreShort (table_after heaps (map locals_cells (locals_of ms)))
    → AreShort (table_after now (own_locals m))
locals_short heaps ms i m rows now lt is s short =
    let before = map locals_cells (locals_of (take i ms)) in
    let later = map locals_cells (locals_of (drop (suc i) ms)) in
    let whole : map locals_cells (locals_of ms) ≡ before ++ (own_locals m ++ later) =
    ap (λ (l : List Method). map locals_cells (locals_of l)) (split_at ms i m (item_is ms i m lt is))
    ∙ rows_of_two (take i ms) ((m ∷ []) ++ drop (suc i) ms)
    ∙ ap (λ (l : List (List Cell)). before ++ l) (rows_of_two (m ∷ []) (drop (suc i) ms)) in
    let after : table_after heaps (map locals_cells (locals_of ms))
    ≡ table_after (table_after (table_after heaps before) (own_locals m)) later =
    ap (table_after heaps) whole
    ∙ after_append row_after row_numbers heaps before (own_locals m ++ later)
    ∙ after_append row_after row_numbers (table_after heaps before) (own_locals m) later in
    let here = table_after (table_after heaps before) (own_locals m) in
    let all = subst AreShort after short in
    let so_far = short_back here (table_after here later) (goes_on_table here later) all in
    subst (λ (h : Heaps). AreShort (table_after h (own_locals m))) (sym s.heaps_are) so_far

pub locals_step : (heaps : Heaps) (ms : List Method) (i : ℕ) (m : Method) (rows more : List (List ℕ)) (now next : Heaps)
    → i < length ms → m ≡ get_or ms i m
    → Spelling heaps (map locals_cells (locals_of (take i ms))) rows now
    → more ≡ rows ++ table_numbers now (own_locals m) → next ≡ table_after now (own_locals m)
    → Spelling heaps (map locals_cells (locals_of (take (i + 1) ms))) more next
locals_step heaps ms i m rows more now next lt is s more_are next_is =
    let one : take (i + 1) ms ≡ take i ms ++ m ∷ [] = take_more ms i m lt ∙ ap (λ (y : Method). take i ms ++ y ∷ []) (sym is) in
    let cells = ap (λ (l : List Method). map locals_cells (locals_of l)) one ∙ rows_of_two (take i ms) (m ∷ []) in
    subst (λ (c : List (List Cell)). Spelling heaps c more next) (sym cells)
    (spelling_append heaps (map locals_cells (locals_of (take i ms))) (own_locals m) rows more now next s more_are next_is)
