-- A text that is written in pieces.
use Rattle.std.proofs.Common.{◌≡◌, ℕ, zero, suc, ◌+◌, ◌<◌, ◌≤◌, List, [], ◌∷◌, ◌++◌, length, take, drop, get_or, Option, Some, None}
use Rattle.std.proofs.Common.{Result, Ok, Err, refl, sym, ap, subst, ◌∙◌, arith, append_assoc, append-nil, take-append-drop, take_all}
use Rattle.std.proofs.lemmas.List.{take_more}
use Rattle.std.proofs.lemmas.List.Concat.{flat_map-append}
use Rattle.std.specs.List.{flat_map}
use Rattle.std.specs.Option.{option_map}
use Rattle.rtr_outside.specs.Sink.{Appends}
use Rattle.rtr_outside.specs.declared.sink.SinkFailed.{SinkFailed}
use Rattle.r2r_commands.specs.Outside.{CutsShort}
use Rattle.r2r_commands.specs.Printing.{IsWritten}

-- ---- bytes

appended : (a b : List ℕ) (old mid new : Option (List ℕ)) → Appends a old mid → Appends b mid new → Appends (a ++ b) old new
appended a b None mid new h k = rw (k, h) refl
appended a b (Some bytes) mid new h k = k ∙ ap (option_map (λ x. x ++ b)) h ∙ ap Some (append_assoc bytes a b)

nothing : (old : Option (List ℕ)) → Appends [] old old
nothing None = refl
nothing (Some bytes) = ap Some (sym (append-nil bytes))

-- a prefix of a piece is one of the text that it begins
front : (k : ℕ) (a b : List ℕ) → (j : ℕ) × (take j (a ++ b) ≡ take k a)
front zero a b = (0, refl)
front (suc k) [] b = (0, refl)
front (suc k) (x ∷ a) b =
    let r = front k a b in
    (suc r.0, ap (λ (rest : List ℕ). x ∷ rest) r.1)

-- a piece and a prefix of the next one
later : (k : ℕ) (a b : List ℕ) → (j : ℕ) × (take j (a ++ b) ≡ a ++ take k b)
later k [] b = (k, refl)
later k (x ∷ a) b =
    let r = later k a b in
    (suc r.0, ap (λ (rest : List ℕ). x ∷ rest) r.1)

module _ {S : Type 0} (written : S → Option (List ℕ)) (faults : S → ℕ) where
  -- a text whose front is cut short is cut short
  pub cut : (a b : List ℕ) (old new : S) → CutsShort written faults a old new → CutsShort written faults (a ++ b) old new
  cut a b old new (rose, (k, came)) =
      let r = front k a b in
      (rose, (r.0, subst (λ (text : List ℕ). Appends text (written old) (written new)) (sym r.1) came))

  cut_later : (a b : List ℕ) (old mid new : S) → Appends a (written old) (written mid) → faults old ≤ faults mid
      → CutsShort written faults b mid new → CutsShort written faults (a ++ b) old new
  cut_later a b old mid new whole more (rose, (k, came)) =
      let r = later k a b in
      let all = appended a (take k b) (written old) (written mid) (written new) whole came in
      (omega (arith, rose, more), (r.0, subst (λ (text : List ℕ). Appends text (written old) (written new)) (sym r.1) all))

  -- two pieces
  pub joined : (a b : List ℕ) (old mid new : S) (result : Result (Unit {0}) SinkFailed) → Appends a (written old) (written mid)
      → faults old ≤ faults mid → IsWritten written faults b mid new result → IsWritten written faults (a ++ b) old new result
  joined a b old mid new (Ok done) whole more came = appended a b (written old) (written mid) (written new) whole came
  joined a b old mid new (Err failed) whole more came = cut_later a b old mid new whole more came

  -- no piece
  pub untouched : (old : S) → Appends [] (written old) (written old)
  untouched old = nothing (written old)

  -- ---- the texts of some things, one after another
  module _ {X : Type 0} (text_of : X → List ℕ) (xs : List X) (i : ℕ) (d : X) (here : i < length xs) where
    whole_is : flat_map text_of (take (i + 1) xs) ≡ flat_map text_of (take i xs) ++ text_of (get_or xs i d)
    whole_is =
        ap (flat_map text_of) (take_more xs i d here) ∙ flat_map-append text_of (take i xs) (get_or xs i d ∷ [])
        ∙ ap (λ (last : List ℕ). flat_map text_of (take i xs) ++ last) (append-nil (text_of (get_or xs i d)))

    split : flat_map text_of xs ≡ flat_map text_of (take (i + 1) xs) ++ flat_map text_of (drop (i + 1) xs)
    split = ap (flat_map text_of) (sym (take-append-drop (i + 1) xs)) ∙ flat_map-append text_of (take (i + 1) xs) (drop (i + 1) xs)

    -- one more of them was written
    pub one_more : (old mid new : S) → Appends (flat_map text_of (take i xs)) (written old) (written mid)
        → Appends (text_of (get_or xs i d)) (written mid) (written new)
        → Appends (flat_map text_of (take (i + 1) xs)) (written old) (written new)
    one_more old mid new before came =
        subst (λ (text : List ℕ). Appends text (written old) (written new)) (sym whole_is)
        (appended (flat_map text_of (take i xs)) (text_of (get_or xs i d)) (written old) (written mid) (written new) before came)

    -- one of them was cut short
    pub stops : (old mid new : S) → Appends (flat_map text_of (take i xs)) (written old) (written mid) → faults old ≤ faults mid
        → CutsShort written faults (text_of (get_or xs i d)) mid new → CutsShort written faults (flat_map text_of xs) old new
    stops old mid new before more came =
        let here_cut = cut_later (flat_map text_of (take i xs)) (text_of (get_or xs i d)) old mid new before more came in
        let part = subst (λ (text : List ℕ). CutsShort written faults text old new) (sym whole_is) here_cut in
        subst (λ (text : List ℕ). CutsShort written faults text old new) (sym split)
        (cut (flat_map text_of (take (i + 1) xs)) (flat_map text_of (drop (i + 1) xs)) old new part)

  -- all of them were written
  pub all_came : {X : Type 0} (text_of : X → List ℕ) (xs : List X) (i : ℕ) (old new : S) → length xs ≤ i
      → Appends (flat_map text_of (take i xs)) (written old) (written new) → Appends (flat_map text_of xs) (written old) (written new)
  all_came text_of xs i old new end came =
      subst (λ (all : _). Appends (flat_map text_of all) (written old) (written new)) (take_all i xs end) came
