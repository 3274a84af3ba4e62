-- Pieces of a text that come to a sink one after the other.
use Rattle.std.proofs.Common.{◌≡◌, ℕ, ◌+◌, List, ◌++◌, take, drop, Option, Some, None, refl, sym, ap, ◌∙◌, append_assoc}
use Rattle.std.proofs.Math.Seq.{take-add}
use Rattle.std.specs.Option.{option_map}
use Rattle.rtr_outside.specs.Sink.{Appends}

after : (piece more all : List ℕ) (old : Option (List ℕ)) → piece ++ more ≡ all
    → option_map (λ bytes. bytes ++ more) (option_map (λ bytes. bytes ++ piece) old) ≡ option_map (λ bytes. bytes ++ all) old
after piece more all None e = refl
after piece more all (Some bytes) e = ap Some (append_assoc bytes piece more ∙ ap (λ (ys : List ℕ). bytes ++ ys) e)

pub appends_more : (text : List ℕ) (n k : ℕ) (old mid new : Option (List ℕ)) → Appends (take n text) old mid
    → Appends (take k (drop n text)) mid new → Appends (take (n + k) text) old new
appends_more text n k old mid new first then =
    then ∙ ap (option_map (λ bytes. bytes ++ take k (drop n text))) first
    ∙ after (take n text) (take k (drop n text)) (take (n + k) text) old (sym (take-add n k text))
