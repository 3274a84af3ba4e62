-- Blobs, by the place after their length.
use Rattle.std.proofs.Common.{◌≡◌, Bor, ℕ, ◌+◌, List, drop, Option, Some, None, refl, sym, ap, ◌∙◌}
use Rattle.std.specs.Prelude.{is_some, option_copied}
use Rattle.std.specs.Option.{option_and_then, option_map}
use Rattle.std.proofs.lemmas.List.{drop-drop}
use Rattle.std.proofs.lemmas.Option.{some_pair_parts}
use Rattle.rtr_bytes.specs.Compressed.{compressed_at, compressed_in}
use Rattle.metadata.specs.Heaps.{blob_in, counted, front_if}

same_some : {T : Type 0} (r : Option (Bor T)) → is_some r ≡ is_some (option_copied r)
same_some None = refl
same_some (Some x) = refl

pub some_copied : {T : Type 0} (r : Option (Bor T)) (o : Option T) → option_copied r ≡ o → is_some r ≡ is_some o
some_copied r o e = same_some r ∙ ap is_some e

abbrev found_at : ℕ → ℕ × ℕ → ℕ × ℕ
found_at at found = (found.0, at + found.1)

none_spelled : (bytes : List ℕ) (at : ℕ) (o : Option (ℕ × ℕ))
    → ◌≡◌ {A = Option (ℕ × ℕ)} None (option_map (found_at at) o) → option_and_then (counted bytes) o ≡ None
none_spelled bytes at None e = refl
none_spelled bytes at (Some found) e = absurd (let x : ⊥ = cc in x)

pub no_blob : (heap : List ℕ) (at : ℕ) → ◌≡◌ {A = Option (ℕ × ℕ)} None (compressed_at heap at) → blob_in (drop at heap) ≡ None
unfolding blob_in compressed_at
no_blob heap at e = none_spelled (drop at heap) at (compressed_in (drop at heap)) e

some_spelled : (heap : List ℕ) (at len next : ℕ) (o : Option (ℕ × ℕ))
    → ◌≡◌ {A = Option (ℕ × ℕ)} (Some (len, next)) (option_map (found_at at) o)
    → option_and_then (counted (drop at heap)) o ≡ front_if len (drop next heap)
some_spelled heap at len next None e = absurd (let x : ⊥ = cc in x)
some_spelled heap at len next (Some (n, size)) e =
    let parts = some_pair_parts {A = ℕ} {B = ℕ} len n next (at + size) e in
    let same_len = parts.0 in
    let same_next = parts.1 in
    ap (front_if n) (drop-drop size at heap) ∙ ap (λ k. front_if n (drop k heap)) (sym same_next)
    ∙ ap (λ k. front_if k (drop next heap)) (sym same_len)

pub the_blob : (heap : List ℕ) (at len next : ℕ) → ◌≡◌ {A = Option (ℕ × ℕ)} (Some (len, next)) (compressed_at heap at)
    → blob_in (drop at heap) ≡ front_if len (drop next heap)
unfolding blob_in compressed_at
the_blob heap at len next e = some_spelled heap at len next (compressed_in (drop at heap)) e
