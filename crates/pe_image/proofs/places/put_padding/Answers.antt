use Rattle.std.proofs.Common.{◌≡◌, ◌-◌, ◌≤◌, ◌++◌, ◌∙◌, ℕ, List, take, arith, ap}
use Rattle.std.specs.Prelude.{replicate}
use Rattle.std.proofs.lemmas.List.{take-replicate}
use Rattle.pe_image.proofs.places.put_padding.Goals as goal

pub returns : goal.returns
returns c =
    let old = c.args.out.now.items in
    let more : ℕ = c.aligned.result - c.args.len in
    let few : more ≤ 512 = omega arith in
    let put : c.extend_from_slice.new.self.items ≡ old ++ take more (replicate 512 0) = c.in_ok-extend_from_slice.ensures.items in
    put ∙ ap (λ (t : List ℕ). old ++ t) (take-replicate more 512 0 few)
    ∙ ap (λ (t : ℕ). old ++ replicate (t - c.args.len) 0) c.aligned.ensures.value
