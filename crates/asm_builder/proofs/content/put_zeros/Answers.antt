use Rattle.std.proofs.Common.{◌++◌, ◌∙◌, List, ℕ, ap, arith}
use Rattle.std.proofs.lemmas.List.{take-replicate}
use Rattle.asm_builder.proofs.content.put_zeros.Goals as goal

pub returns : goal.returns
returns c =
    c.in_ok-extend_from_slice.ensures.items
    ∙ ap (λ (t : List ℕ). c.args.out.now.items ++ t) (take-replicate c.args.len 512 0 (omega (arith, c.requires)))
