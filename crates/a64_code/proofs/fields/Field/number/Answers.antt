use Rattle.std.proofs.Common.{◌-◌, ◌/◌, ◌^◌, ap, ◌∙◌, bit_and}
use Rattle.std.proofs.lemmas.Nat.{and_mask, one_shl}
use Rattle.a64_code.proofs.fields.Field.number.Goals as goal

pub returns : goal.returns
returns c =
    let high = c.args.word / 2 ^ c.args.self.place in
    ap (λ m. bit_and high (m - 1)) (one_shl c.args.self.width 32 c.requires.part) ∙ and_mask high c.args.self.width
