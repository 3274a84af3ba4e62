use Rattle.std.proofs.Common.{ℕ, ℤ, List, [], ◌∷◌, ◌++◌, Bor, Option, ap, option_copied, sym, ◌∙◌}
use Rattle.r2r_commands.specs.RunWords.{number_of}
use Rattle.r2r_commands.specs.Values.{rest_parts}
use Rattle.std.specs.Int.{w128}
use Rattle.std.proofs.lemmas.Int.{to_z-of_z}
use Rattle.r2r_commands.proofs.Spelled.{number_fits}
use Rattle.r2r_commands.proofs.EachOf.{grown, valid_rest}
use Rattle.r2r_commands.proofs.values.numbers.Goals as goal

pub loop-rest-preserved-in_ok-push : goal.loop-rest-preserved-in_ok-push
loop-rest-preserved-in_ok-push c =
    let left = ap (λ (rest : Option (Bor (List ℕ))). rest_parts (option_copied rest)) c.in-Some.is ∙ c.split_part.ensures.parts in
    let others = rest_parts (option_copied c.split_part.result.1) in
    let part = c.split_part.result.0.now in
    let read = sym c.in-Some-number.ensures in
    let kept = to_z-of_z w128 c.in-Some-number.number (number_fits part c.in-Some-number.number read) in
    let pushed = c.in_ok-push.ensures.items ∙ ap (λ (number : ℤ). c.loop-rest.numbers.items ++ number ∷ []) kept in
    record {
      valid = valid_rest number_of _ others part left c.loop-rest.invariant.valid;
      all = grown number_of c.loop-rest.numbers.items c.push.new.self.items _ _ others part c.in-Some-number.number
          c.loop-rest.invariant.all left read pushed;
    }
