use Rattle.std.proofs.Common.{List, ℕ, subst}
use Rattle.cli_assembly.specs.Kept.{IsReadFrom}
use Rattle.cli_assembly.proofs.assembly.Assembly.read.Goals as goal

pub invariant_of-result : goal.invariant_of-result
invariant_of-result c =
    subst (λ (b : List ℕ). IsReadFrom b c.in_ok-parts.parts) c.deref.ensures.value c.in_ok-parts.ensures.parts
