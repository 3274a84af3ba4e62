use Rattle.std.proofs.Common.{sym, ◌∙◌, arith}
use Rattle.std.specs.Prelude.{false}
use Rattle.std.proofs.lemmas.Grind.{common_steps}
use Rattle.std.proofs.lemmas.List.{get_or_past}
use Rattle.metadata.proofs.Text.{none_past_end}
use Rattle.metadata.proofs.texts.Texts.of.Goals as goal

pub places-init : goal.places-init
places-init c = record {
  same = grind (arith, common_steps);
  inside = omega arith;
  later = λ k past. get_or_past c.in_ok-marks.marks.items k false (grind (arith, common_steps))
      ∙ sym (none_past_end c.args.heap.now k past);
}
