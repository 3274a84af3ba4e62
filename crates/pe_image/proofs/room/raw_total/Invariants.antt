use Rattle.std.proofs.Common.{◌≡◌, ◌+◌, ◌*◌, ◌^◌, ◌≤◌, drop}
use Rattle.std.specs.Prelude.{sum_by}
use Rattle.pe_image.proofs.room.raw_total.Given as goal

abbrev pub invariant-loop-section : goal.invariant-loop-section
invariant-loop-section l = record {
  -- the sum so far and that of what is left are the sum of all
  both : l.total + sum_by (λ s. s.raw_size) (drop l.section-index l.sections) ≡ sum_by (λ s. s.raw_size) l.sections;
  small : l.total ≤ l.section-index * 2 ^ 32;
}
