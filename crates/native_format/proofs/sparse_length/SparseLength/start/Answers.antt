use Rattle.std.proofs.Common.{ap, refl, arith, ◌/◌}
use Rattle.native_format.specs.SparseLengths.{Measure}
use Rattle.native_format.proofs.MeasureLaws.{measure_later}
use Rattle.native_format.proofs.SparseLengthLaws.{no_slots, none_at_all}
use Rattle.native_format.proofs.sparse_length.SparseLength.start.Goals as goal

pub returns-clause-measures : goal.returns-clause-measures
returns-clause-measures c count lengths h =
    let block = ap (λ (m : Measure). m.block) c.self.view_is in
    let next = ap (λ (m : Measure). m.next) c.self.view_is in
    let new : Measure =
    record {
      count = c.self.inside.count;
      next = c.args.index;
      block = c.args.index / 16;
      before = c.before_block-self-inside.result;
      slots = no_slots;
    } in
    measure_later c.args.self.now new count lengths c.args.index h c.requires.order (ap (λ (m : Measure). m.count) c.self.view_is) refl
    (omega arith)
    (omega (arith, c.self.invariant, block, next, c.requires.later)) (c.before_block-self-inside.ensures count lengths h) refl none_at_all
