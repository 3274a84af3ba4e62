use Rattle.std.proofs.Common.{ap, refl, set, Some, ◌%◌}
use Rattle.native_format.specs.SparseLengths.{Measure}
use Rattle.native_format.proofs.MeasureLaws.{measure_put}
use Rattle.native_format.proofs.sparse_length.SparseLength.put.Goals as goal

pub returns-clause-measures : goal.returns-clause-measures
returns-clause-measures c count lengths content len_is h =
    measure_put c.args.self.now _ count lengths c.args.index c.args.len content h c.requires.order c.requires.here len_is
    (ap (λ (m : Measure). m.count) c.self.view_is) refl (ap (λ (m : Measure). m.block) c.self.view_is)
    (ap (λ (m : Measure). m.before) c.self.view_is)
    (ap (λ (m : Measure). set m.slots (c.args.index % 16) (Some c.args.len)) c.self.view_is)
