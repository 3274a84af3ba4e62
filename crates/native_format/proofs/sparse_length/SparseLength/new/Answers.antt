use Rattle.std.proofs.Common.{refl}
use Rattle.native_format.proofs.MeasureLaws.{measure_none}
use Rattle.native_format.proofs.SparseLengthLaws.{no_slots, none_at_all}
use Rattle.native_format.proofs.sparse_length.SparseLength.new.Goals as goal

pub returns-clause-measures : goal.returns-clause-measures
returns-clause-measures c =
    measure_none (record { count = c.args.count; next = 0; block = 0; before = 0; slots = no_slots }) c.args.count refl refl refl refl refl
    none_at_all
