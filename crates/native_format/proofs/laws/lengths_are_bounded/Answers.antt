use Rattle.native_format.proofs.ArrayBounds.{array_bounded, short_five}
use Rattle.native_format.proofs.ListBounds.{list_bounded}
use Rattle.native_format.proofs.laws.lengths_are_bounded.Goals as goal

pub returns : goal.returns
returns c = record { integers = short_five; lists = list_bounded; arrays = array_bounded }
