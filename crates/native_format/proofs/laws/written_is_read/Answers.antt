use Rattle.std.proofs.Common.{List, ℕ, sym, subst}
use Rattle.native_format.specs.Nibbles.{BeginsWithList}
use Rattle.native_format.proofs.SlotLaws.{is_read, is_written}
use Rattle.native_format.proofs.SparseLengthLaws.{some_bytes}
use Rattle.native_format.proofs.SparseWritten.{holds}
use Rattle.native_format.proofs.TreeLaws.{uint_written}
use Rattle.native_format.proofs.laws.written_is_read.Goals as goal

pub returns : goal.returns
returns c = record {
  integers = λ value before rest h. uint_written before rest value h;
  lists = λ list bytes rest at ascending fit is. is_read bytes at list fit
      (subst (λ (t : List ℕ). BeginsWithList t list) (sym is) (is_written list rest ascending));
  arrays = holds;
  some = some_bytes;
}
