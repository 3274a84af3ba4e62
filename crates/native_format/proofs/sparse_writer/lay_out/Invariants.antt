use Rattle.std.proofs.Common.{◌≡◌, ◌*◌, ◌^◌}
use Rattle.native_format.specs.SparseBytes.{AreElements, blocks, index_bytes, joined}
use Rattle.native_format.specs.SparseSteps.{SameFrom}
use Rattle.native_format.proofs.sparse_writer.lay_out.Given as goal

-- the blocks so far with their entries, and that the rest has what is after them
abbrev pub invariant-loop-k : goal.invariant-loop-k
invariant-loop-k l = record {
  rest : AreElements (16 * l.k) (2 ^ 32) l.rest;
  others : SameFrom (16 * l.k) l.elements l.rest;
  index : l.index.items ≡ index_bytes (4 * l.count) (blocks l.elements l.k);
  body : l.body.items ≡ joined (blocks l.elements l.k);
}
