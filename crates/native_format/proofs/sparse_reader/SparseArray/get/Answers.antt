use Rattle.std.proofs.Common.{length, sym, subst, arith}
use Rattle.native_format.specs.Sparse.{Answer, Array, IsWithin, weights}
use Rattle.native_format.proofs.SparseWithin.{path_within}
use Rattle.native_format.proofs.sparse_reader.SparseArray.get.Goals as goal

pub returns-clause-within : goal.returns-clause-within
returns-clause-within c =
    let P : Answer → Type 0 = λ s. IsWithin (length c.self.inside.bytes.now) s in
    let found = path_within c.self.inside.bytes.now _ weights _ (omega (arith, c.if-block-self.false)) in
    let whole : Array → Type 0 = λ a. IsWithin (length a.bytes) c.walk.result in
    subst whole c.self.view_is (subst P (sym c.walk.ensures) found)
