use Rattle.std.proofs.Common.{◌≡◌, ◌++◌, ◌+◌, ◌*◌, ◌^◌, ap, sym, subst, ◌∙◌, arith}
use Rattle.native_format.specs.Uint.{short_uint}
use Rattle.native_format.specs.Sparse.{blocks_of}
use Rattle.native_format.specs.SparseBytes.{HoldsElements}
use Rattle.native_format.proofs.SparseWritten.{parts_small, wider, whole_is, holds}
use Rattle.native_format.proofs.sparse_writer.write_sparse.Goals as goal

pub lay_out-requires-clause-elements : goal.lay_out-requires-clause-elements
lay_out-requires-clause-elements c = wider c.args.elements.now 0 c.args.count (2 ^ 32) (omega arith) c.requires.elements

pub lay_out-requires-clause-few : goal.lay_out-requires-clause-few
lay_out-requires-clause-few c = let parts = parts_small c.args.count c.args.elements.now c.requires.small in omega (arith, parts.few)

pub lay_out-requires-clause-small : goal.lay_out-requires-clause-small
lay_out-requires-clause-small c =
    let parts = parts_small c.args.count c.args.elements.now c.requires.small in
    let n : c.div_ceil.result ≡ blocks_of c.args.count = omega arith in
    rw n parts.small

pub overflow_mul-count : goal.overflow_mul-count
overflow_mul-count c = let parts = parts_small c.args.count c.args.elements.now c.requires.small in omega (arith, parts.few)

pub overflow_add-count : goal.overflow_add-count
overflow_add-count c = let parts = parts_small c.args.count c.args.elements.now c.requires.small in omega (arith, parts.few)

pub returns-clause-exact : goal.returns-clause-exact
returns-clause-exact c =
    let n : c.div_ceil.result ≡ blocks_of c.args.count = omega arith in
    whole_is c.args.count c.div_ceil.result c.args.elements.now c.write_uint.new.out.items c.extend_from_slice.new.self.items
    c.extend_from_slice-2.new.self.items c.in_ok-index.index.items c.in_ok-index.body.items n
    (c.in_ok-write_uint.ensures.ok ∙ ap (λ bytes. bytes ++ short_uint (4 * c.args.count + 2)) c.new-out.ensures.items)
    (c.in_ok-extend_from_slice.ensures.items ∙ ap (λ bytes. c.write_uint.new.out.items ++ bytes) c.deref.ensures.value)
    (c.in_ok-extend_from_slice-2.ensures.items ∙ ap (λ bytes. c.extend_from_slice.new.self.items ++ bytes) c.deref-2.ensures.value)
    c.in_ok-index.ensures.index c.in_ok-index.ensures.blocks

pub returns-clause-holds : goal.returns-clause-holds
returns-clause-holds c = λ rest.
    subst (λ bytes. HoldsElements (bytes ++ rest) c.args.count c.args.elements.now) (sym (returns-clause-exact c))
    (holds c.args.count c.args.elements.now rest c.requires.elements c.requires.small)
