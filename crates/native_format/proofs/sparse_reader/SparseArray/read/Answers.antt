use Rattle.std.proofs.Common.{◌≡◌, ◌/◌, arith}
use Rattle.native_format.specs.Sparse.{blocks_of}
use Rattle.native_format.proofs.UintLaws.{uint_small}
use Rattle.native_format.proofs.SparseLaws.{no_header, wrong_size, cut_index, whole_index, size_small, index_fits}
use Rattle.native_format.proofs.sparse_reader.SparseArray.read.Goals as goal

pub returns-in_default-clause-none : goal.returns-in_default-clause-none
returns-in_default-clause-none c = no_header c.args.bytes.now c.args.at c.in_default.ensures.exact

pub returns-in_default-entry_size_of-clause-none : goal.returns-in_default-entry_size_of-clause-none
returns-in_default-entry_size_of-clause-none c =
    wrong_size c.args.bytes.now c.args.at c.in-Some.header c.in-Some.index_at c.in-Some.ensures.exact c.in_default-entry_size_of.ensures

pub overflow_mul-entry_size : goal.overflow_mul-entry_size
overflow_mul-entry_size c =
    let blocks : c.div_ceil-blocks.result ≡ blocks_of (c.in-Some.header / 4) = omega (arith, c.div_ceil-blocks.ensures) in
    let fits =
    index_fits c.in-Some.header c.in-Some-entry_size_of.entry_size
    (uint_small c.args.bytes.now c.args.at c.in-Some.header c.in-Some.index_at
    (λ i. omega (arith, c.type_inv.bytes i)) c.in-Some.ensures.exact)
    (size_small c.in-Some.header c.in-Some-entry_size_of.entry_size c.in-Some-entry_size_of.ensures).1 in
    rw blocks (omega (arith, fits))

pub returns-then-index_at-entry_size-clause-none : goal.returns-then-index_at-entry_size-clause-none
returns-then-index_at-entry_size-clause-none c =
    let blocks : c.div_ceil-blocks.result ≡ blocks_of (c.in-Some.header / 4) = omega (arith, c.div_ceil-blocks.ensures) in
    cut_index c.args.bytes.now c.args.at c.in-Some.header c.in-Some.index_at c.in-Some-entry_size_of.entry_size
    c.in-Some.ensures.exact c.in-Some-entry_size_of.ensures (rw blocks at c.if-index_at-entry_size.true)

pub invariant_of-result : goal.invariant_of-result
invariant_of-result c =
    let blocks : c.div_ceil-blocks.result ≡ blocks_of (c.in-Some.header / 4) = omega (arith, c.div_ceil-blocks.ensures) in
    let size = size_small c.in-Some.header c.in-Some-entry_size_of.entry_size c.in-Some-entry_size_of.ensures in
    (c.requires, size.0, size.1, rw blocks at c.if-index_at-entry_size.false)

pub returns-clause-ok : goal.returns-clause-ok
returns-clause-ok c =
    let blocks : c.div_ceil-blocks.result ≡ blocks_of (c.in-Some.header / 4) = omega (arith, c.div_ceil-blocks.ensures) in
    whole_index c.args.bytes.now c.args.at c.in-Some.header c.in-Some.index_at c.in-Some-entry_size_of.entry_size
    c.in-Some.ensures.exact c.in-Some-entry_size_of.ensures (rw blocks at c.if-index_at-entry_size.false)
