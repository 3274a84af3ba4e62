use Rattle.std.proofs.Common.{◌≡◌, ap, ◌∙◌, arith}
use Rattle.native_format.specs.Sparse.{blocks_of}
use Rattle.native_format.specs.SparseLengths.{Measure, blocks_len, capped, front_len}
use Rattle.native_format.proofs.MeasureLaws.{measured, no_blocks}
use Rattle.native_format.proofs.sparse_length.SparseLength.bytes.Goals as goal
use Rattle.native_format.proofs.sparse_length.SparseLength.bytes.Goals.{then-self-blocks, else-self-blocks}

pub returns : goal.returns
returns c count lengths h =
    let count_is = ap (λ (m : Measure). m.count) c.self.view_is in
    let blocks : c.div_ceil-blocks.result ≡ blocks_of c.args.self.now.count = omega (arith, count_is, c.div_ceil-blocks.ensures) in
    let body : c.if-self-blocks.body ≡ capped (blocks_len lengths (blocks_of c.args.self.now.count)) = elim c.if-self-blocks.branch [
      | then-self-blocks w ↦ w.body-is ∙ w.before_block-body.ensures count lengths h ∙ ap (λ n. capped (blocks_len lengths n)) blocks
      | else-self-blocks w ↦
          no_blocks lengths (blocks_of c.args.self.now.count) c.if-self-blocks.body
          (omega (arith, count_is, c.self.invariant, w.if-self-blocks.false, c.div_ceil-blocks.ensures)) w.body-is
    ] in
    measured c.args.self.now count lengths c.front_len.result c.if-self-blocks.body c.saturating_add.result h
    (c.front_len.ensures ∙ ap (λ (m : Measure). front_len m.count) c.self.view_is) (c.saturating_add.ensures) body
