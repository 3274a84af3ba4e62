use Rattle.std.proofs.Common.{ap, ◌∙◌, arith}
use Rattle.native_format.specs.SparseLengths.{Measure, block_len, capped}
use Rattle.native_format.proofs.MeasureLaws.{before_later}
use Rattle.native_format.proofs.sparse_length.SparseLength.before_block.Goals as goal

pub returns : goal.returns
returns c count lengths h =
    let before = ap (λ (m : Measure). m.before) c.self.view_is in
    let block = ap (λ (m : Measure). m.block) c.self.view_is in
    let next = ap (λ (m : Measure). m.next) c.self.view_is in
    let slots = c.block_len.ensures ∙ ap (λ (m : Measure). capped (block_len m.slots)) c.self.view_is in
    let later =
    before_later c.args.self.now count lengths c.args.block c.block_len.result h (omega (arith, c.self.invariant, next, block)) c.requires
    slots in
    omega (arith, later, before, block, c.from-empty.ensures, c.saturating_add.ensures, c.saturating_add-2.ensures)
