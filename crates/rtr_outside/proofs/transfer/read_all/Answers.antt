use Rattle.std.proofs.Common.{◌≤◌, ◌+◌, ◌-◌, length, arith}
use Rattle.std.proofs.lemmas.List.{length-take}
use Rattle.rtr_outside.specs.declared.files.TheConstants.{FILE_LIMIT}
use Rattle.rtr_outside.proofs.TransferLemmas.{consumed_more}
use Rattle.rtr_outside.proofs.transfer.read_all.Goals as goal

pub returns-in_err-read_piece-clause-consumed : goal.returns-in_err-read_piece-clause-consumed
returns-in_err-read_piece-clause-consumed g c =
    let (bs, few, then) = c.read_piece.ensures.consumed in
    let most = c.min-most.result in
    let missing = FILE_LIMIT + 1 - length c.loop-piece.bytes.items in
    let within : length bs ≤ missing = omega (
      arith,
      few,
      length-take most c.loop-piece.piece,
      c.min-most.ensures,
      c.len-in-loop-piece.ensures,
      c.loop-piece.bytes.ok,
    ) in
    consumed_more _ _ _ c.loop-piece.bytes.items missing (FILE_LIMIT + 1) (omega (arith, c.loop-piece.invariant.within))
    c.loop-piece.invariant.came (bs, within, then)

pub returns-clause-consumed : goal.returns-clause-consumed
returns-clause-consumed g c =
    (c.loop-piece.bytes.items, c.loop-piece.invariant.within, c.loop-piece.invariant.came)
