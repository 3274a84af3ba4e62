use Rattle.std.proofs.Common.{◌+◌, ◌^◌, sym, subst}
use Rattle.native_format.specs.SparseBytes.{AreElements}
use Rattle.native_format.specs.SparseSteps.{SameFrom}
use Rattle.native_format.proofs.SparseWritten.{behind_found, behind_none}
use Rattle.native_format.proofs.sparse_writer.next_slot.Goals as goal

pub split_at-requires : goal.split_at-requires
split_at-requires c = (behind_found c.args.elements.now c.args.index c.in-Some.content.now c.requires c.in-Some.ensures).0

pub returns-in-Some-clause-elements : goal.returns-in-Some-clause-elements
returns-in-Some-clause-elements c =
    subst (AreElements (c.args.index + 1) (2 ^ 32)) (sym c.split_at.ensures.back)
    (behind_found c.args.elements.now c.args.index c.in-Some.content.now c.requires c.in-Some.ensures).1

pub returns-in-Some-clause-others : goal.returns-in-Some-clause-others
returns-in-Some-clause-others c =
    subst (SameFrom (c.args.index + 1) c.args.elements.now) (sym c.split_at.ensures.back)
    (behind_found c.args.elements.now c.args.index c.in-Some.content.now c.requires c.in-Some.ensures).2

pub returns-in-None-clause-elements : goal.returns-in-None-clause-elements
returns-in-None-clause-elements c = behind_none c.args.elements.now c.args.index c.requires c.in-None.ensures
