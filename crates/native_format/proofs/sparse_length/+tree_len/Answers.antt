use Rattle.std.proofs.Common.{arith}
use Rattle.native_format.proofs.SparseLengthLaws.{len_leaf, len_step, len_written}
use Rattle.native_format.proofs.sparse_length.+tree_len.Goals as goal

pub returns-in_default-clause-exact : goal.returns-in_default-clause-exact
returns-in_default-clause-exact t c = len_leaf c.args.lower.now c.args.slots.now (omega arith)

pub returns-in_default-clause-written : goal.returns-in_default-clause-written
returns-in_default-clause-written t c contents is small =
    len_written c.args.lower.now c.args.slots.now contents _ (returns-in_default-clause-exact t c) is small

pub returns-clause-exact : goal.returns-clause-exact
returns-clause-exact t c =
    len_step c.args.lower.now c.args.slots.now c.tree_len-low.result c.tree_len-high.result c.node_len.result c.in-len1-up.len_at_least
    c.tree_len-low.ensures.exact c.tree_len-high.ensures.exact c.node_len.ensures

pub returns-clause-written : goal.returns-clause-written
returns-clause-written t c contents is small =
    len_written c.args.lower.now c.args.slots.now contents c.node_len.result (returns-clause-exact t c) is small
