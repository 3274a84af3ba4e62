use Rattle.std.proofs.Common.{◌++◌, [], ◌∙◌, ap, get_or, sym, take, arith}
use Rattle.std.specs.Prelude.{unwrap_or}
use Rattle.native_format.specs.SparseSteps.{contents}
use Rattle.native_format.proofs.WriterParts.{len_small, leaf, lens_high, lens_low, many_high, many_low, small_low, small_high, tree_put}
use Rattle.native_format.proofs.WriterParts.{upper, wide_low, wide_high}
use Rattle.native_format.proofs.sparse_writer.+put_tree.Goals as goal

pub returns-in_default : goal.returns-in_default
returns-in_default t c =
    c.in_ok-put_content.ensures
    ∙ ap (λ tree. c.args.out.now.items ++ unwrap_or tree []) (sym (leaf c.args.lower.now c.args.slots.now (omega arith) c.requires.wide))

pub put_node-requires : goal.put_node-requires
put_node-requires t c =
    let ws = c.args.lower.now in
    let slots = c.args.slots.now in
    let lens = c.args.lengths.now in
    let w = get_or ws 0 0 in
    let some = c.in-len1-up.len_at_least in
    let low =
    c.tree_len.ensures.written (contents (take w slots)) (lens_low w lens slots c.requires.lengths)
    (small_low ws slots some c.requires.small) in
    let high =
    c.tree_len-2.ensures.written (contents (upper w slots)) (lens_high w lens slots c.requires.lengths)
    (small_high ws slots some c.requires.small) in
    len_small ws slots c.tree_len.result c.tree_len-2.result some low high c.requires.small

pub put_tree-requires : goal.put_tree-requires
put_tree-requires t c =
    let ws = c.args.lower.now in
    let slots = c.args.slots.now in
    let lens = c.args.lengths.now in
    let w = get_or ws 0 0 in
    let some = c.in-len1-up.len_at_least in (
      omega arith,
      (
        wide_low ws slots some c.requires.wide,
        (
          many_low w lens slots c.requires.many,
          (lens_low w lens slots c.requires.lengths, small_low ws slots some c.requires.small),
        ),
      ),
    )

pub put_tree-requires-2 : goal.put_tree-requires-2
put_tree-requires-2 t c =
    let ws = c.args.lower.now in
    let slots = c.args.slots.now in
    let lens = c.args.lengths.now in
    let w = get_or ws 0 0 in
    let some = c.in-len1-up.len_at_least in (
      omega arith,
      (
        wide_high ws slots some c.requires.wide,
        (
          many_high w lens slots c.requires.many,
          (lens_high w lens slots c.requires.lengths, small_high ws slots some c.requires.small),
        ),
      ),
    )

pub returns : goal.returns
returns t c =
    let ws = c.args.lower.now in
    let slots = c.args.slots.now in
    let lens = c.args.lengths.now in
    let w = get_or ws 0 0 in
    let some = c.in-len1-up.len_at_least in
    let low =
    c.tree_len.ensures.written (contents (take w slots)) (lens_low w lens slots c.requires.lengths)
    (small_low ws slots some c.requires.small) in
    let high =
    c.tree_len-2.ensures.written (contents (upper w slots)) (lens_high w lens slots c.requires.lengths)
    (small_high ws slots some c.requires.small) in
    tree_put ws slots c.tree_len.result c.tree_len-2.result c.args.out.now.items c.put_node.new.out.items c.put_tree.new.out.items
    c.put_tree-2.new.out.items some low high c.in_ok-put_node.ensures c.in_ok-put_tree.ensures c.in_ok-put_tree-2.ensures
