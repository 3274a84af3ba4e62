use Rattle.std.proofs.Common.{arith}
use Rattle.asm_builder.specs.Sound.{is_writable_method}
use Rattle.asm_builder.proofs.Spelled.{item_is}
use Rattle.asm_builder.proofs.Methods.{all_item, locals_short, locals_step, writable_locals}
use Rattle.asm_builder.proofs.content.Heaps.all_locals.Goals as goal

pub put_locals-requires-clause-short : goal.put_locals-requires-clause-short
put_locals-requires-clause-short c =
    locals_short c.args.self.now c.args.methods.now c.loop-m.m-index c.m-item.result c.loop-m.rows.items c.loop-m.self
    (omega arith) c.m-item.is
    c.loop-m.invariant c.requires.short

pub put_locals-requires-clause-locals : goal.put_locals-requires-clause-locals
put_locals-requires-clause-locals c =
    let at = item_is c.args.methods.now c.loop-m.m-index c.m-item.result (omega arith) c.m-item.is in
    writable_locals c.m-item.result (all_item is_writable_method c.args.methods.now c.loop-m.m-index c.m-item.result at c.requires.locals)

pub loop-m-preserved : goal.loop-m-preserved
loop-m-preserved c =
    locals_step c.args.self.now c.args.methods.now c.loop-m.m-index c.m-item.result c.loop-m.rows.items
    c.put_locals.new.rows.items c.loop-m.self
    c.put_locals.new.self (omega arith) c.m-item.is c.loop-m.invariant c.in_ok-put_locals.ensures.rows c.in_ok-put_locals.ensures.heaps
