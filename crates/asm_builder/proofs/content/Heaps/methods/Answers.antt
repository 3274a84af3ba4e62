use Rattle.std.proofs.Common.{◌+◌, ap, arith}
use Rattle.asm_builder.specs.Sound.{is_writable_method}
use Rattle.asm_builder.proofs.Spelled.{item_is}
use Rattle.asm_builder.proofs.Methods.{all_item, code_part, methods_short, methods_start, methods_step, rva_small, writable_sig}
use Rattle.asm_builder.proofs.content.Heaps.methods.Goals as goal

pub loop-m-init : goal.loop-m-init
loop-m-init c = methods_start c.args.self.now c.args.methods.now c.new-rows.result.items c.new-rows.ensures.items

pub method-requires-clause-short : goal.method-requires-clause-short
method-requires-clause-short c =
    methods_short c.args.self.now c.args.methods.now c.loop-m.m-index c.m-item.result c.loop-m.rows.items c.loop-m.self
    c.loop-m.rva (omega arith)
    c.m-item.is c.loop-m.invariant c.requires.short

pub method-requires-clause-sig : goal.method-requires-clause-sig
method-requires-clause-sig c =
    let at = item_is c.args.methods.now c.loop-m.m-index c.m-item.result (omega arith) c.m-item.is in
    writable_sig c.m-item.result (all_item is_writable_method c.args.methods.now c.loop-m.m-index c.m-item.result at c.requires.sigs)

pub body_size-requires : goal.body_size-requires
body_size-requires c =
    let at = item_is c.args.methods.now c.loop-m.m-index c.m-item.result (omega arith) c.m-item.is in
    let part = code_part c.args.methods.now c.loop-m.m-index c.m-item.result at in
    let codes = c.requires.codes in
    omega (arith, part, codes)

pub overflow_add-rva : goal.overflow_add-rva
overflow_add-rva c =
    let small =
    rva_small c.args.self.now c.args.methods.now c.loop-m.m-index c.m-item.result c.loop-m.rows.items c.loop-m.self
    c.loop-m.rva (omega arith)
    c.m-item.is c.loop-m.invariant c.requires.few c.requires.codes in
    let size = c.body_size.ensures in
    omega (arith, small, size)

pub loop-m-preserved : goal.loop-m-preserved
loop-m-preserved c =
    methods_step c.args.self.now c.args.methods.now c.loop-m.m-index c.m-item.result c.loop-m.rows.items c.push.new.self.items c.loop-m.self
    c.method.new.self c.loop-m.rva (c.loop-m.rva + c.body_size.result) c.in_ok-method.field-0 (omega arith) c.m-item.is c.loop-m.invariant
    c.in_ok-method.ensures.row c.in_ok-method.ensures.heaps c.in_ok-push.ensures.items (ap (λ n. c.loop-m.rva + n) c.body_size.ensures)
