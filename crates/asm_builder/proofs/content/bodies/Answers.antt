use Rattle.std.proofs.Common.{◌<◌, length, ◌∙◌, arith}
use Rattle.asm_builder.proofs.Methods.{bodies_none, bodies_step, locals_few}
use Rattle.asm_builder.proofs.content.bodies.Goals as goal

pub loop-m-init : goal.loop-m-init
loop-m-init c = let none = bodies_none c.args.methods.now in (c.new-out.ensures.items ∙ none.0, none.1)

pub locals_token-requires : goal.locals_token-requires
locals_token-requires c =
    let few = locals_few 0 c.args.methods.now c.loop-m.m-index in
    let is = c.loop-m.invariant.1 in
    let lt : c.loop-m.m-index < length c.args.methods.now = omega arith in
    omega (arith, few, is, lt)

pub locals_after-before-requires : goal.locals_after-before-requires
locals_after-before-requires c =
    let few = locals_few 0 c.args.methods.now c.loop-m.m-index in
    let is = c.loop-m.invariant.1 in
    let lt : c.loop-m.m-index < length c.args.methods.now = omega arith in
    omega (arith, few, is, lt)

pub loop-m-preserved : goal.loop-m-preserved
loop-m-preserved c =
    bodies_step c.args.methods.now c.loop-m.m-index c.m-item.result c.loop-m.out.items c.put_body.new.out.items c.loop-m.before
    c.locals_after-before.result c.locals_token.result (omega arith) c.m-item.is c.loop-m.invariant c.locals_token.ensures
    c.in_ok-put_body.ensures c.locals_after-before.ensures
