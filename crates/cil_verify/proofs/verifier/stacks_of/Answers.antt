use Rattle.std.proofs.Common.{sym, ap, ◌∙◌, is_some, refl}
use Rattle.type_world.specs.Loading.{as_method, world_of}
use Rattle.cil_verify.proofs.Found.{first_is, typing_is}
use Rattle.cil_verify.proofs.verifier.stacks_of.Goals as goal

pub returns-in-Some-clause-typing : goal.returns-in-Some-clause-typing
returns-in-Some-clause-typing c =
    let code = c.codes_are_instructions.ensures.decoded c.args.method.now.code.now c.args.instrs.now c.requires.body in
    let is = typing_is (world_of c.args.world.now) (as_method c.args.method.now) c.args.instrs.now c.in_ok-code.code _ code
    (c.in_ok-code.ensures) refl in
    is ∙ sym (c.in_ok-stacks.ensures) ∙ c.in-Some.is

pub first_untyped-requires-clause-some : goal.first_untyped-requires-clause-some
first_untyped-requires-clause-some c =
    let code = c.codes_are_instructions.ensures.decoded c.args.method.now.code.now c.args.instrs.now c.requires.body in
    let is = typing_is (world_of c.args.world.now) (as_method c.args.method.now) c.args.instrs.now c.in_ok-code.code _ code
    (c.in_ok-code.ensures) refl in
    let none = is ∙ sym (c.in_ok-stacks.ensures) ∙ c.in-None.is in
    let found = c.untyped_code_has_a_first_offset.ensures.found (world_of c.args.world.now) (as_method c.args.method.now)
    c.args.instrs.now code none in
    let first = first_is (world_of c.args.world.now) (as_method c.args.method.now) c.args.instrs.now c.in_ok-code.code code
    (c.in_ok-code.ensures) in
    ap is_some (sym first) ∙ found

pub returns-clause-untyped : goal.returns-clause-untyped
returns-clause-untyped c =
    let code = c.codes_are_instructions.ensures.decoded c.args.method.now.code.now c.args.instrs.now c.requires.body in
    let is = typing_is (world_of c.args.world.now) (as_method c.args.method.now) c.args.instrs.now c.in_ok-code.code _ code
    (c.in_ok-code.ensures) refl in
    let none = is ∙ sym (c.in_ok-stacks.ensures) ∙ c.in-None.is in
    let first = first_is (world_of c.args.world.now) (as_method c.args.method.now) c.args.instrs.now c.in_ok-code.code code
    (c.in_ok-code.ensures) in
    (none, first ∙ c.in_ok-first_untyped-in-None.ensures)
