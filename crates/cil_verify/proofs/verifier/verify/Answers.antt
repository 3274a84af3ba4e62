use Rattle.type_world.specs.Loading.{world_of}
use Rattle.cil_verify.proofs.Found.{refused_outside, verified_in}
use Rattle.cil_verify.proofs.Leasts.{has_least, lacks}
use Rattle.cil_verify.proofs.verifier.verify.Goals as goal

pub returns-clause-in_profile : goal.returns-clause-in_profile
returns-clause-in_profile c =
    verified_in (world_of c.args.world.now) c.args.m c.typed_or_refused.result c.typed_or_refused.ensures.typing

pub returns-clause-outside : goal.returns-clause-outside
returns-clause-outside c =
    refused_outside (world_of c.args.world.now) c.args.m c.typed_or_refused.result c.typed_or_refused.ensures.refused

pub returns-clause-least : goal.returns-clause-least
returns-clause-least c =
    has_least (world_of c.args.world.now) c.args.m c.rounds_find_the_least.ensures c.typed_or_refused.result
    c.typed_or_refused.ensures.instrs c.typed_or_refused.ensures.typing

pub returns-clause-untyped : goal.returns-clause-untyped
returns-clause-untyped c =
    lacks (world_of c.args.world.now) c.args.m c.rounds_find_typings.ensures
    c.untyped_code_has_a_first_offset.ensures.first c.typed_or_refused.result c.typed_or_refused.ensures.refused
