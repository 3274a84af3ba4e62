use Rattle.std.proofs.Common.{◌≡◌, Some, sym, ap, ◌∙◌, arith, option_and_then}
use Rattle.std.specs.Option.{option_map}
use Rattle.type_world.specs.Loading.{as_method, world_of}
use Rattle.type_world.specs.Profile.{Method, instrs_of, profile_method}
use Rattle.cil_verify.proofs.Found.{in_profile_short}
use Rattle.cil_verify.proofs.verifier.typed_or_refused.Goals as goal

pub decode_body-requires : goal.decode_body-requires
decode_body-requires c =
    let there : profile_method (world_of c.args.world.now) c.args.m ≡ Some (as_method c.in-Some.method) =
    sym c.profile_method.ensures ∙ ap (option_map as_method) c.in-Some.is in
    omega (arith, in_profile_short (world_of c.args.world.now) c.args.m (as_method c.in-Some.method) there)

pub stacks_of-requires-clause-small : goal.stacks_of-requires-clause-small
stacks_of-requires-clause-small c =
    let there : profile_method (world_of c.args.world.now) c.args.m ≡ Some (as_method c.in-Some.method) =
    sym c.profile_method.ensures ∙ ap (option_map as_method) c.in-Some.is in
    in_profile_short (world_of c.args.world.now) c.args.m (as_method c.in-Some.method) there

pub returns-clause-instrs : goal.returns-clause-instrs
returns-clause-instrs c =
    let there : profile_method (world_of c.args.world.now) c.args.m ≡ Some (as_method c.in-Some.method) =
    sym c.profile_method.ensures ∙ ap (option_map as_method) c.in-Some.is in
    ap (option_and_then (λ (m : Method). instrs_of m.code)) there ∙ c.stacks_of.ensures.instrs ∙ ap Some c.deref.ensures.value
