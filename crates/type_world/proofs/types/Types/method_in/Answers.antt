use Rattle.std.proofs.Common.{sym, ap, ◌∙◌}
use Rattle.std.specs.Option.{option_map}
use Rattle.type_world.specs.declared.identity.TheConstants.{BUILT_IN}
use Rattle.type_world.specs.Loading.{world_of}
use Rattle.type_world.specs.Members.{method_id}
use Rattle.type_world.proofs.MemberRefs.{built_in_of}
use Rattle.type_world.proofs.types.Types.method_in.Goals as goal

pub returns-in-Some-built_in_method : goal.returns-in-Some-built_in_method
returns-in-Some-built_in_method c =
    sym (built_in_of (world_of c.args.self.now) c.args.wanted.now.asm c.args.wanted.now.name.now c.args.wanted.now.sig.now c.args.of
    c.in_default.not-Class
    ∙ ap (option_map (method_id BUILT_IN)) (sym c.built_in_method.ensures ∙ c.in-Some-built_in_method.is))

pub returns-in-None-built_in_method : goal.returns-in-None-built_in_method
returns-in-None-built_in_method c =
    sym (built_in_of (world_of c.args.self.now) c.args.wanted.now.asm c.args.wanted.now.name.now c.args.wanted.now.sig.now c.args.of
    c.in_default.not-Class
    ∙ ap (option_map (method_id BUILT_IN)) (sym c.built_in_method.ensures ∙ c.in-None-built_in_method.is))
