use Rattle.std.proofs.Common.{sym, ap, ◌∙◌, option_copied}
use Rattle.type_world.specs.Loading.{world_of}
use Rattle.type_world.proofs.OtherNames.{kept_outermost, no_outermost}
use Rattle.type_world.proofs.assemblies.Assemblies.type_named.Goals as goal

pub outermost_among-requires : goal.outermost_among-requires
outermost_among-requires c =
    c.outermost.ensures ∙ kept_outermost (world_of c.args.self.now) c.args.asm c.in-Some.names.now
    (sym c.names_of.ensures ∙ ap option_copied c.in-Some.is)

pub returns-in-None : goal.returns-in-None
returns-in-None c =
    no_outermost (world_of c.args.self.now) c.args.asm c.args.namespace.now c.args.name.now
    (sym c.names_of.ensures ∙ ap option_copied c.in-None.is)
