use Rattle.std.proofs.Common.{sym, ap, ◌∙◌, option_copied}
use Rattle.type_world.specs.Loading.{world_of}
use Rattle.type_world.proofs.OtherNames.{kept_nestings, no_nestings}
use Rattle.type_world.proofs.assemblies.Assemblies.nesting_named.Goals as goal

pub nesting_among-requires : goal.nesting_among-requires
nesting_among-requires c =
    c.nestings.ensures ∙ kept_nestings (world_of c.args.self.now) c.args.asm c.in-Some.names.now
    (sym c.names_of.ensures ∙ ap option_copied c.in-Some.is)

pub returns-in-None : goal.returns-in-None
returns-in-None c =
    no_nestings (world_of c.args.self.now) c.args.asm c.args.enclosing c.args.name.now
    (sym c.names_of.ensures ∙ ap option_copied c.in-None.is)
