use Rattle.std.proofs.Common.{sym, ap, ◌∙◌, option_copied}
use Rattle.type_world.proofs.TypeRefs.{scope_none}
use Rattle.type_world.proofs.assemblies.Assemblies.scope_of.Goals as goal

pub returns-in-None : goal.returns-in-None
returns-in-None c =
    scope_none c.args.self.now c.args.asm c.args.row (sym c.assembly.ensures ∙ ap option_copied c.in-None.is)
