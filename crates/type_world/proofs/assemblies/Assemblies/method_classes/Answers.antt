use Rattle.std.proofs.Common.{sym, ap, ◌∙◌, option_copied}
use Rattle.type_world.proofs.Ascending.{nothing_declared}
use Rattle.type_world.proofs.assemblies.Assemblies.method_classes.Goals as goal

pub returns-in-None : goal.returns-in-None
returns-in-None c =
    c.new.ensures.items ∙ nothing_declared c.args.self.now c.args.asm (sym c.assembly.ensures ∙ ap option_copied c.in-None.is)
