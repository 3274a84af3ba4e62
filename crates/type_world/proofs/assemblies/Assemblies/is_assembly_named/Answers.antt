use Rattle.std.proofs.Common.{sym, ap, ◌∙◌, option_copied}
use Rattle.type_world.proofs.TypeRefs.{named_none, named_some}
use Rattle.type_world.proofs.assemblies.Assemblies.is_assembly_named.Goals as goal

pub returns-in-Some : goal.returns-in-Some
returns-in-Some c =
    c.has_name.ensures ∙ named_some c.args.self.now c.args.asm c.in-Some.assembly.now c.args.name.now
    (sym c.assembly.ensures ∙ ap option_copied c.in-Some.is)

pub returns-in-None : goal.returns-in-None
returns-in-None c =
    c.eq.ensures ∙ named_none c.args.self.now c.args.asm c.args.name.now (sym c.assembly.ensures ∙ ap option_copied c.in-None.is)
