use Rattle.std.proofs.Common.{sym, ◌∙◌}
use Rattle.type_world.proofs.TypeRefs.{scope_some}
use Rattle.type_world.proofs.assemblies.Assemblies.scope_in.Goals as goal

pub returns-in-Some : goal.returns-in-Some
returns-in-Some c =
    c.scope_by.ensures ∙ scope_some c.args.self.now c.args.asm c.args.row c.column-scope.result c.args.assembly.now _
    c.requires c.column-scope.ensures (sym c.in-Some.is ∙ c.coded.ensures)

pub returns-in-None : goal.returns-in-None
returns-in-None c =
    scope_some c.args.self.now c.args.asm c.args.row c.column-scope.result c.args.assembly.now _
    c.requires c.column-scope.ensures (sym c.in-None.is ∙ c.coded.ensures)
