use Rattle.std.proofs.Common.{sym, ◌∙◌}
use Rattle.type_world.proofs.FullNames.{methods_are}
use Rattle.type_world.proofs.assemblies.Assemblies.methods_of.Goals as goal

pub returns : goal.returns
returns c = c.methods.ensures.rows ∙ sym (methods_are c.args.self.now c.first.result.now c.args.class (sym c.first.ensures))
