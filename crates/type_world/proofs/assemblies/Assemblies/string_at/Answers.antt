use Rattle.std.proofs.Common.{sym, ◌∙◌}
use Rattle.type_world.proofs.FullNames.{string_some}
use Rattle.type_world.proofs.assemblies.Assemblies.string_at.Goals as goal

pub returns : goal.returns
returns c = c.string.ensures ∙ sym (string_some c.args.self.now c.args.at c.first.result.now (sym c.first.ensures))
