use Rattle.cli_assembly.specs.Assemblies.{assembly_of}
use Rattle.cli_assembly.proofs.Lists.{fields_between}
use Rattle.cli_assembly.proofs.assembly.Assembly.fields.Goals as goal

pub returns-clause-rows : goal.returns-clause-rows
returns-clause-rows c =
    fields_between (assembly_of c.args.self.now) c.args.row c.list.result.start c.list.result.end c.list.ensures.start c.list.ensures.end
