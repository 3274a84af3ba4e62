use Rattle.cli_assembly.specs.Assemblies.{assembly_of}
use Rattle.cli_assembly.proofs.Lists.{methods_between}
use Rattle.cli_assembly.proofs.assembly.Assembly.methods.Goals as goal

pub returns-clause-rows : goal.returns-clause-rows
returns-clause-rows c =
    methods_between (assembly_of c.args.self.now) c.args.row c.list.result.start c.list.result.end c.list.ensures.start c.list.ensures.end
