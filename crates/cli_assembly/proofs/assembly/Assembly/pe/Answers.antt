use Rattle.cli_assembly.proofs.assembly.Assembly.pe.Goals as goal

pub returns : goal.returns
returns c = rw (← c.self.view_is) c.self.invariant.headers
