use Rattle.cli_assembly.proofs.assembly.Assembly.metadata.Goals as goal

pub returns-clause-layout : goal.returns-clause-layout
returns-clause-layout c = rw (← c.self.view_is) c.self.invariant.layout

pub returns-clause-well_formed : goal.returns-clause-well_formed
returns-clause-well_formed c = rw (← c.self.view_is) c.self.invariant.well_formed
