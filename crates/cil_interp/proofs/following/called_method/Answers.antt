use Rattle.cil_interp.proofs.following.called_method.Goals as goal

pub returns-in-Next-clause-goes : goal.returns-in-Next-clause-goes
returns-in-Next-clause-goes c = λ output begun. (begun, c.in-Next.ensures.entered output begun)

pub returns-in-End-clause-goes : goal.returns-in-End-clause-goes
returns-in-End-clause-goes c = λ output begun. (begun, c.in-End.ensures.entered output begun)
