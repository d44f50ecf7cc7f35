use Rattle.fd_owner.proofs.run.Growing.goes_on.Goals as goal

pub returns-clause-grows : goal.returns-clause-grows
returns-clause-grows c = λ from before run. c.clears.ensures.grows from before (c.passes.ensures.grows from before run)
