use Rattle.fd_crew.proofs.Keeps.{closes}
use Rattle.fd_crew.proofs.fence.Fence.close.Goals as goal

pub returns-clause-low : goal.returns-clause-low
returns-clause-low c = (closes _ _ _ _ _ _ c.close_with-closed.ensures.values.2 c.requires.all c.requires.below c.word-position.ensures).0
