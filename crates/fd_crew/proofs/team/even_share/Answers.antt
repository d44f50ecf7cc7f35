use Rattle.fd_crew.proofs.Parting.{even_share_is}
use Rattle.fd_crew.proofs.team.even_share.Goals as goal

pub returns-clause-value : goal.returns-clause-value
returns-clause-value c = even_share_is _ _ _ c.requires.some
