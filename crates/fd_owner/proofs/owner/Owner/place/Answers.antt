use Rattle.fd_owner.proofs.Pictures.{filled_shown}
use Rattle.fd_owner.proofs.owner.Owner.place.Goals as goal

pub returns-clause-filled : goal.returns-clause-filled
returns-clause-filled c = rw (← c.self.view_is) (filled_shown c.self.inside.tile c.self.inside.undo c.place.ensures.filled)
