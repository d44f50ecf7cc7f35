use Rattle.fd_events.proofs.CellGridLemmas.{under}
use Rattle.fd_events.proofs.cells.cells_under.Goals as goal

pub returns-clause-under : goal.returns-clause-under
returns-clause-under c = under c.args.bounds c.args.shift
