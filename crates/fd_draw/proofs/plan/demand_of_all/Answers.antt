use Rattle.std.proofs.Common.{sym}
use Rattle.fd_draw.proofs.Counts.{pixels_in-all, spans_in-all}
use Rattle.fd_draw.proofs.plan.demand_of_all.Goals as goal

pub returns-clause-spans : goal.returns-clause-spans
returns-clause-spans c = sym (spans_in-all c.args.place c.requires.wide)

pub returns-clause-pixels : goal.returns-clause-pixels
returns-clause-pixels c = sym (pixels_in-all c.args.place)
