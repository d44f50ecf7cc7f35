use Rattle.std.proofs.Common.{map}
use Rattle.fd_crew.specs.Lanes.{opening_position}
use Rattle.fd_crew.proofs.Ending.{run_together}
use Rattle.fd_crew.proofs.crew.run_forward.Goals as goal

pub returns-clause-ended : goal.returns-clause-ended
returns-clause-ended g c =
    run_together _ g.L.Lane.fits _ _ (opening_position (map g.L.Lane.shown c.args.lanes.now)) _ _ c.requires.together c.requires.target.0 _
    c.run_shared.ensures.ended
