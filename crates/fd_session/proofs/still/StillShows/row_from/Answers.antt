use Rattle.std.proofs.Common.{◌≡◌, subst, length, map, true}
use Rattle.std.specs.List.{range_with_len}
use Rattle.fd_events.specs.Image.{colour_at}
use Rattle.fd_crew.specs.Lanes.{opening_position}
use Rattle.fd_frame.specs.State.{State}
use Rattle.fd_session.proofs.Showing.{all_show}
use Rattle.fd_session.proofs.still.StillShows.row_from.Goals as goal

pub returns-clause-colours : goal.returns-clause-colours
returns-clause-colours c =
    let row = c.row_from.result.items in
    let frame = c.self.inside.frame in
    let at = opening_position frame.owners.items in
    subst (λ (s : State). row ≡ map (λ column. colour_at s.table s.position column c.args.y) (range_with_len c.args.x (length row))) c.self.view_is
    (c.row_from.ensures.colours frame.table at (all_show true frame.table at frame.owners.items c.self.invariant.0.stand))
