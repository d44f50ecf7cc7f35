use Rattle.std.proofs.Common.{◌≡◌, subst, length, map}
use Rattle.std.specs.List.{range_with_len}
use Rattle.fd_events.specs.Image.{colour_at}
use Rattle.fd_frame.specs.State.{State}
use Rattle.fd_session.proofs.Nearby.{all_near_show}
use Rattle.fd_session.proofs.session.SessionShows.row_from.Goals as goal

pub returns-clause-colours : goal.returns-clause-colours
returns-clause-colours c =
    let row = c.row_from.result.items in
    let inside = c.self.inside in
    subst (λ (s : State). row ≡ map (λ column. colour_at s.table s.position column c.args.y) (range_with_len c.args.x (length row))) c.self.view_is
    (c.row_from.ensures.colours inside.frame.table inside.position
    (all_near_show inside.frame.table inside.position inside.frame.owners.items c.self.invariant.0.stand))
