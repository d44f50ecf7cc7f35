use Rattle.std.proofs.Common.{false}
use Rattle.fd_session.proofs.Nearby.{near_held}
use Rattle.fd_session.proofs.session.Session.start.Goals as goal

pub invariant_of-result : goal.invariant_of-result
invariant_of-result c =
    let opened = c.in_ok-frame.ensures.opened false in
    (near_held _ _ _ 0 opened.0 opened.1, rw c.in_ok-frame.ensures.workers c.requires.0, rw c.in_ok-frame.ensures.workers c.requires.1)
