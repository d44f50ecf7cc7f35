use Rattle.std.proofs.Common.{◌≤◌, length, ap, arith}
use Rattle.fd_owner.specs.Shown.{Shown}
use Rattle.fd_owner.proofs.Pictures.{position_seen}
use Rattle.fd_owner.proofs.Records.{pixels_kept-history_of}
use Rattle.fd_owner.proofs.owner.Owner.add_kept.Goals as goal

pub returns-clause-kept : goal.returns-clause-kept
returns-clause-kept c =
    let t = c.self.inside.tile in
    let u = c.self.inside.undo in
    let last : c.args.event ≤ length u.frames = omega (arith, c.requires.last, position_seen t u _ (ap (λ (s : Shown). s.history) c.self.view_is)) in
    rw (← c.self.view_is, pixels_kept-history_of t u c.args.event c.args.pixel.0 c.args.pixel.1 c.self.invariant.0 c.requires.first last)
    c.add_kept.ensures.kept
