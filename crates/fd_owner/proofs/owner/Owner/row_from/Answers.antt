use Rattle.std.proofs.Common.{ap, arith}
use Rattle.fd_tile.proofs.Pixels.{HasRow-from_Holds}
use Rattle.fd_owner.specs.Shown.{Shown}
use Rattle.fd_owner.proofs.Pictures.{last-frames_seen, row_of-pixels_of, row_inside}
use Rattle.fd_owner.proofs.owner.Owner.row_from.Goals as goal

pub returns : goal.returns
returns c =
    let t = c.self.inside.tile in
    let crossed = row_inside t.place _ c.args.y (ap (λ (s : Shown). s.place) c.self.view_is) (HasRow-from_Holds _ c.args.x c.args.y c.requires) in
    record { value = grind (arith, last-frames_seen, row_of-pixels_of); long = grind (arith) }
