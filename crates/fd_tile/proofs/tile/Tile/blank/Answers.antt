use Rattle.std.proofs.Common.{false, sym}
use Rattle.fd_blend.specs.Channel.{fresh}
use Rattle.fd_tile.specs.Tile.{flat_over}
use Rattle.fd_tile.proofs.Rows.{over_place_constant, painted_from}
use Rattle.fd_tile.proofs.tile.Tile.blank.Goals as goal

pub returns : goal.returns
returns c =
    let p = c.args.place in
    rw c.of.ensures (painted_from p false false (λ _ _. (fresh, 65535)) (flat_over p fresh) (flat_over p 65535)
    (sym (over_place_constant fresh p)) (sym (over_place_constant 65535 p)))
