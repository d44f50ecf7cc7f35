use Rattle.std.proofs.Common.{◌≡◌, ◌+◌, ◌*◌, ◌/◌, sym, ap, subst, arith}
use Rattle.fd_tile.specs.Place.{Holds}
use Rattle.fd_tile.specs.Grid.{TargetSize, IsTargetSize, columns_of, place_of}
use Rattle.fd_tile.proofs.GridLemmas.{number_at-holds}
use Rattle.fd_tile.proofs.grid.Grid.tile_of.Goals as goal

pub returns-clause-holds : goal.returns-clause-holds
returns-clause-holds c =
    let size : IsTargetSize c.args.self.now = subst (λ (s : TargetSize). IsTargetSize s) c.self.view_is c.self.invariant in
    let columns : c.div_ceil-columns.result ≡ columns_of c.args.self.now =
    omega (arith, ap (λ s. s.width) c.self.view_is) in
    subst (λ k. Holds (place_of c.args.self.now (c.args.y / 32 * k + c.args.x / 32)) c.args.x c.args.y) (sym columns)
    (number_at-holds c.args.self.now c.args.x c.args.y size c.requires.column c.requires.row)
