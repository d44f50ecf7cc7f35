use Rattle.std.proofs.Common.{arith, ap}
use Rattle.fd_tile.specs.declared.place.Place.{Place}
use Rattle.fd_tile.specs.Place.{Holds}
use Rattle.fd_session.specs.Held.{ShowsAt}
use Rattle.fd_session.specs.Near.{StandsNear}
use Rattle.fd_session.proofs.Frames.{count_placed, owner_placed, owner_at}
use Rattle.fd_session.proofs.frame.Frame.owner_of.Goals as goal

pub index-requires : goal.index-requires
index-requires c =
    let owners = c.args.self.now.owners in
    omega (arith, c.tile_of.ensures.below, owners.ok.0, count_placed c.args.self.now.grid owners.items c.requires.places)

pub returns : goal.returns
returns c =
    let owner = c.index.result.now in
    let items = c.args.self.now.owners.items in
    let placed = owner_placed c.args.self.now.grid items c.requires.places c.tile_of.result owner c.tile_of.ensures.below c.index.ensures in
    let holds : Holds owner.place c.args.x c.args.y = rw placed c.tile_of.ensures.holds in
    record {
      holds = holds;
      within = omega (arith, ap (λ (p : Place). p.left) placed, ap (λ (p : Place). p.width) placed, holds.from_left, holds.to_right);
      narrow = omega (arith, ap (λ (p : Place). p.width) placed);
      near = λ table k. owner_at _ items c.requires.places _ owner c.tile_of.ensures.below c.index.ensures (StandsNear table k);
      shows = λ table k. owner_at _ items c.requires.places _ owner c.tile_of.ensures.below c.index.ensures (ShowsAt table k);
    }
