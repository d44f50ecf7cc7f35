use Rattle.std.proofs.Common.{◌≡◌, ◌≤◌, ap, arith, length, subst}
use Rattle.fd_tile.specs.Grid.{TargetSize, tile_count}
use Rattle.fd_frame.specs.State.{State}
use Rattle.fd_session.specs.Held.{places_of, first_places}
use Rattle.fd_session.proofs.Nearby.{near_back_at}
use Rattle.fd_session.proofs.session.Session.back_to.Goals as goal

pub take_back-requires-clause-places : goal.take_back-requires-clause-places
take_back-requires-clause-places c =
    let lent = c.deref_mut.result.now in
    subst (λ (s : TargetSize). places_of lent ≡ first_places s (tile_count s)) c.self.invariant.0.sized
    (rw c.deref_mut.ensures.value c.self.invariant.0.places)

pub take_back-requires-clause-near : goal.take_back-requires-clause-near
take_back-requires-clause-near c = rw c.deref_mut.ensures.value c.self.invariant.0.stand

pub invariant_of-self : goal.invariant_of-self
invariant_of-self c =
    let held = c.self.invariant.0 in
    let within : c.args.to ≤ length c.self.inside.frame.table.events =
    omega (arith, c.requires, held.reached, ap (λ (s : State). s.position) c.self.view_is) in (
      near_back_at _ _ _ c.args.to _ _ _ _ held c.deref_mut.ensures.value c.self.inside.frame.owners.ok.0 c.take_back.ensures.left within,
      c.self.invariant.1,
      c.self.invariant.2,
    )
