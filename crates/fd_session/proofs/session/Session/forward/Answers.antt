use Rattle.std.proofs.Common.{◌≡◌, ◌≤◌, ap, arith, length, subst}
use Rattle.std.specs.Result.{result_unwrap_or}
use Rattle.fd_tile.specs.Grid.{TargetSize, tile_count}
use Rattle.fd_frame.specs.State.{State}
use Rattle.fd_session.specs.Held.{places_of, first_places}
use Rattle.fd_session.proofs.Nearby.{near_back_at}
use Rattle.fd_session.proofs.session.Session.forward.Goals as goal

pub draw_reached-run-requires-clause-places : goal.draw_reached-run-requires-clause-places
draw_reached-run-requires-clause-places g c κs outlives =
    let lent = c.deref_mut.result.now in
    rw c.of-way.ensures.table (subst (λ (s : TargetSize). places_of lent ≡ first_places s (tile_count s)) c.self.invariant.0.sized
    (rw c.deref_mut.ensures.value c.self.invariant.0.places))

pub draw_reached-run-requires-clause-near : goal.draw_reached-run-requires-clause-near
draw_reached-run-requires-clause-near g c κs outlives =
    rw (c.of-way.ensures.table, c.deref_mut.ensures.value, c.of-way.ensures.from) c.self.invariant.0.stand

pub invariant_of-self : goal.invariant_of-self
invariant_of-self g c =
    let held = c.self.invariant.0 in
    let comes = rw c.of-way.ensures.table at c.draw_reached-run.ensures.comes in
    let within : result_unwrap_or c.draw_reached-run.result c.of-way.result.from ≤ length c.self.inside.frame.table.events = omega (
      arith,
      c.requires.within,
      comes.within,
      c.of-way.ensures.to,
      ap (λ (s : State). length s.table.events) c.self.view_is,
    ) in
    rw c.unwrap_or-self-inside.ensures (
      near_back_at _ _ _ _ _ _ _ _ held c.deref_mut.ensures.value c.self.inside.frame.owners.ok.0 comes.left within,
      c.self.invariant.1,
      c.self.invariant.2,
    )
