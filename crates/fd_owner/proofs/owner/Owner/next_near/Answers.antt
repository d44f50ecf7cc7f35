use Rattle.std.proofs.Common.{subst, arith}
use Rattle.fd_tile.specs.declared.place.Place.{Place}
use Rattle.fd_owner.specs.History.{position}
use Rattle.fd_owner.specs.Untouched.{AreUntouched}
use Rattle.fd_owner.proofs.PassedOver.{untouched_from, untouched_on}
use Rattle.fd_owner.proofs.owner.Owner.next_near.Goals as goal

pub loop-near-init : goal.loop-near-init
loop-near-init c =
    let table = c.args.table.now in
    let near = c.next_near-near in
    let live = c.pass_idle-live in
    record {
      least = omega (arith, c.position.ensures, near.ensures.from);
      order = live.ensures.from;
      most = live.ensures.last;
      far = λ k above below. untouched_from table c.position.result near.result c.bounds-window.result c.args.self.now.place c.bounds-window.ensures.placed
          c.requires.inside c.bounds-window.ensures.value near.ensures.far k (omega (arith, above, c.position.ensures)) below;
      idle = subst (λ (place : Place). AreUntouched table near.result live.result place) c.place-place.ensures.value live.ensures.idle;
    }

pub loop-near-preserved : goal.loop-near-preserved
loop-near-preserved c =
    let inv = c.loop-near.invariant in
    let table = c.args.table.now in
    let place = c.args.self.now.place in
    let start = position c.args.self.now.history in
    let near = c.next_near-near-in-loop-near in
    let live = c.pass_idle-live-in-loop-near in
    let so_far = untouched_on table start c.loop-near.near c.loop-near.live place inv.far inv.idle in
    let missed : AreUntouched table c.loop-near.live near.result place = untouched_from table c.loop-near.live near.result c.bounds-window.result place
    c.bounds-window.ensures.placed c.requires.inside c.bounds-window.ensures.value near.ensures.far in
    record {
      least = omega (arith, inv.least, inv.order, near.ensures.from);
      order = live.ensures.from;
      most = live.ensures.last;
      far = untouched_on table start c.loop-near.live near.result place so_far missed;
      idle = subst (λ (p : Place). AreUntouched table near.result live.result p) c.place-place.ensures.value live.ensures.idle;
    }
