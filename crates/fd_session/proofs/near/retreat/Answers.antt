use Rattle.std.proofs.Common.{arith, ap, refl}
use Rattle.fd_owner.specs.Shown.{Shown}
use Rattle.fd_session.proofs.Nearby.{position_near, near_back, near_down}
use Rattle.fd_session.proofs.near.retreat.Goals as goal

pub returns-then-position-to : goal.returns-then-position-to
returns-then-position-to c = record {
  place = ap (λ (s : Shown). s.place) c.back_to.ensures;
  near = λ table k le n. near_back table k c.args.to _ _ le n (omega (arith, c.if-position-to.true, c.position.ensures, position_near _ _ _ n))
      c.back_to.ensures;
}

pub returns-else-position-to : goal.returns-else-position-to
returns-else-position-to c = record {
  place = refl;
  near = λ table k le n. near_down table k c.args.to _ le n (omega (arith, c.if-position-to.false, c.position.ensures, position_near _ _ _ n));
}
