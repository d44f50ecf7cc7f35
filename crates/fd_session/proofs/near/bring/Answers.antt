use Rattle.std.proofs.Common.{◌≡◌, ℕ, refl, subst, arith, ap, false}
use Rattle.fd_owner.specs.Shown.{Shown}
use Rattle.fd_session.specs.Held.{Stands}
use Rattle.fd_session.proofs.Nearby.{position_near, brought_on, brought_back}
use Rattle.fd_session.proofs.near.bring.Goals as goal

pub pass_to-requires-clause-far : goal.pass_to-requires-clause-far
pass_to-requires-clause-far c = λ k low high. c.requires.near.alike.on k (omega (arith, low, position_near _ _ _ c.requires.near)) high

pub returns-then-at-to : goal.returns-then-at-to
returns-then-at-to c = record {
  place = ap (λ (s : Shown). s.place) c.pass_to.ensures.moved;
  stands = brought_on c.args.table.now c.args.to _ _ c.requires.near
      (omega (arith, c.if-at-to.true, c.position-at.ensures, position_near _ _ _ c.requires.near)) c.pass_to.ensures.moved;
}

pub returns-then-at-to-2 : goal.returns-then-at-to-2
returns-then-at-to-2 c = record {
  place = ap (λ (s : Shown). s.place) c.back_to.ensures;
  stands = brought_back c.args.table.now c.args.to _ _ c.requires.near
      (omega (arith, c.if-at-to-2.true, c.position-at.ensures, position_near _ _ _ c.requires.near)) c.back_to.ensures;
}

-- it stands there
pub returns-else-at-to-2 : goal.returns-else-at-to-2
returns-else-at-to-2 c =
    let there : c.requires.near.at ≡ c.args.to =
    omega (arith, c.if-at-to.false, c.if-at-to-2.false, c.position-at.ensures, position_near _ _ _ c.requires.near) in
    record { place = refl; stands = subst (λ (k : ℕ). Stands false c.args.table.now k c.args.owner.now) there c.requires.near.stands }
