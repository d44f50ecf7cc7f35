use Rattle.std.proofs.Common.{◌≡◌, ℕ, ◌+◌, ◌-◌, inl, inr, arith, subst}
use Rattle.std.proofs.lemmas.Bool.{cases_lt}
use Rattle.fd_owner.specs.Untouched.{IsUntouched}
use Rattle.fd_session.proofs.Nearby.{missed_first, missed_second, missed_place}
use Rattle.fd_session.proofs.near.reach_between.Goals as goal

pub loop-at-init : goal.loop-at-init
loop-at-init c = λ place tile inside misses k low high. absurd (omega (arith, low, high))

pub loop-at-preserved : goal.loop-at-preserved
loop-at-preserved c = λ place tile inside misses k low high.
    let table = c.args.table.now in
    let number = c.loop-at.at + 1 in
    elim (cases_lt k c.loop-at.at) [
      | inl before ↦
          c.loop-at.invariant place tile inside
          (missed_first c.join-bounds.result c.loop-at.bounds c.reach.result c.join-bounds.ensures.both place misses) k low before
      | inr there ↦
          let same : number - 1 ≡ k = omega (arith, there, high) in
          subst (λ (i : ℕ). IsUntouched table i place) same
          (missed_place table number (omega arith) (omega (arith, c.requires.within)) c.reach.result c.reach.ensures.value place tile inside
          (missed_second c.join-bounds.result c.loop-at.bounds c.reach.result c.join-bounds.ensures.both place misses))
    ]
