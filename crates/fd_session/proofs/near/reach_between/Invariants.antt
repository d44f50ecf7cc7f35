use Rattle.fd_tile.specs.declared.place.Place.{Place}
use Rattle.fd_tile.specs.Place.{IsTilePlace}
use Rattle.fd_owner.specs.Shown.{IsInside}
use Rattle.fd_owner.specs.Untouched.{AreUntouched, Misses}
use Rattle.fd_session.proofs.near.reach_between.Given as goal

abbrev pub invariant-loop-at : goal.invariant-loop-at
invariant-loop-at l =
    (place : Place) → IsTilePlace place → IsInside place l.table → Misses l.bounds place → AreUntouched l.table l.fn.from l.at place
