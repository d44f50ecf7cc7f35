use Rattle.std.proofs.Common.{inl, inr, arith, subst}
use Rattle.fd_cover.specs.declared.bounds.Bounds.{Bounds}
use Rattle.fd_owner.specs.Untouched.{Misses}
use Rattle.fd_tile.specs.Grid.{place_of}
use Rattle.fd_session.specs.Held.{size_of}
use Rattle.fd_session.proofs.Nearby.{tile_placed}
use Rattle.fd_session.proofs.near.reached.Goals as goal

pub returns-in_default-clause-untouched : goal.returns-in_default-clause-untouched
returns-in_default-clause-untouched c = λ n below tile others inside. elim others [
  | inl low ↦ absurd (omega (arith, low))
  | inr high ↦ absurd (omega (arith, high, below))
]

pub returns-in-Some-next_tile-clause-untouched : goal.returns-in-Some-next_tile-clause-untouched
returns-in-Some-next_tile-clause-untouched c = λ n below tile others inside.
    let table = c.args.way.now.table.now in
    let place = place_of (size_of table) n in
    c.in-Some.ensures place (tile_placed table n c.round-area.ensures.valid tile) inside
    (subst (λ (box : Bounds). Misses box place) c.round-area.ensures.bounds (elim others [
      | inl low ↦ c.in-Some-next_tile.ensures.missed (size_of table) n c.round-area.ensures.columns (omega arith) below low
      | inr high ↦ c.past_tile.ensures.missed (size_of table) n c.round-area.ensures.columns (omega (arith, high, below, c.clamp.ensures))
    ]))

pub returns-in-None-clause-untouched : goal.returns-in-None-clause-untouched
returns-in-None-clause-untouched c = λ n below tile others inside.
    let table = c.args.way.now.table.now in
    let place = place_of (size_of table) n in
    c.in-Some.ensures place (tile_placed table n c.round-area.ensures.valid tile) inside
    (subst (λ (box : Bounds). Misses box place) c.round-area.ensures.bounds
    (c.in-None.ensures.missed (size_of table) n c.round-area.ensures.columns (omega arith) below tt))
