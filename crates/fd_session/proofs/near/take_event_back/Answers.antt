use Rattle.std.proofs.Common.{◌∙◌, ◌-◌, get_or, arith, rules, subst}
use Rattle.fd_cover.specs.declared.bounds.Bounds.{Bounds}
use Rattle.fd_owner.specs.Untouched.{Misses}
use Rattle.fd_tile.specs.Grid.{place_of}
use Rattle.fd_session.specs.Held.{size_of}
use Rattle.fd_session.specs.Near.{StandsNear}
use Rattle.fd_session.proofs.Frames.{count_placed}
use Rattle.fd_session.proofs.Nearby.{few_tiles, places_set, passed_back, between_next, between_end}
use Rattle.fd_session.proofs.near.take_event_back.Goals as goal

pub next_tile-requires-clause-low : goal.next_tile-requires-clause-low
next_tile-requires-clause-low c =
    let few = few_tiles c.args.table.now c.round-area.ensures.valid in
    omega (arith, few, c.loop-n.invariant.low, count_placed (size_of c.args.table.now) c.loop-n.owners (c.loop-n.invariant.places ∙ c.requires.places))

pub loop-n-preserved : goal.loop-n-preserved
loop-n-preserved c =
    let table = c.args.table.now in
    let number = c.args.number in
    let owners = c.loop-n.owners in
    let n = c.in-Some.n in
    let d = c.index-owners-n.result in
    let places = c.loop-n.invariant.places ∙ c.requires.places in
    let before : StandsNear table number (get_or owners n d) = c.loop-n.invariant.stand.ahead n d c.in-Some.ensures.within.0 c.in-Some.ensures.within.1
    (search rules) in
    record {
      low = search rules;
      places = places_set owners n d c.retreat.new.owner c.retreat.ensures.place ∙ c.loop-n.invariant.places;
      stand = between_next (StandsNear table number) (StandsNear table (number - 1)) c.loop-n.from c.args.past owners n c.retreat.new.owner
          c.in-Some.ensures.within.0 c.in-Some.ensures.within.1 (search rules)
          (c.retreat.ensures.near table number (omega arith) before)
          (λ m d low high inside near. passed_back table number c.requires.first c.requires.last c.reach.result c.reach.ensures.value c.round-area.ensures.valid
          owners places m d inside
          (subst (λ (box : Bounds). Misses box (place_of (size_of table) m)) c.round-area.ensures.bounds
          (c.in-Some.ensures.missed (size_of table) m c.round-area.ensures.columns low (omega (arith, high, c.in-Some.ensures.within.1)) high)) near)
          c.loop-n.invariant.stand;
    }

pub returns : goal.returns
returns c =
    let table = c.args.table.now in
    let number = c.args.number in
    let owners = c.loop-n.owners in
    let places = c.loop-n.invariant.places ∙ c.requires.places in
    record {
      left = record {
        places = c.loop-n.invariant.places;
        each = between_end (StandsNear table number) (StandsNear table (number - 1)) c.loop-n.from c.args.past owners c.loop-n.invariant.stand
            (λ m d low high inside near. passed_back table number c.requires.first c.requires.last c.reach.result c.reach.ensures.value
            c.round-area.ensures.valid owners places m d inside
            (subst (λ (box : Bounds). Misses box (place_of (size_of table) m)) c.round-area.ensures.bounds
            (c.in_default.ensures.missed (size_of table) m c.round-area.ensures.columns low high tt)) near);
      };
    }
