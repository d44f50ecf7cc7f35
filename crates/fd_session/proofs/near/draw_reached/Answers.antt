use Rattle.std.proofs.Common.{◌∙◌, ◌-◌, List, take, ap, inl, inr, refl, arith, get_or}
use Rattle.std.proofs.lemmas.Bool.{cases_lt}
use Rattle.std.specs.Result.{result_unwrap_or}
use Rattle.fd_owner.specs.Shown.{Shown}
use Rattle.fd_session.specs.Held.{places_of, size_of}
use Rattle.fd_session.specs.Near.{StandsNear}
use Rattle.fd_session.proofs.Frames.{count_placed, place_at}
use Rattle.fd_session.proofs.Nearby.{near_at, near_beside, part_of, parts_left}
use Rattle.fd_session.proofs.near.draw_reached.Goals as goal

pub level-requires-clause-near : goal.level-requires-clause-near
level-requires-clause-near g c =
    let taken = c.reached-first.result in
    rw (c.split_at_mut-lanes.ensures.front, c.split_at_mut-above.ensures.back) (part_of taken.first (taken.past - taken.first) c.args.owners.now
    (StandsNear c.args.way.now.table.now c.args.way.now.from) c.requires.near)

pub returns-then-first-past-clause-comes : goal.returns-then-first-past-clause-comes
returns-then-first-past-clause-comes g c =
    let table = c.args.way.now.table.now in
    let owners = c.args.owners.now in
    let way = c.args.way.now in
    let taken = c.reached-first.result in
    let long = count_placed (size_of table) owners c.requires.places in
    record {
      ahead = c.requires.order;
      within = omega arith;
      left = record {
        places = refl;
        each = λ n d below. near_beside table way.from way.to way.to n (get_or owners n d)
            (place_at (size_of table) owners c.requires.places n d (omega (arith, below, long))) c.requires.order (omega arith)
            (c.reached-first.ensures.untouched n below (omega (arith, below, long)) (elim (cases_lt n taken.first) [
              | inl low ↦ inl low
              | inr high ↦ inr (omega (arith, high, c.if-first-past.true))
            ])) (c.requires.near n d below);
      };
    }

pub returns-clause-comes : goal.returns-clause-comes
returns-clause-comes g c =
    let table = c.args.way.now.table.now in
    let owners = c.args.owners.now in
    let way = c.args.way.now in
    let taken = c.reached-first.result in
    let gone = c.go_forward.ensures.comes in
    let drawn = rw c.requires.whole at gone.left in
    let at = result_unwrap_or c.go_forward.result way.from in
    let long = count_placed (size_of table) owners c.requires.places in
    let lent = c.split_at_mut-lanes.ensures.front ∙ ap (λ (l : List Shown). take (taken.past - taken.first) l) c.split_at_mut-above.ensures.back in
    let left = parts_left taken.first (taken.past - taken.first) owners (StandsNear table at) c.go_forward.new.owners
    (omega (arith, c.reached-first.ensures.order)) (record {
      places = gone.left.places ∙ c.level.ensures.left.places ∙ ap places_of lent;
      each = λ n d below. near_at table at (get_or c.go_forward.new.owners n d) (omega (arith, gone.within, c.requires.within)) (drawn.each n d below);
    }) (λ n d below others. near_beside table way.from way.to at n (get_or owners n d)
    (place_at (size_of table) owners c.requires.places n d (omega (arith, below, long))) gone.ahead gone.within
    (c.reached-first.ensures.untouched n below (omega (arith, below, long)) (elim others [
      | inl low ↦ inl low
      | inr high ↦ inr (omega (arith, high, c.reached-first.ensures.order))
    ])) (c.requires.near n d below)) in
    record {
      ahead = gone.ahead;
      within = gone.within;
      left = rw (c.split_at_mut-above.ensures.front, c.split_at_mut-lanes.ensures.back, c.split_at_mut-above.ensures.back) left;
    }
