use Rattle.std.proofs.Common.{◌≡◌, ℕ, Bool, true, arith, rules, subst}
use Rattle.fd_tile.specs.Grid.{tile_count}
use Rattle.fd_session.specs.Held.{places_of, first_places}
use Rattle.fd_session.proofs.Frames.{one_more, held_at}
use Rattle.fd_session.proofs.frame.owners_of.Goals as goal

pub loop-number-preserved : goal.loop-number-preserved
loop-number-preserved c =
    let loop = c.loop-number in
    let more = λ (forgets : Bool). one_more forgets c.args.table.now c.unwrap-grid.result _ _ _ _ _ (search rules) loop.invariant.places
    (loop.invariant.stand forgets) c.place.ensures.place c.place.ensures.inside c.blank-tile.ensures c.of.ensures in
    rw c.in_ok-push.ensures.items (record { places = (more true).0; stand = λ forgets. (more forgets).1 })

pub returns-clause-opened : goal.returns-clause-opened
returns-clause-opened c = λ forgets.
    let grid = c.unwrap-grid.result in
    let owners = c.loop-number.owners.items in
    let whole : c.loop-number.number ≡ tile_count grid = omega (arith, c.count-number-end.ensures, c.loop-number-test.false, c.loop-number.auto.number-end) in
    held_at forgets c.args.table.now grid c.width.ensures.table (search rules) owners 0
    (subst (λ (n : ℕ). places_of owners ≡ first_places grid n) whole c.loop-number.invariant.places) (c.loop-number.invariant.stand forgets) (omega arith)
