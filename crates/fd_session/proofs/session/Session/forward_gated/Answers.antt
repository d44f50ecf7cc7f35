use Rattle.std.proofs.Common.{◌≡◌, ℕ, ◌∙◌, ap, length, arith, false}
use Rattle.std.specs.Result.{result_unwrap_or}
use Rattle.fd_frame.specs.State.{State}
use Rattle.fd_tile.specs.Grid.{tile_count}
use Rattle.fd_session.proofs.Frames.{count_placed, places_given, given_whole}
use Rattle.fd_session.proofs.Gated.{passed_tiles}
use Rattle.fd_session.proofs.session.Session.forward_gated.Goals as goal

pub returns-clause-passed : goal.returns-clause-passed
returns-clause-passed g c tile event within above under =
    let held = c.self.invariant.0 in
    let inside = c.self.inside in
    let moved = c.go_forward-run in
    let lent : c.deref_mut-2.result.now ≡ c.level.new.owners = c.deref_mut-2.ensures.value
    ∙ given_whole inside.frame.grid inside.frame.owners.items c.deref_mut.result.now c.level.new.owners inside.frame.owners.len
    c.deref_mut.ensures.value inside.frame.owners.ok.0 held.places c.level.ensures.left.places in
    let places = places_given inside.frame.grid inside.frame.owners.items c.deref_mut.result.now c.level.new.owners inside.frame.owners.len
    c.deref_mut.ensures.value inside.frame.owners.ok.0 held.places c.level.ensures.left.places in
    let count : State → ℕ = λ s. tile_count (record { width = s.table.width; height = s.table.height }) in
    let many : length c.deref_mut-2.result.now ≡ count c.args.self.now = ap length lent ∙ count_placed inside.frame.grid c.level.new.owners places
    ∙ ap tile_count held.sized ∙ ap count c.self.view_is in
    let from : inside.position ≡ c.args.self.now.position = ap (λ (s : State). s.position) c.self.view_is in
    let left = rw (c.drive-drive.ensures.policy, c.of-way.ensures.table) at moved.ensures.comes.left in
    passed_tiles false inside.frame.table (g.G.Gate.opened c.args.gate.now) c.deref_mut-2.result.now moved.new.owners c.of-way.result.from
    (result_unwrap_or moved.result c.of-way.result.from) tile event (rw c.drive-drive.ensures.gate at moved.ensures.passed)
    (rw lent (rw c.of-way.ensures.table at c.level.ensures.left.each))
    left.each (omega (arith, within, many)) (omega (arith, above, from, c.of-way.ensures.from)) (omega (arith, under, c.unwrap_or-self-inside.ensures))
