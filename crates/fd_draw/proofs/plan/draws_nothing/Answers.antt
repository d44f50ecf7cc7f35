use Rattle.std.proofs.Common.{◌≡◌, length, sym, subst}
use Rattle.fd_events.specs.declared.event.Event.{Event}
use Rattle.fd_events.specs.declared.event.Event.TheVariants.{Draw}
use Rattle.fd_events.specs.Draw.{triangles_of}
use Rattle.fd_draw.specs.Plan.{AreUnreached, WritesNothing}
use Rattle.fd_draw.proofs.Nothing.{nothing_unreached, nothing_passes}
use Rattle.fd_draw.proofs.Triangles.{unreached_closed, unreached_culled, unreached_cut_off}
use Rattle.fd_draw.proofs.plan.draws_nothing.Goals as goal

-- no depth passes the test
pub returns-then-is_shut : goal.returns-then-is_shut
returns-then-is_shut c = λ _.
    let draw = c.in-Draw.draw.now in
    let is : c.args.event.now ≡ Draw draw = rw c.in-Draw.is at c.effect.ensures in
    let state = c.args.state.now in
    let place = c.args.place in
    let shut = c.is_shut.ensures c.if-is_shut.true in
    subst (λ (event : Event). WritesNothing event state place) (sym is) (nothing_passes draw state place shut.0 shut.1)

-- every triangle is culled
pub returns-then-is_culled : goal.returns-then-is_culled
returns-then-is_culled c = λ _.
    let draw = c.in-Draw.draw.now in
    let is : c.args.event.now ≡ Draw draw = rw c.in-Draw.is at c.effect.ensures in
    let ts = triangles_of draw in
    let state = c.args.state.now in
    let place = c.args.place in
    let nowhere : AreUnreached ts state place 0 (length ts) = unreached_culled ts state place (c.is_culled.ensures c.if-is_culled.true) in
    subst (λ (event : Event). WritesNothing event state place) (sym is) (nothing_unreached draw state place nowhere)

-- the scissor leaves nothing
pub returns-then-is_cut_off : goal.returns-then-is_cut_off
returns-then-is_cut_off c = λ _.
    let draw = c.in-Draw.draw.now in
    let is : c.args.event.now ≡ Draw draw = rw c.in-Draw.is at c.effect.ensures in
    let ts = triangles_of draw in
    let state = c.args.state.now in
    let place = c.args.place in
    let nowhere : AreUnreached ts state place 0 (length ts) = unreached_cut_off ts state place (c.is_cut_off.ensures c.if-is_cut_off.true) in
    subst (λ (event : Event). WritesNothing event state place) (sym is) (nothing_unreached draw state place nowhere)

-- the scissor leaves nothing, or the picture lies elsewhere
pub returns-else-is_cut_off : goal.returns-else-is_cut_off
returns-else-is_cut_off c = λ empty.
    let draw = c.in-Draw.draw.now in
    let is : c.args.event.now ≡ Draw draw = rw c.in-Draw.is at c.effect.ensures in
    let ts = triangles_of draw in
    let state = c.args.state.now in
    let place = c.args.place in
    let nowhere : AreUnreached ts state place 0 (length ts) = unreached_closed draw state place c.window_of.result c.window_of.ensures.window
    (rw c.is_empty.ensures at empty) in
    subst (λ (event : Event). WritesNothing event state place) (sym is) (nothing_unreached draw state place nowhere)
