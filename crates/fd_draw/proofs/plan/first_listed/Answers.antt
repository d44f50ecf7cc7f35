use Rattle.std.proofs.Common.{◌≡◌, ◌≤◌, length, subst, sym, arith}
use Rattle.fd_cover.specs.declared.bounds.Bounds.{Bounds}
use Rattle.fd_events.specs.Bounds.{CoverNone}
use Rattle.fd_events.specs.declared.event.Event.{Event}
use Rattle.fd_events.specs.declared.event.Event.TheVariants.{Draw}
use Rattle.fd_events.specs.Draw.{triangles_of}
use Rattle.fd_draw.specs.Plan.{WritesNothing}
use Rattle.fd_draw.proofs.Nothing.{nothing_unreached}
use Rattle.fd_draw.proofs.Triangles.{undrawn_uncovered}
use Rattle.fd_draw.proofs.plan.first_listed.Goals as goal

pub returns-else-first-triangles-clause-none : goal.returns-else-first-triangles-clause-none
returns-else-first-triangles-clause-none c = λ s.
    let draw = c.in-Draw.draw.now in
    let is : c.args.event.now ≡ Draw draw = rw c.in-Draw.is at c.effect.ensures in
    let ts = triangles_of draw in
    let all : length ts ≤ c.next_listed-first.result = omega (arith, c.if-first-triangles.false, c.triangles.ensures.value) in
    let uncovered = subst (λ (b : Bounds). CoverNone b ts 0 c.next_listed-first.result) c.box_of.ensures c.next_listed-first.ensures.missed in
    let none = undrawn_uncovered ts s c.args.place c.next_listed-first.result all uncovered in
    subst (λ (event : Event). WritesNothing event s c.args.place) (sym is) (nothing_unreached draw s c.args.place none)
