use Rattle.std.proofs.Common.{◌≡◌, ◌∙◌, sym, ap, subst, Some, slice_get}
use Rattle.std.proofs.lemmas.Option.{slice_get-get_or}
use Rattle.fd_cover.specs.declared.bounds.Bounds.{Bounds}
use Rattle.fd_events.specs.Bounds.{IsTriangleBox}
use Rattle.fd_events.specs.declared.finder.Finder.{Finder}
use Rattle.fd_events.specs.Draw.{DrawList, triangles_of}
use Rattle.fd_events.specs.Finder.{Finds}
use Rattle.fd_events.proofs.draw.Draw.kept_bounds.Goals as goal

pub returns-in-Some-get : goal.returns-in-Some-get
returns-in-Some-get c =
    let kept : Finds c.in-Some.finder.value (triangles_of c.self.inside.list) = rw c.in-Some.is at c.self.invariant in
    let finds : Finds c.deref.result.now (triangles_of c.self.inside.list) = subst (λ (finder : Finder). Finds finder (triangles_of c.self.inside.list))
    (sym c.deref.ensures) kept in
    let lookup = c.in-Some-get.ensures.lookup in
    let at : slice_get c.deref.result.now.boxes.items c.args.triangle ≡ Some c.in-Some-get.bounds.now =
    ap (λ bs. slice_get bs c.args.triangle) (sym c.deref-in-Some.ensures.value)
    ∙ slice_get-get_or c.deref-in-Some.result.now c.args.triangle c.in-Some-get.bounds.now lookup.3.0 ∙ ap (λ (b : Bounds). Some b) (sym lookup.1) in
    subst (λ (d : DrawList). IsTriangleBox c.in-Some-get.bounds.now c.args.triangle (triangles_of d)) c.self.view_is
    (finds.boxes c.args.triangle c.in-Some-get.bounds.now at)
