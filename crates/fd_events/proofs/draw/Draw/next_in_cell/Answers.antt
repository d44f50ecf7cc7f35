use Rattle.std.proofs.Common.{sym, subst}
use Rattle.std.proofs.lemmas.Bool.{false_from_ne_true}
use Rattle.fd_cover.specs.Covers.{covers}
use Rattle.fd_events.specs.declared.finder.Finder.{Finder}
use Rattle.fd_events.specs.Cells.{ListTriangles}
use Rattle.fd_events.specs.Draw.{DrawList, triangles_of}
use Rattle.fd_events.specs.Finder.{Finds}
use Rattle.fd_events.proofs.draw.Draw.next_in_cell.Goals as goal

pub returns-in-Some-cells-clause-missed : goal.returns-in-Some-cells-clause-missed
returns-in-Some-cells-clause-missed c = λ i t from to at x y within.
    let kept : Finds c.in-Some.finder.value (triangles_of c.self.inside.list) = rw c.in-Some.is at c.self.invariant in
    let shown : Finds c.in-Some.finder.value (triangles_of c.args.self.now) = subst (λ (d : DrawList). Finds c.in-Some.finder.value (triangles_of d))
    c.self.view_is kept in
    let finds : Finds c.deref.result.now (triangles_of c.args.self.now) = subst (λ (finder : Finder). Finds finder (triangles_of c.args.self.now))
    (sym c.deref.ensures) shown in
    let all : ListTriangles c.in-Some-cells.cells (triangles_of c.args.self.now) = rw c.in-Some-cells.is at finds.cells in
    let missed = c.next.ensures.missed i x y from to within in
    false_from_ne_true (covers t.corners x y) (λ covered. missed.1 (all.listed i t x y at covered missed.0))
