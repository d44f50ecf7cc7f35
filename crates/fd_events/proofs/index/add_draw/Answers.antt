use Rattle.std.proofs.Common.{◌≡◌, ◌∙◌, inl, inr, arith}
use Rattle.std.proofs.lemmas.Bool.{cases_lt}
use Rattle.fd_events.specs.Draw.{triangles_of}
use Rattle.fd_events.proofs.CellLemmas.{Grow-then}
use Rattle.fd_events.proofs.CellGridLemmas.{corners_there, box_holds}
use Rattle.fd_events.proofs.IndexLemmas.{ListsPixel-grown}
use Rattle.fd_events.proofs.index.add_draw.Goals as goal

pub returns-then-reached-most-clause-listed : goal.returns-then-reached-most-clause-listed
returns-then-reached-most-clause-listed c =
    let wide = c.in_ok-add_wide.ensures.listed in
    (Grow-then c.args.number _ _ _ c.loop-triangle.invariant.grown wide.0, λ i t below at x y covered has. inr wide.1)

pub add-requires-clause-covered : goal.add-requires-clause-covered
add-requires-clause-covered c =
    box_holds (triangles_of c.args.draw.now) c.loop-triangle.triangle c.triangle_bounds-bounds.result c.tri.result c.triangle_bounds-bounds.ensures
    c.tri.ensures

pub loop-triangle-preserved : goal.loop-triangle-preserved
loop-triangle-preserved c =
    let inv = c.loop-triangle.invariant in
    let ts = triangles_of c.args.draw.now in
    let more = c.in_ok-add.ensures.listed in
    record {
      all = more.0.same ∙ inv.all;
      grown = Grow-then c.args.number _ _ _ inv.grown more.0;
      listed = λ i t below at x y covered. elim (cases_lt i c.loop-triangle.triangle) [
        | inl before ↦ ListsPixel-grown c.args.grid _ _ c.args.number c.args.number x y more.0 (inv.listed i t before at x y covered)
        | inr after ↦
            let same : i ≡ c.loop-triangle.triangle = omega (arith, after, below) in
            let its = corners_there ts c.loop-triangle.triangle t c.tri.result (rw same at at) c.tri.ensures in
            λ has. inl (more.1 x y (rw its at covered) has)
      ];
    }
