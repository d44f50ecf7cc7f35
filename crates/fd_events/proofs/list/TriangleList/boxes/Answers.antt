use Rattle.std.proofs.Common.{◌≡◌, ◌++◌, ◌∷◌, [], List, length, ◌∙◌, sym, subst, ap, arith}
use Rattle.std.proofs.lemmas.List.{length_push}
use Rattle.fd_cover.specs.declared.bounds.Bounds.{Bounds}
use Rattle.fd_events.specs.Bounds.{IsTriangleBox, AreTriangleBoxes}
use Rattle.fd_events.specs.Draw.{triangles_of}
use Rattle.fd_events.proofs.BoundsLemmas.{each_box, IsTriangleBox-own}
use Rattle.fd_events.proofs.list.TriangleList.boxes.Goals as goal

pub loop-triangle-preserved : goal.loop-triangle-preserved
loop-triangle-preserved c =
    let ts = triangles_of c.args.self.now in
    let boxes = c.loop-triangle.boxes.items in
    let i = c.loop-triangle.triangle in
    let own = IsTriangleBox-own ts i c.tri.result c.of.result c.tri.ensures c.of.ensures.value c.of.ensures.covered in
    let all : AreTriangleBoxes (boxes ++ c.of.result ∷ []) ts = each_box (λ box number. IsTriangleBox box number ts) boxes i
    c.of.result c.loop-triangle.invariant.0 c.loop-triangle.invariant.1 own in
    let items : c.push.new.list.items ≡ boxes ++ c.of.result ∷ [] = c.in_ok-push.ensures.items in (
      ap length items ∙ length_push boxes c.of.result ∙ omega (arith, c.loop-triangle.invariant.0),
      subst (λ (bs : List Bounds). AreTriangleBoxes bs ts)
          (sym items) all,
    )
