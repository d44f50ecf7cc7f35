use Rattle.std.proofs.Common.{◌∙◌, Option, sym, ap, refl}
use Rattle.fd_events.specs.Picture.{Painting}
use Rattle.fd_events.proofs.Triangles.{triangle_with}
use Rattle.fd_draw.specs.Demand.{is_tested}
use Rattle.fd_draw.proofs.Triangles.{triangle_found}
use Rattle.fd_draw.proofs.primitive.Primitive.of.Goals as goal

pub returns : goal.returns
returns c =
    let corners = c.tri-corners in
    let colours = c.colours-colours in
    let depths = c.depths-depths in
    record {
      ready = record {
        ink = c.ink_of.ensures;
        deep = c.depth_rows_of.ensures.tested;
        flat = c.depth_rows_of.ensures.untested;
        tested = c.is_tested.ensures.tested ∙ ap (is_tested c.args.state.now) (sym c.picture-picture.ensures);
        filled = λ no x y on. rw c.picture-picture.ensures (c.is_tested.ensures.filled no x y (rw c.picture-picture.ensures at on));
      };
      triangle = sym (triangle_found c.args.draw.now c.args.triangle corners.result colours.result depths.result corners.ensures colours.ensures depths.ensures
          ∙ ap (λ (picture : Option Painting). triangle_with corners.result colours.result depths.result picture) (sym c.picture-picture.ensures));
      interp = c.interp-interp.ensures;
      state = refl;
    }
