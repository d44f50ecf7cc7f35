use Rattle.std.proofs.Common.{◌≡◌, Option, false, sym, ap, subst, ◌∙◌}
use Rattle.std.specs.Prelude.{IfSome}
use Rattle.fd_tile.specs.Tile.{Pixel, TileImage}
use Rattle.fd_undo.specs.SpanSlices.{kept_in_slices}
use Rattle.fd_undo.proofs.Pixelwise.{kept_at-fit}
use Rattle.fd_undo.proofs.restore.put_alike.Goals as goal

pub fill_depths-requires : goal.fill_depths-requires
fill_depths-requires c not =
    let p = c.place-place.result in
    let shallow : c.args.tile.now.deep ≡ false = sym (ap (λ (t : TileImage). t.deep) c.fill_colours.ensures) ∙ not in
    let one = kept_at-fit (kept_in_slices c.args.slices) p.left p.top 0 (c.requires.depths.greatest shallow) in
    subst (λ (r : Option Pixel). IfSome r (λ pixel. pixel.1 ≡ 65535)) (sym c.kept_in.ensures ∙ c.in-Some.is) one
