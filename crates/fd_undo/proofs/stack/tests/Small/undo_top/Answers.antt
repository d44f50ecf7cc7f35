use Rattle.std.proofs.Common.{◌-◌, ◌∙◌, ap, length}
use Rattle.std.proofs.lemmas.List.Elements.{All-take}
use Rattle.fd_tile.specs.Tile.{TileImage}
use Rattle.fd_undo.specs.Frame.{top}
use Rattle.fd_undo.specs.Undo.{Undo}
use Rattle.fd_undo.proofs.Restored.{Inside, restored-made, restored-deep, restored-place}
use Rattle.fd_undo.proofs.stack.tests.Small.undo_top.Goals as goal

pub invariant_of-self : goal.invariant_of-self
invariant_of-self c =
    let was = c.args.self.now in
    let frames = was.undo.frames in
    let place = ap (λ (t : TileImage). t.place) c.undo_top.ensures.tile ∙ restored-place (top frames) was.tile in
    let left = ap (λ (u : Undo). u.frames) c.undo_top.ensures.frames in
    record {
      made = ap (λ (t : TileImage). t.made) c.undo_top.ensures.tile ∙ restored-made (top frames) was.tile ∙ was.made;
      deep = ap (λ (t : TileImage). t.deep) c.undo_top.ensures.tile ∙ restored-deep (top frames) was.tile ∙ was.deep;
      placed = place ∙ was.placed;
      inside = rw (place, left) (All-take (λ frame. Inside was.tile.place frame) (length frames - 1) frames was.inside);
    }
