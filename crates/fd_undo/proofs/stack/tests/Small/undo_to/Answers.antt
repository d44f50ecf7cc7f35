use Rattle.std.proofs.Common.{◌∙◌, ap, drop}
use Rattle.std.proofs.lemmas.List.Elements.{All-take}
use Rattle.fd_tile.specs.Tile.{TileImage}
use Rattle.fd_undo.specs.Undo.{Undo}
use Rattle.fd_undo.proofs.Backs.{all_restored-made, all_restored-deep, all_restored-place}
use Rattle.fd_undo.proofs.Restored.{Inside}
use Rattle.fd_undo.proofs.stack.tests.Small.undo_to.Goals as goal

pub invariant_of-self : goal.invariant_of-self
invariant_of-self c =
    let was = c.args.self.now in
    let frames = was.undo.frames in
    let gone = drop c.args.to frames in
    let place = ap (λ (t : TileImage). t.place) c.undo_to.ensures.tile ∙ all_restored-place gone was.tile in
    let left = ap (λ (u : Undo). u.frames) c.undo_to.ensures.frames in
    record {
      made = ap (λ (t : TileImage). t.made) c.undo_to.ensures.tile ∙ all_restored-made gone was.tile ∙ was.made;
      deep = ap (λ (t : TileImage). t.deep) c.undo_to.ensures.tile ∙ all_restored-deep gone was.tile ∙ was.deep;
      placed = place ∙ was.placed;
      inside = rw (place, left) (All-take (λ frame. Inside was.tile.place frame) c.args.to frames was.inside);
    }
