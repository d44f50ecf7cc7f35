-- A canvas that has passed through several calls.
use Rattle.std.proofs.Common.{refl, ◌∙◌, ◌≡◌}
use Rattle.fd_draw.specs.declared.canvas.Canvas.{Canvas}
use Rattle.fd_events.specs.declared.pipeline.Pipeline.{Pipeline}
use Rattle.fd_tile.specs.Tile.{TileImage}
use Rattle.fd_draw.specs.Writing.{IsLentAs, HasDepths}

-- depths that have a place on a tile have one after it was drawn on
pub depths_on : (s : Pipeline) (t t' : TileImage) → t'.deep ≡ t.deep → HasDepths s t → HasDepths s t'
depths_on s t t' same has = record { deep = λ on written. same ∙ has.deep on written }

pub lent_same : (c : Canvas) → IsLentAs c c
lent_same c = record { tile = refl; undo = refl }

pub lent_on : {c c' c'' : Canvas} → IsLentAs c c' → IsLentAs c' c'' → IsLentAs c c''
lent_on first second = record { tile = second.tile ∙ first.tile; undo = second.undo ∙ first.undo }
