-- Working. Neighbouring pixels of a row that were tested.
use Rattle.std.specs.Prelude.{◌≡◌, ℕ, ◌+◌, ◌-◌, ◌<◌, ◌≤◌, ◌^◌, true, List, length, slice_index_or}
use Rattle.fd_events.specs.Image.{depth_of as source_depth, is_drawn}
use Rattle.fd_tile.specs.Tile.{TileImage, depth_in}
use Rattle.fd_draw.specs.declared.primitive.Primitive.{Primitive}
use Rattle.fd_draw.specs.declared.run.Run.{Run}
use Rattle.fd_draw.specs.declared.tested.Tested.{Tested}
use Rattle.fd_draw.specs.Mask.{has_bit}
use Rattle.fd_draw.specs.Primitive.{CoversRun, triangle_of}
use Rattle.fd_draw.specs.Run.{EachColumn}

-- a triangle has these depths at the pixels of a run, where the depth test is on
abbrev pub AreDepths : Primitive → Run → List ℕ → Type 0
AreDepths p run depths = p.state.depth.enable ≡ true
    → EachColumn run (λ column. slice_index_or depths (column - run.left) 65535 ≡ source_depth (triangle_of p) column run.y)

-- a triangle covers the pixels of a run, of each of which there is a depth, and a bit that tells whether it is drawn
pub record AreTested (p : Primitive) (run : Run) (t : TileImage) (tested : Tested) : Type 0 where
  pub size : length tested.depths.now ≡ run.right - run.left
  pub few : run.right ≤ run.left + 32
  pub bound : tested.passed < 2 ^ 32
  pub covered : CoversRun p run
  pub depths : AreDepths p run tested.depths.now
  pub passed : EachColumn run
      (λ column. has_bit tested.passed (column - run.left) ≡ is_drawn (triangle_of p) p.state column run.y (depth_in t column run.y))
