use Rattle.std.proofs.Common.{ℕ, ◌-◌, ◌<◌, List, [], ◌∷◌, ◌++◌, length, ap, arith}
use Rattle.std.specs.Prelude.{All}
use Rattle.std.specs.List.{zip}
use Rattle.std.proofs.lemmas.List.Elements.{All-append, All-cons, All-nil, All-take}
use Rattle.fd_tile.specs.declared.place.Place.{Place}
use Rattle.fd_tile.specs.Place.{Holds}
use Rattle.fd_undo.specs.Frame.{KeptPixel, older, top}
use Rattle.fd_undo.specs.Undo.{Undo}
use Rattle.fd_undo.proofs.FrameLemmas.{length-zip_equal}
use Rattle.fd_undo.proofs.Restored.{Inside, kept_row-inside}
use Rattle.fd_undo.proofs.stack.tests.Small.keep.Goals as goal

top-inside : (p : Place) (frames : List (List KeptPixel)) → All (λ frame. Inside p frame) frames → Inside p (top frames)
top-inside p [] inside = All-nil (λ (k : KeptPixel). Holds p k.x k.y)
top-inside p (f ∷ frames) inside = inside (length (f ∷ frames) - 1) [] (omega arith)

-- so do all frames, of which the last keeps more
more-inside : (p : Place) (frames : List (List KeptPixel)) (kept : List KeptPixel) → All (λ frame. Inside p frame) frames → Inside p kept
    → All (λ frame. Inside p frame) (older frames ++ (top frames ++ kept) ∷ [])
more-inside p frames kept inside here =
    let last = All-append (λ (k : KeptPixel). Holds p k.x k.y) (top frames) kept (top-inside p frames inside) here in
    All-append (λ (frame : List KeptPixel). Inside p frame) (older frames) ((top frames ++ kept) ∷ [])
    (All-take (λ (frame : List KeptPixel). Inside p frame) (length frames - 1) frames inside)
    (All-cons (λ (frame : List KeptPixel). Inside p frame) (top frames ++ kept) [] last (All-nil (λ (frame : List KeptPixel). Inside p frame)))

pub invariant_of-self : goal.invariant_of-self
invariant_of-self c =
    let was = c.args.self.now in
    let row = kept_row-inside was.tile.place c.args.x c.args.y (zip c.args.old.now c.args.depths.now) (grind (arith, was.placed)) (grind (arith, was.placed))
    (grind (arith, was.placed, length-zip_equal)) in
    record {
      made = was.made;
      deep = was.deep;
      placed = was.placed;
      inside = rw (ap (λ (u : Undo). u.frames) c.keep.ensures) (more-inside was.tile.place was.undo.frames _ was.inside row);
    }
