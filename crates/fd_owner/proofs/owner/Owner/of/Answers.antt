use Rattle.std.proofs.Common.{◌∙◌, sym, ap, arith}
use Rattle.std.proofs.lemmas.List.Elements.{All-nil}
use Rattle.fd_tile.specs.Tile.{fresh_pixel, pixels_of}
use Rattle.fd_undo.specs.Frame.{all_restored, IsAlike, FitDepths}
use Rattle.fd_undo.specs.Undo.{Undo}
use Rattle.fd_undo.proofs.Restored.{Inside}
use Rattle.fd_owner.proofs.Pictures.{pixels_alike}
use Rattle.fd_owner.proofs.owner.Owner.of.Goals as goal

pub invariant_of-result : goal.invariant_of-result
invariant_of-result c =
    let t = c.args.tile in (
      rw (c.tell_opening.ensures, c.new-undo.ensures) (record {
        inside = All-nil (λ frame. Inside t.place frame);
        depths = All-nil (λ frame. FitDepths t.deep frame);
        alike = λ _. All-nil (λ frame. IsAlike t.place frame);
        fits = omega arith;
      }),
      λ yes. let told = sym (ap (λ (v : Undo). v.opens_fresh) c.tell_opening.ensures) ∙ yes in
          ap (λ (v : Undo). pixels_of (all_restored v.frames t))
          (c.tell_opening.ensures ∙ ap (λ (v : Undo). record v { opens_fresh = c.is_fresh.result }) c.new-undo.ensures)
          ∙ pixels_alike t fresh_pixel c.place-place.ensures.filled (c.is_fresh.ensures.colours told) (c.is_fresh.ensures.depths told),
    )
