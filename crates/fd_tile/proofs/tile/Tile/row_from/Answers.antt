use Rattle.std.proofs.lemmas.Grind.{common_steps}
use Rattle.std.proofs.Common.{◌≡◌, ℕ, ◌-◌, ◌∙◌, ap, sym, arith, take, drop, replicate, refl}
use Rattle.std.proofs.lemmas.List.{take-replicate, drop-replicate}
use Rattle.fd_tile.specs.declared.place.Place.{Place}
use Rattle.fd_tile.specs.Place.{HasRow, IsTilePlace}
use Rattle.fd_tile.specs.Tile.{flat_over, row_in}
use Rattle.fd_tile.proofs.Cut.{FillsPlace-flat}
use Rattle.fd_tile.proofs.Pixels.{row_in-flat, HasRow-from_Holds}
use Rattle.fd_tile.proofs.Rows.{IsFlat-replicate}
use Rattle.fd_tile.proofs.tile.Tile.row_from.Goals as goal

-- a row of one value, from a column on
part_of-flat : {X : Type 0} (p : Place) (y n : ℕ) (value : X) → IsTilePlace p → HasRow p y
    → take (p.width - n) (drop n (replicate 32 value)) ≡ drop n (row_in p (flat_over p value) y)
part_of-flat p y n value placed crossed =
    ap (take (p.width - n)) (drop-replicate n 32 value)
    ∙ take-replicate (p.width - n) (32 - n) value (omega (arith, placed.at_most_wide))
    ∙ sym (drop-replicate n p.width value)
    ∙ ap (drop n) (sym (row_in-flat p (flat_over p value) y (FillsPlace-flat p value placed) crossed value (IsFlat-replicate p value (flat_over p value) refl)))

pub returns-else-self : goal.returns-else-self
returns-else-self c =
    let t = c.self.inside in
    let crossed = HasRow-from_Holds t.place c.args.x c.args.y (rw (← c.self.view_is) at c.requires) in
    let part = part_of-flat t.place c.args.y (c.args.x - t.place.left) c.unwrap_or-alike.result c.self.invariant.placed crossed in
    grind (arith, common_steps, part)
