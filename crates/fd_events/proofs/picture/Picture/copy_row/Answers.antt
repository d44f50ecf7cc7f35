use Rattle.std.proofs.Common.{◌≡◌, ℕ, ◌+◌, ◌*◌, ◌<◌, length, drop, ap, sym, ◌∙◌}
use Rattle.std.specs.Prelude.{unwrap_or}
use Rattle.fd_blend.specs.Channel.{fresh}
use Rattle.fd_cover.proofs.WalkLemmas.{columns_from}
use Rattle.fd_events.specs.Picture.{texel, texel_or_none, first_colour, no_colour}
use Rattle.fd_events.proofs.picture.Picture.copy_row.Goals as goal

pub returns-in-Some : goal.returns-in-Some
returns-in-Some c =
    let texels : (k : ℕ) → k < length c.args.out.now → texel c.args.self.now (c.args.x + k) c.args.y ≡ first_colour (drop (4 * k) c.in-Some.bytes.now)
    = rw c.in-Some.is at c.row_bytes.ensures.texels in
    columns_from fresh (λ column. texel_or_none c.args.self.now column c.args.y) c.args.x (length c.args.out.now) _ c.copy_colours.ensures.long
    (λ k d low. c.copy_colours.ensures.colours k d low ∙ sym (ap (λ o. unwrap_or o no_colour) (texels k low)))
