use Rattle.std.proofs.Common.{ℕ, ◌-◌, ◌+◌, ◌∙◌, ap, sym, length, map}
use Rattle.std.specs.List.{range_with_len}
use Rattle.std.proofs.lemmas.List.FromFn.{length-map-range_with_len}
use Rattle.fd_blend.specs.declared.channel.Colour.{Colour}
use Rattle.fd_events.specs.Image.{colour_at}
use Rattle.fd_session.proofs.Showing.{row_shows}
use Rattle.fd_session.proofs.frame.Frame.row_from.Goals as goal

pub returns-clause-colours : goal.returns-clause-colours
returns-clause-colours c = λ table k each.
    let owner = c.owner_of.result.now in
    let shown : ℕ → Colour = λ column. colour_at table k column c.args.y in
    let part = row_shows table k owner c.args.x c.args.y (c.owner_of.ensures.shows table k each) c.owner_of.ensures.holds
    c.row_from.result.items c.row_from.ensures.value in
    let long = ap length part ∙ length-map-range_with_len shown c.args.x (owner.place.left + owner.place.width - c.args.x) in
    part ∙ ap (λ (n : ℕ). map shown (range_with_len c.args.x n)) (sym long)
