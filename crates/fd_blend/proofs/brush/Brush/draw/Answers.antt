use Rattle.std.proofs.Common.{rules, length, replicate, ap, sym, ◌∙◌}
use Rattle.fd_blend.specs.Blend.{replaces}
use Rattle.fd_blend.specs.Brush.{Stroke}
use Rattle.fd_blend.proofs.BrushLemmas.{all_replaced}
use Rattle.fd_blend.proofs.brush.Brush.draw.Goals as goal

pub returns-then-replaces : goal.returns-then-replaces
returns-then-replaces c =
    let stroke = c.args.self.now in
    let whole = ap (λ (s : Stroke). replaces s.state) (sym c.self.view_is) ∙ sym c.replaces.ensures ∙ c.if-replaces.true in
    c.fill.ensures.after (λ y clone. search rules)
    ∙ ap (λ (s : Stroke). replicate (length c.args.dst.now) s.source) c.self.view_is
    ∙ all_replaced stroke.state stroke.factor stroke.source c.args.dst.now whole
