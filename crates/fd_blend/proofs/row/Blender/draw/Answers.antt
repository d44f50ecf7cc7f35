use Rattle.std.proofs.Common.{ap, sym, ◌∙◌}
use Rattle.fd_blend.specs.Blend.{replaces}
use Rattle.fd_blend.specs.Row.{Blended}
use Rattle.fd_blend.proofs.RowLemmas.{blended_row-replaced}
use Rattle.fd_blend.proofs.row.Blender.draw.Goals as goal

pub returns-then-replaces : goal.returns-then-replaces
returns-then-replaces c =
    let blended = c.args.self.now in
    let whole = ap (λ (b : Blended). replaces b.state) (sym c.self.view_is) ∙ sym c.replaces.ensures ∙ c.if-replaces.true in
    c.copy_from_slice.ensures.after
    ∙ sym (blended_row-replaced blended.state blended.factor c.args.src.now c.args.dst.now whole c.requires)
