use Rattle.std.proofs.Common.{◌∙◌, ap, sym, subst}
use Rattle.fd_blend.specs.Brush.{Stroke}
use Rattle.fd_blend.specs.Row.{drawn_row}
use Rattle.fd_cover.specs.declared.shading.Interp.{Interp}
use Rattle.fd_draw.specs.declared.primitive.Ink.{Ink}
use Rattle.fd_draw.specs.Primitive.{IsInk, picture_of, triangle_of}
use Rattle.fd_draw.specs.Row.{changed_row}
use Rattle.fd_draw.specs.Written.{colour_blended}
use Rattle.fd_draw.proofs.Rows.{drawn_columns}
use Rattle.fd_draw.proofs.write.blend_triangle.Goals as goal

pub returns-in-One : goal.returns-in-One
returns-in-One c =
    let p = c.args.primitive.now in
    let t = triangle_of p in
    let row = c.args.row.now in
    let ink = subst (λ (i : Ink). IsInk p.corners p.colours p.interp (picture_of p) p.state i) c.in-One.is c.requires.ready.ink in
    c.draw.ensures
    ∙ ap (λ (b : Stroke). drawn_row b.state b.factor b.source row) ink.1.1
    ∙ drawn_columns t p.state c.args.x c.args.y row ink.1.0
    ∙ ap (λ (interp : Interp). changed_row (λ column before. colour_blended t interp p.state column c.args.y before) c.args.x row) (sym ink.0)
