use Rattle.std.proofs.Common.{◌∙◌, ℕ, ap, rules, length, map}
use Rattle.std.specs.List.{range_with_len}
use Rattle.fd_blend.specs.Row.{Blended, blended_row}
use Rattle.fd_events.specs.Image.{source_of}
use Rattle.fd_draw.specs.Primitive.{triangle_of}
use Rattle.fd_draw.proofs.Rows.{blended_columns}
use Rattle.fd_draw.proofs.write.blend_sources.Goals as goal

pub returns : goal.returns
returns c =
    let p = c.args.primitive.now in
    let row = c.args.row.now in
    let source = λ (column : ℕ). source_of (triangle_of p) p.interp column c.args.y in
    c.draw.ensures
    ∙ ap (λ cs. blended_row c.args.blender.now.state c.args.blender.now.factor cs row) (search rules)
    ∙ ap (λ (b : Blended). blended_row b.state b.factor (map source (range_with_len c.args.x (length row))) row) c.requires.blender
    ∙ blended_columns p.state.blend p.state.factor source c.args.x row
