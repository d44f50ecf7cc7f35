use Rattle.fd_draw.specs.Primitive.{triangle_of}
use Rattle.fd_draw.specs.Written.{colour_blended}
use Rattle.fd_draw.proofs.PixelTests.{Blends-code}
use Rattle.fd_draw.proofs.write.blend_span.Goals as goal

pub returns : goal.returns
returns c =
    let p = c.args.primitive.now in
    let place = c.place-place.ensures in
    Blends-code (colour_blended (triangle_of p) p.interp p.state) c.requires.run place.filled place.value c.row_mut-row.ensures.value
    c.blend_triangle.ensures
