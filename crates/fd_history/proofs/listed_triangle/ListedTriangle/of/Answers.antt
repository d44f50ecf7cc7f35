use Rattle.fd_events.proofs.Triangles.{triangle_at}
use Rattle.fd_history.proofs.listed_triangle.ListedTriangle.of.Goals as goal

pub returns-clause-triangle : goal.returns-clause-triangle
returns-clause-triangle c =
    triangle_at c.args.draw.now c.args.triangle c.tri.result c.colours.result c.depths.result c.tri.ensures c.colours.ensures c.depths.ensures
