-- Working. A triangle of a draw with all that its entry needs.
use Rattle.fd_events.specs.Draw.{Triangle}
use Rattle.fd_history.specs.declared.listed_triangle.ListedTriangle.{ListedTriangle}

-- its corners, their colours and their depths, and the picture of its draw
abbrev pub whole_triangle : ListedTriangle → Triangle
whole_triangle t = record { corners = t.corners; colours = t.colours; depths = t.depths; picture = t.draw.now.picture }
