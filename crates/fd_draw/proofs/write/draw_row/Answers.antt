use Rattle.std.proofs.Common.{rules, refl}
use Rattle.fd_draw.proofs.Painting.{span_written}
use Rattle.fd_draw.proofs.RowByRow.{span_done, span_room}
use Rattle.fd_draw.proofs.write.draw_row.Goals as goal

pub draw_span-requires-clause-room : goal.draw_span-requires-clause-room
draw_span-requires-clause-room c =
    let found = c.requires.found in
    let span = span_written _ _ found.inside found.reached c.requires.from_top c.requires.to_bottom c.in-Some.ensures.span in
    span_room _ _ c.in-Some.run' (search rules) span c.requires.room

pub returns-in-Some : goal.returns-in-Some
returns-in-Some c =
    let found = c.requires.found in
    let span = span_written _ _ found.inside found.reached c.requires.from_top c.requires.to_bottom c.in-Some.ensures.span in
    span_done _ _ c.in-Some.run' (search rules) span c.in-Some.ensures.row refl c.draw_span.ensures
