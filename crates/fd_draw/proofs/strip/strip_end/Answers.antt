use Rattle.std.proofs.Common.{arith, subst}
use Rattle.fd_draw.specs.Primitive.{DrawsRows}
use Rattle.fd_draw.proofs.Strips.{drawn_next}
use Rattle.fd_draw.proofs.strip.strip_end.Goals as goal

pub loop-row-preserved : goal.loop-row-preserved
loop-row-preserved c =
    drawn_next c.args.primitive.now c.args.place c.in-Some.run' c.requires.found c.requires.from_top c.loop-row.auto.row c.loop-row-test.true
    c.in-Some.ensures.span (omega (arith, c.if-run-left.false)) (omega (arith, c.if-run-right.false)) c.requires.ready c.if-primitive.false
    c.loop-row.invariant

pub returns-clause-drawn : goal.returns-clause-drawn
returns-clause-drawn c =
    subst (λ row. DrawsRows c.args.primitive.now c.args.place c.args.y row) (omega (arith, c.loop-row-test.false, c.loop-row.auto.row-end)) c.loop-row.invariant
