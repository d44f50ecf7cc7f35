use Rattle.std.proofs.Common.{◌∙◌, sym}
use Rattle.fd_events.proofs.DrawLemmas.{length-listed}
use Rattle.fd_events.proofs.list.TriangleList.corner_count.Goals as goal

pub returns-then-self-clause-value : goal.returns-then-self-clause-value
returns-then-self-clause-value c =
    let made = rw c.if-self.true at c.self.invariant.0 in
    rw (← c.self.view_is, c.if-self.true) (c.len.ensures ∙ c.self.inside.indices.ok.0
    ∙ sym (length-listed c.self.inside.vertices.items c.self.inside.indices.items c.self.inside.interp _ made))
