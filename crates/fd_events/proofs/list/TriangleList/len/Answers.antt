use Rattle.std.proofs.Common.{◌/◌, ap, sym, ◌∙◌}
use Rattle.fd_events.specs.Draw.{listed}
use Rattle.fd_events.proofs.DrawLemmas.{length-triangles_of_list}
use Rattle.fd_events.proofs.list.TriangleList.len.Goals as goal

pub returns-clause-value : goal.returns-clause-value
returns-clause-value c = ap (λ n. n / 3) c.corner_count.ensures.value ∙ sym (length-triangles_of_list c.args.self.now.picture (listed c.args.self.now))
