use Rattle.std.proofs.Common.{◌*◌, ◌+◌, min, refl, ap, ◌∙◌}
use Rattle.fd_events.specs.Limits.{group_size}
use Rattle.fd_events.specs.Bounds.{triangles_between, bounds_of_triangles}
use Rattle.fd_events.proofs.BoundsLemmas.{HoldsGroup-triangles_between}
use Rattle.fd_events.proofs.boxes.round_group.Goals as goal

pub returns : goal.returns
returns c = λ ts are.
    let round = c.round.ensures ts are in
    let last = c.min.ensures ∙ ap (λ n. min (group_size * c.args.group + group_size) n) are.size in
    record {
      value = round.value ∙ ap (λ n. bounds_of_triangles (triangles_between (group_size * c.args.group) n ts)) last;
      covered = HoldsGroup-triangles_between ts c.args.group _ _ c.round.result refl last round.covered;
    }
