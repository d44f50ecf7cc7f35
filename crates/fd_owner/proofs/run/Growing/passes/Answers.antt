use Rattle.std.proofs.Common.{◌+◌, ◌^◌, ◌<◌, ◌∙◌, Bool, Some, refl, sym, ap, arith}
use Rattle.fd_draw.specs.Area.{box_of_place}
use Rattle.fd_events.proofs.IndexLemmas.{far_quiet}
use Rattle.fd_events.specs.Reach.{may_write_at}
use Rattle.fd_owner.proofs.PassedOver.{untouched_far}
use Rattle.fd_owner.proofs.Runs.{run_nothing}
use Rattle.fd_owner.proofs.run.Growing.passes.Goals as goal

pub returns-clause-grows : goal.returns-clause-grows
returns-clause-grows c = λ from before run.
    let table = c.args.table.now in
    let g = c.args.self.now in
    let fits : g.to + 1 < 2 ^ 32 = omega (arith, c.number_past-number.ensures, c.number_past-number.type_inv) in
    let quiet = ap (may_write_at table) (sym c.number_past-number.ensures) ∙ sym c.may_write.ensures ∙ ap (λ (b : Bool). Some b) c.if-may_write.false in
    let more = run_nothing table from g.to before g.after g.deep g.frames.items run c.requires fits
    (λ p placed inside. untouched_far table g.to (box_of_place p) p placed inside refl (far_quiet table g.to (box_of_place p) quiet)) in
    rw c.number_past-number.ensures more
