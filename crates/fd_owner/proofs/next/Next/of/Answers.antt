use Rattle.std.proofs.Common.{◌∙◌, Bool, Some, not, refl, sym, ap, option_map}
use Rattle.fd_draw.specs.Area.{box_of_place}
use Rattle.fd_events.proofs.IndexLemmas.{far_quiet, far_missed}
use Rattle.fd_events.specs.Reach.{reach_of, may_write_at}
use Rattle.fd_events.specs.Table.{event_at}
use Rattle.fd_owner.proofs.PassedOver.{untouched_far}
use Rattle.fd_owner.proofs.next.Next.of.Goals as goal
use Rattle.fd_owner.proofs.next.Next.of.Goals.{then-not-may_write-via-then-not-may_write}
use Rattle.fd_owner.proofs.next.Next.of.Goals.{then-not-may_write-via-else-not-may_write+then-not-meets}

pub returns-then-not-may_write-clause-far : goal.returns-then-not-may_write-clause-far
returns-then-not-may_write-clause-far c =
    let table = c.args.table.now in
    let k = c.args.position in
    let number = sym c.number_past-number.ensures in
    elim c.then-not-may_write.branch [
      | then-not-may_write-via-then-not-may_write w ↦
          untouched_far table k (box_of_place c.args.place) c.args.place c.requires.placed c.requires.inside refl
          (far_quiet table k (box_of_place c.args.place)
          (ap (may_write_at table) number ∙ sym c.may_write.ensures ∙ ap (λ (b : Bool). Some b) w.if-not-may_write.true))
      | then-not-may_write-via-else-not-may_write+then-not-meets w ↦
          untouched_far table k w.box_of.result c.args.place c.requires.placed c.requires.inside w.box_of.ensures
          (far_missed table k w.box_of.result w.reach.result
          (ap (λ n. option_map (reach_of table.width table.height) (event_at table n)) number ∙ w.reach.ensures.value)
          (w.meets.ensures.apart (ap not w.if-not-meets.true)))
    ]
