use Rattle.std.proofs.Common.{◌≡◌, suc, ◌-◌, ◌<◌, ◌≤◌, Some, length, option_map, slice_get, ap, sym, arith, ◌∙◌}
use Rattle.std.proofs.lemmas.Option.{slice_get-get_or}
use Rattle.fd_cover.specs.declared.bounds.Bounds.{Bounds}
use Rattle.fd_events.specs.declared.reach.Reach.{Reach}
use Rattle.fd_events.specs.Reach.{reach_of}
use Rattle.fd_events.specs.Table.{Table, event_at}
use Rattle.fd_events.proofs.ReachLemmas.{length-reaches, reach_at, reach_is-holds}
use Rattle.fd_events.proofs.table.EventTable.reach.Goals as goal

-- the box is the one of the event
found : (c : goal.After-bounds) → option_map (reach_of c.args.self.now.width c.args.self.now.height) (event_at c.args.self.now c.args.number)
    ≡ Some c.bounds.result
found c =
    let n = c.args.number - 1 in
    let fields = c.self.inside in
    let events = fields.events.items in
    let reaches = fields.reaches.items in
    let last : c.args.number ≤ length events = rw (← c.self.view_is) at c.requires.last in
    let within : n < length reaches = omega (arith, last, c.requires.first, length-reaches fields.width fields.height events reaches c.self.invariant.2) in
    let next : c.args.number ≡ suc n = omega (arith, c.requires.first) in
    let at : slice_get reaches n ≡ Some c.index.result.now = slice_get-get_or reaches n c.index.result.now within
    ∙ ap (λ (r : Reach). Some r) (sym c.index.ensures) in
    let there : option_map (reach_of fields.width fields.height) (slice_get events n) ≡ Some c.bounds.result =
    reach_at fields.width fields.height events reaches n c.index.result.now c.self.invariant.2 at ∙ ap (λ (b : Bounds). Some b) (sym c.bounds.ensures) in
    ap (λ (t : Table). option_map (reach_of t.width t.height) (event_at t c.args.number)) (sym c.self.view_is) ∙ rw next there

pub returns-clause-value : goal.returns-clause-value
returns-clause-value c = found c

pub returns-clause-written : goal.returns-clause-written
returns-clause-written c = reach_is-holds c.args.self.now.width c.args.self.now.height (event_at c.args.self.now c.args.number) c.bounds.result (found c)
