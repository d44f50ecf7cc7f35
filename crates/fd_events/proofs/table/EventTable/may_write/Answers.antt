use Rattle.std.proofs.Common.{◌≡◌, suc, ◌-◌, ◌≤◌, ◌<◌, Bool, false, Some, slice_get, length, option_map, ap, sym, arith, ◌∙◌}
use Rattle.std.proofs.lemmas.Option.{slice_get-get_or}
use Rattle.fd_events.specs.Reach.{may_write, may_write_at}
use Rattle.fd_events.specs.Table.{Table, is_set}
use Rattle.fd_events.proofs.ReachLemmas.{length-reaches, writer_at}
use Rattle.fd_events.proofs.table.EventTable.may_write.Goals as goal

pub returns : goal.returns
returns c =
    let fields = c.self.inside in
    let n = c.args.number - 1 in
    let last : c.args.number ≤ length fields.events.items = rw (← c.self.view_is) at c.requires.last in
    let within : n < length fields.reaches.items =
    omega (arith, last, c.requires.first, length-reaches fields.width fields.height fields.events.items fields.reaches.items c.self.invariant.2) in
    let next : c.args.number ≡ suc n = omega (arith, c.requires.first) in
    let flags = fields.states.flags.items in
    let there = writer_at fields.width fields.height fields.events.items flags fields.writers.items fields.reaches.items n c.self.invariant.2
    c.self.invariant.3 within in
    let there_too : n < length fields.writers.items = omega (arith, within, c.self.invariant.3.number) in
    let here : Some c.index.result.now ≡ option_map (may_write fields.width fields.height (is_set flags (suc n)))
    (slice_get fields.events.items n) =
    ap (λ (b : Bool). Some b) c.index.ensures ∙ sym (slice_get-get_or fields.writers.items n c.index.result.now there_too)
    ∙ slice_get-get_or fields.writers.items n false there_too ∙ sym there in
    rw next here ∙ ap (λ (t : Table). may_write_at t c.args.number) c.self.view_is
