use Rattle.std.proofs.Common.{◌≡◌, ◌+◌, ◌^◌, ◌<◌, ◌∙◌, false, Some, refl, sym, ap, arith}
use Rattle.fd_tile.specs.Tile.{Pixel}
use Rattle.fd_events.specs.Effect.{event_of_clear}
use Rattle.fd_events.specs.Table.{event_at, flag_at, state_at}
use Rattle.fd_draw.specs.Written.{cleared}
use Rattle.fd_owner.specs.Step.{IsNext}
use Rattle.fd_owner.proofs.Pictures.{shallow}
use Rattle.fd_owner.proofs.Runs.{either, run_clear}
use Rattle.fd_owner.proofs.run.Growing.clears.Goals as goal

pub returns-in-Clear-clause-grows : goal.returns-in-Clear-clause-grows
returns-in-Clear-clause-grows c = λ from before run.
    let table = c.args.table.now in
    let g = c.args.self.now in
    let clear = c.in-Clear.clear in
    let told = c.clear.ensures in
    let fits : g.to + 1 < 2 ^ 32 = omega (arith, c.number_past-number.ensures, c.number_past-number.type_inv) in
    let number = sym c.number_past-number.ensures in
    let is : c.event.result.now ≡ event_of_clear clear = rw c.in-Clear.is at c.effect.ensures in
    let next : IsNext (event_of_clear clear) (state_at table g.to) table g.to = record {
      there = ap (event_at table) number ∙ c.event.ensures ∙ ap (λ e. Some e) is;
      on = ap (flag_at table) number ∙ c.if-not-is_on.ensures;
      before = refl;
    } in
    either _ c.clear.result (λ yes.
    let greatest : c.clear.new.self.deep ≡ false → (cleared clear g.after).1 ≡ 65535 =
    λ not. sym (ap (λ (q : Pixel). q.1) (told.after yes)) ∙ told.depths yes not (run.depths (shallow g.deep c.clear.new.self.deep (told.deep yes) not)) in
    rw (told.to yes, told.after yes, told.frames yes)
    (run_clear table from g.to before g.after g.deep g.frames.items run c.requires fits clear c.clear.new.self.deep next (told.deep yes) greatest))
    (λ no. let same = told.same no in rw (same.0, same.1, same.2, same.3) run)
