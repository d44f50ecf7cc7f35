use Rattle.std.proofs.Common.{◌≡◌, ◌∙◌, Bool, true, false, Ok, Err, refl, sym, ap, arith}
use Rattle.std.specs.Prelude.{Result}
use Rattle.std.specs.Result.{result_unwrap_or}
use Rattle.fd_events.specs.Table.{event_at, flag_at, state_at}
use Rattle.fd_owner.proofs.clears.clear_past.Goals as goal

was_drawn : {E : Type 0} (r : Result Bool E) → result_unwrap_or r false ≡ true → r ≡ Ok true
was_drawn (Ok drawn) is = ap Ok is
was_drawn (Err e) is = absurd cc

-- a clear of a tile that is alike
pub returns-then-is_on-clause-drawn : goal.returns-then-is_on-clause-drawn
returns-then-is_on-clause-drawn c = λ yes.
    let table = c.args.table.now in
    let number = sym c.number_past-number.ensures in
    let is = was_drawn c.clear_alike.result (sym c.unwrap_or.ensures ∙ yes) in
    let painted = c.clear_alike.ensures.drawn is (state_at table c.args.position) in
    let deep = c.clear_alike.ensures.deep is in
    let depths = c.clear_alike.ensures.depths is in
    let alike = c.clear_alike.ensures.alike is in
    record {
      event = c.event.result.now;
      next = record { there = ap (event_at table) number ∙ c.event.ensures; on = ap (flag_at table) number ∙ c.if-is_on.ensures; before = refl };
      past = grind arith;
    }
