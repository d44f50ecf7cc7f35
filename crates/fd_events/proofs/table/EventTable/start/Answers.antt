use Rattle.std.proofs.Common.{◌≡◌, ◌∙◌, ◌&&◌, ◌≤◌, ◌++◌, Bool, true, List, cond, length, take, drop, Result, Ok, ap, sym, arith, refl}
use Rattle.std.proofs.lemmas.Bool.{le-leb}
use Rattle.std.proofs.lemmas.List.{drop_all, take_all, append-nil}
use Rattle.std.specs.Prelude.{nat_le, vec_len}
use Rattle.fd_events.specs.Limits.{most_events}
use Rattle.fd_events.specs.declared.event.Event.{Event}
use Rattle.fd_events.specs.declared.table.TableFault.{TableFault}
use Rattle.fd_events.specs.Table.{Table, is_side, all_on}
use Rattle.fd_events.proofs.table.EventTable.start.Goals as goal

-- where each of three tests holds
all_hold : (a b d : Bool) (table late other : Result Table TableFault) → a ≡ true → b ≡ true → d ≡ true
    → cond (a && b) (cond d table late) other ≡ table
all_hold a b d table late other is_a is_b is_d = rw (is_a, is_b, is_d) refl

pub returns-clause-exact : goal.returns-clause-exact
returns-clause-exact c =
    let events = c.args.events.items in
    let len = vec_len c.args.events in
    let few : length events ≤ most_events = omega (arith, c.if-len.false, c.len.ensures, c.args.events.ok.0) in
    let wide : is_side c.args.width ≡ true = sym c.if-not-is_side.ensures in
    let high : is_side c.args.height ≡ true = sym c.if-not-is_side-2.ensures in
    let same : c.list_triangles.new.events ≡ events = c.in_ok-list_triangles.ensures.same ∙ c.deref_mut.ensures.value in
    let left : take len (c.list_triangles.new.events ++ drop (length c.list_triangles.new.events) events) ≡ events =
    ap (λ (es : List Event). take len (es ++ drop (length es) events)) same
    ∙ ap (λ (es : List Event). take len (events ++ es)) (drop_all (length events) events (omega arith))
    ∙ ap (take len) (append-nil events)
    ∙ take_all len events (omega (arith)) in
    let is : c.in_ok-all_on.field-0 ≡ all_on c.args.version c.args.width c.args.height events =
    c.in_ok-all_on.ensures.table ∙ ap (all_on c.args.version c.args.width c.args.height) left in
    all_hold (is_side c.args.width) (is_side c.args.height) (nat_le (length events) most_events) _ _ _ wide high (le-leb _ _ few)
    ∙ ap (λ (t : Table). Ok t) (sym is)
