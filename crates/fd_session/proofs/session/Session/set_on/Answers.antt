use Rattle.std.proofs.Common.{◌∙◌, ◌++◌, take, drop, ℕ, All, ap, sym, subst, length, arith, false, rules}
use Rattle.fd_events.specs.Table.{Table, with_flag}
use Rattle.fd_frame.specs.State.{State}
use Rattle.fd_session.specs.Held.{Stands}
use Rattle.fd_session.proofs.Frames.{held_at, held_back, long_given, given_whole}
use Rattle.fd_session.proofs.Nearby.{near_held}
use Rattle.fd_session.proofs.Switching.{events_with, size_with, table_with, all_before, unswitched_is}
use Rattle.fd_session.proofs.session.Session.set_on.Goals as goal

pub invariant_of-self : goal.invariant_of-self
invariant_of-self g c =
    let held = c.self.invariant.0 in
    let table = c.self.inside.frame.table in
    let first = held_back false table c.self.inside.frame.grid held.valid held.sized c.self.inside.frame.owners.items c.deref_mut.result.now
    c.level.new.owners c.self.inside.frame.owners.len c.self.inside.position
    c.deref_mut.ensures.value c.self.inside.frame.owners.ok.0 held.places c.level.ensures.left held.reached in
    let number = c.args.number in
    let on = c.args.on in
    let owners = take c.self.inside.frame.owners.len (c.level.new.owners ++ drop (length c.level.new.owners) c.self.inside.frame.owners.items) in
    let stand = all_before table number on c.self.inside.position owners (omega (arith, c.if-number-self.true))
    (subst (λ (k : ℕ). All (Stands false table k) owners) first.1 first.0.stand) in
    let there = held_at false (with_flag table number on) c.self.inside.frame.grid (table_with table number on held.valid)
    (held.sized ∙ sym (size_with table number on))
    owners c.self.inside.position first.0.places
    stand
    (omega (arith, held.reached, ap length (events_with table number on))) in
    rw c.set_on.ensures (near_held _ _ _ _ there.0 there.1, c.self.invariant.1, c.self.invariant.2)

pub go_again-self-inside-requires-clause-stand : goal.go_again-self-inside-requires-clause-stand
go_again-self-inside-requires-clause-stand g c κs outlives =
    let inside = c.self.inside in
    let switch = c.make-switch.result in
    let lent = c.deref_mut-2.ensures.value ∙ given_whole inside.frame.grid inside.frame.owners.items c.deref_mut.result.now c.level.new.owners
    inside.frame.owners.len c.deref_mut.ensures.value inside.frame.owners.ok.0 c.self.invariant.0.places c.level.ensures.left.places in
    let same = unswitched_is inside.frame.table switch c.args.number c.args.on c.make-switch.ensures.number c.make-switch.ensures.was_on in
    rw (lent, c.make-switch.ensures.table, same, c.make-switch.ensures.position) c.level.ensures.left.each

pub go_again-self-inside-requires-clause-number : goal.go_again-self-inside-requires-clause-number
go_again-self-inside-requires-clause-number g c κs outlives = (
  rw c.make-switch.ensures.number (search rules),
  omega (arith, c.if-number-self.false, c.make-switch.ensures.number, c.make-switch.ensures.position),
)

pub go_again-self-inside-requires-clause-within : goal.go_again-self-inside-requires-clause-within
go_again-self-inside-requires-clause-within g c κs outlives = omega (
  arith,
  c.self.invariant.0.reached,
  c.make-switch.ensures.position,
  ap (λ (t : Table). length t.events) c.make-switch.ensures.table,
  ap length (events_with c.self.inside.frame.table c.args.number c.args.on),
)

pub invariant_of-self-2 : goal.invariant_of-self-2
invariant_of-self-2 g c =
    let held = c.self.invariant.0 in
    let inside = c.self.inside in
    let table = inside.frame.table in
    let number = c.args.number in
    let on = c.args.on in
    let again = c.go_again-self-inside in
    let first = held_back false table inside.frame.grid held.valid held.sized inside.frame.owners.items c.deref_mut.result.now c.level.new.owners
    inside.frame.owners.len inside.position c.deref_mut.ensures.value inside.frame.owners.ok.0 held.places c.level.ensures.left held.reached in
    let long = long_given inside.frame.grid inside.frame.owners.items c.deref_mut.result.now c.level.new.owners inside.frame.owners.len
    c.deref_mut.ensures.value inside.frame.owners.ok.0 held.places c.level.ensures.left.places in
    let there = held_back false (with_flag table number on) inside.frame.grid (table_with table number on held.valid)
    (held.sized ∙ sym (size_with table number on)) _ c.deref_mut-2.result.now again.new.owners inside.frame.owners.len again.result
    c.deref_mut-2.ensures.value long first.0.places (rw c.make-switch.ensures.table at again.ensures.left)
    (omega (arith, held.reached, again.ensures.high, c.make-switch.ensures.position, ap length (events_with table number on))) in
    rw c.make-switch.ensures.table (near_held _ _ _ _ there.0 there.1, c.self.invariant.1, c.self.invariant.2)

pub returns-clause-high : goal.returns-clause-high
returns-clause-high g c =
    omega (arith, c.go_again-self-inside.ensures.high, c.make-switch.ensures.position, ap (λ (s : State). s.position) c.self.view_is)

pub returns-clause-wanted : goal.returns-clause-wanted
returns-clause-wanted g c = λ less.
    c.go_again-self-inside.ensures.wanted
    (omega (arith, less, c.make-switch.ensures.position, ap (λ (s : State). s.position) c.self.view_is))
