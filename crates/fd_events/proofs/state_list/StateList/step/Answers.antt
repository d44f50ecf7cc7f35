use Rattle.std.proofs.Common.{◌≡◌, ◌+◌, ◌<◌, ◌≤◌, ℕ, false, cond, length, get_or, ap, sym, refl, ◌∙◌, arith}
use Rattle.std.proofs.lemmas.List.{length-set}
use Rattle.std.proofs.lemmas.Option.{slice_get-get_or, get_or_from_slice_get}
use Rattle.fd_events.specs.declared.pipeline.Pipeline.{Pipeline}
use Rattle.fd_events.specs.Pipeline.{state_after}
use Rattle.fd_events.specs.Table.{state_of}
use Rattle.fd_events.specs.StateList.{state_place}
use Rattle.fd_events.proofs.States.{state_of-next, states_kept, states_grow, places_rise, place_read}
use Rattle.fd_events.proofs.state_list.StateList.step.Goals as goal

pub index_mut-requires : goal.index_mut-requires
index_mut-requires c =
    let events = c.args.events.now in
    let k = c.args.index in
    let has = c.requires.before in
    let rise = places_rise events (k + 1) (length events) (omega arith) in
    let next = place_read events c.args.self.now.places.items (k + 1) c.index-2.result.now has.places (omega arith) c.index-2.ensures in
    omega (arith, next, rise, has.number, c.args.self.now.states.ok.0)

pub returns-else-place-next-clause-states : goal.returns-else-place-next-clause-states
returns-else-place-next-clause-states c =
    let events = c.args.events.now in
    let k = c.args.index in
    let list = c.args.self.now in
    let has = c.requires.before in
    let place = place_read events list.places.items k c.index.result.now has.places (omega arith) c.index.ensures in
    let next = place_read events list.places.items (k + 1) c.index-2.result.now has.places (omega arith) c.index-2.ensures in
    let none : state_place events (k + 1) ≤ state_place events k = omega (arith, place, next, c.if-place-next.false) in
    record {
      flags = has.flags;
      places = has.places;
      number = has.number;
      each = states_kept events list.flags.items list.states.items k none has.each;
    }

pub returns-then-place-next-clause-states : goal.returns-then-place-next-clause-states
returns-then-place-next-clause-states c =
    let events = c.args.events.now in
    let k = c.args.index in
    let list = c.args.self.now in
    let flags = list.flags.items in
    let states = list.states.items in
    let has = c.requires.before in
    let place : c.index.result.now ≡ state_place events k =
    place_read events list.places.items k c.index.result.now has.places (omega arith) c.index.ensures in
    let next : c.index-2.result.now ≡ state_place events (k + 1) =
    place_read events list.places.items (k + 1) c.index-2.result.now has.places (omega arith) c.index-2.ensures in
    let rise = places_rise events (k + 1) (length events) (omega arith) in
    let room : state_place events (k + 1) < length states = omega (arith, rise, has.number) in
    let more : state_place events k < state_place events (k + 1) = omega (arith, place, next, c.if-place-next.true) in
    let event = c.index-events-index.result in
    let on : c.index-then-place-next.result.now ≡ get_or flags k false =
    c.index-then-place-next.ensures
    ∙ sym (get_or_from_slice_get flags k _ false (slice_get-get_or flags k c.index-then-place-next.result.now (omega (arith, has.flags)))) in
    let before : c.index-then-place-next-2.result.now ≡ state_of events flags k =
    c.index-then-place-next-2.ensures
    ∙ ap (λ (p : ℕ). get_or states p c.index-then-place-next-2.result.now) place
    ∙ get_or_from_slice_get states (state_place events k) _ c.index-then-place-next-2.result.now (has.each k (omega arith)) in
    let is : c.state_past.result ≡ state_of events flags (k + 1) =
    c.state_past.ensures
    ∙ ap (λ (s : Pipeline). cond c.index-then-place-next.result.now (state_after event s) s) before
    ∙ sym (state_of-next events flags k event c.index-then-place-next.result.now _ c.requires.within c.index-events-index.is on refl) in
    record {
      flags = has.flags;
      places = has.places;
      number = length-set states c.index-2.result.now c.state_past.result ∙ has.number;
      each = rw next (states_grow events flags states k c.state_past.result room more is has.each);
    }
