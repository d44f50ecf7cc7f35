use Rattle.std.proofs.Common.{◌≡◌, ◌+◌, ◌∷◌, [], length, length-append, ap, sym, ◌∙◌, arith}
use Rattle.fd_events.specs.StateList.{state_place, place_past}
use Rattle.fd_events.proofs.States.{state_place-at, state_place-next, places_grow}
use Rattle.fd_events.proofs.state_list.places_of.Goals as goal

pub loop-event-preserved : goal.loop-event-preserved
loop-event-preserved c =
    let events = c.args.events.now in
    let k = c.loop-event.event-index in
    let event = c.event-item.result in
    let places = c.loop-event.places.items in
    let place : c.place_past-place.result ≡ state_place events (k + 1) =
    c.place_past-place.ensures ∙ ap (place_past event) c.loop-event.invariant.place
    ∙ sym (state_place-at events k event c.loop-event-test.true c.event-item.is) in
    let items = c.in_ok-push-2.ensures.items in
    record {
      number = ap length items ∙ omega (arith, length-append places (c.place_past-place.result ∷ []), c.loop-event.invariant.number);
      place = place;
      small = omega (arith, place, (state_place-next events k).1, c.loop-event.invariant.place, c.loop-event.invariant.small);
      each = rw items (places_grow events places k c.place_past-place.result c.loop-event.invariant.number place c.loop-event.invariant.each);
    }
