use Rattle.std.proofs.Common.{◌≡◌, ◌∙◌, ◌+◌, length, ap, arith}
use Rattle.std.proofs.lemmas.List.{length-replicate}
use Rattle.fd_events.specs.StateList.{state_place}
use Rattle.fd_events.proofs.States.{first_alike, place_read}
use Rattle.fd_events.proofs.state_list.StateList.fresh.Goals as goal

pub returns-clause-flags : goal.returns-clause-flags
returns-clause-flags c = c.in_ok-flags.ensures.items_if_clones_equal (λ y same. same)

pub returns-clause-states : goal.returns-clause-states
returns-clause-states c =
    let events = c.args.events.now in
    let flags = c.in_ok-flags.ensures.items_if_clones_equal (λ y same. same) in
    let states = c.in_ok-states.ensures.items_if_clones_equal (λ y same. same) in
    let last : c.index.result.now ≡ state_place events (length events) =
    place_read events c.in_ok-places.places.items (length events) c.index.result.now c.in_ok-places.ensures.places (omega arith) c.index.ensures in
    record {
      flags = ap length flags ∙ length-replicate (length events) _;
      places = c.in_ok-places.ensures.places;
      number = ap length states ∙ length-replicate (c.index.result.now + 1) _ ∙ ap (λ n. n + 1) last;
      each = λ k le. let first : k ≡ 0 = omega (arith, le) in rw (first, states) (first_alike c.index.result.now _ _ c.default.ensures);
    }
