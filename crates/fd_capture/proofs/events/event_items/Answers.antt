use Rattle.std.proofs.Common.{◌≡◌, ◌<◌, [], ◌∷◌, ◌++◌, length, None, sym, refl, subst, arith}
use Rattle.std.proofs.lemmas.List.{length_push}
use Rattle.json.specs.Json.{after_end_array}
use Rattle.fd_json.proofs.Within.{array-begins, array-item, array-ends, array-refused}
use Rattle.fd_capture.specs.Fault.{Gives}
use Rattle.fd_capture.specs.Listed.{few_events}
use Rattle.fd_capture.proofs.Streams.{list_of-items_after}
use Rattle.fd_capture.proofs.Lists.{next_of, none_yet}
use Rattle.fd_capture.proofs.events.event_items.Goals as goal

pub items-init : goal.items-init
items-init c = ([], array-begins c.args.scope.depth c.args.reader.now, refl, none_yet c.args.scope.version c.new.result.items c.new.ensures.items)

pub returns-in_err-events-clause-refused : goal.returns-in_err-events-clause-refused
returns-in_err-events-clause-refused c refused =
    let l = c.items in
    let going : (after_end_array l.reader ≡ None) × (c.take_end_array.new.self ≡ l.reader) = grind arith in
    array-refused _ _ _ _ l.invariant.1 going.0 (rw (← going.1) (c.in_err-events.ensures.refused (grind arith)))

pub items-preserved : goal.items-preserved
items-preserved c =
    let l = c.items in
    let going : (after_end_array l.reader ≡ None) × (c.take_end_array.new.self ≡ l.reader) = grind arith in
    let read = c.in_ok-events.ensures.ok in
    let shorter : length c.next_event.new.reader < length l.reader = rw (← going.1) c.in_ok-events.ensures.shorter in (
      l.invariant.0 ++ read.0 ∷ [],
      array-item _ _ _ c.next_event.new.reader _ read.0 l.invariant.1 going.0 (rw (← going.1) read.1) shorter,
      grind (arith, length_push l.invariant.0 read.0, l.invariant.2),
      next_of c.args.scope.version l.number l.invariant.0 read.0 l.events c.in_ok-events.events l.invariant.2 l.invariant.3 read.2,
    )

pub returns-clause-ok : goal.returns-clause-ok
returns-clause-ok c =
    let l = c.items in (
      _,
      array-ends c.args.scope.depth c.args.reader.now l.reader c.take_end_array.new.self l.invariant.0 l.invariant.1 (grind arith),
      subst (λ ds. Gives (λ v. v.items) l.events (few_events c.args.scope.version ds)) (sym (list_of-items_after l.invariant.0)) l.invariant.3,
    )
