use Rattle.std.proofs.Common.{◌≡◌, ◌<◌, [], ◌∷◌, ◌++◌, length, take, List, Some, None, true, false, refl, sym, ap, ◌∙◌, option_map, arith, rules}
use Rattle.json.specs.Json.{after_end_array}
use Rattle.fd_json.proofs.Within.{array-begins, array-item, array-ends, array-refused}
use Rattle.fd_capture.specs.Field.{all_of}
use Rattle.fd_capture.proofs.Streams.{AllSoFar, list_of-items_after, so_far-some, so_far-none, take-push}
use Rattle.fd_capture.proofs.short_array.first_items.Goals as goal

pub items-init : goal.items-init
items-init g c = ([], array-begins c.args.scope.depth c.args.reader.now, [], refl, c.new-values.ensures)

pub returns-in_err-value-clause-refused : goal.returns-in_err-value-clause-refused
returns-in_err-value-clause-refused g c refused =
    let l = c.items in
    let going : (after_end_array l.reader ≡ None) × (c.take_end_array.new.self ≡ l.reader) = grind arith in
    array-refused _ _ _ _ l.invariant.1 going.0 (rw (← going.1) (c.in_err-value.ensures.refused (grind arith)))

pub items-preserved-in-Some : goal.items-preserved-in-Some
items-preserved-in-Some g c =
    let l = c.items in
    let f = g.T.FromTokens.of_data in
    let going : (after_end_array l.reader ≡ None) × (c.take_end_array.new.self ≡ l.reader) = grind arith in
    let read = c.in_ok-value.ensures.ok in
    let shorter : length c.next.new.reader < length l.reader = rw (← going.1) c.in_ok-value.ensures.shorter in
    let is : f read.0 ≡ Some c.in-Some.value = sym read.2 ∙ c.in-Some.is in
    let xs = l.invariant.2 in
    let x = c.in-Some.value in (
      l.invariant.0 ++ read.0 ∷ [],
      array-item _ _ _ c.next.new.reader _ read.0 l.invariant.1 going.0 (rw (← going.1) read.1) shorter,
      xs ++ x ∷ [],
      so_far-some f l.well_formed l.invariant.0 xs read.0 x l.invariant.3 is,
      c.keep.ensures ∙ ap (λ (ys : List g.row.T.Denot). take 5 (ys ++ x ∷ [])) l.invariant.4 ∙ take-push 5 xs x,
    )

pub items-preserved : goal.items-preserved
items-preserved g c =
    let l = c.items in
    let f = g.T.FromTokens.of_data in
    let going : (after_end_array l.reader ≡ None) × (c.take_end_array.new.self ≡ l.reader) = grind arith in
    let read = c.in_ok-value.ensures.ok in
    let shorter : length c.next.new.reader < length l.reader = rw (← going.1) c.in_ok-value.ensures.shorter in
    let is : f read.0 ≡ None = sym read.2 ∙ c.in-None.is in (
      l.invariant.0 ++ read.0 ∷ [],
      array-item _ _ _ c.next.new.reader _ read.0 l.invariant.1 going.0 (rw (← going.1) read.1) shorter,
      l.invariant.2,
      so_far-none f l.well_formed l.invariant.0 l.invariant.2 read.0 l.invariant.3 is,
      l.invariant.4,
    )

pub returns-then-not-well_formed-clause-ok : goal.returns-then-not-well_formed-clause-ok
returns-then-not-well_formed-clause-ok g c =
    let l = c.items in
    let f = g.T.FromTokens.of_data in
    let ill : l.well_formed ≡ false = search rules in
    let none : all_of f l.invariant.0 ≡ None = coe 0 1 (i. AllSoFar f (ill i) l.invariant.0 l.invariant.2) l.invariant.3 in (
      _,
      array-ends c.args.scope.depth c.args.reader.now l.reader c.take_end_array.new.self l.invariant.0 l.invariant.1 (grind arith),
      sym (ap (option_map (take 5)) (ap (all_of f) (list_of-items_after l.invariant.0) ∙ none)),
    )

pub returns-clause-ok : goal.returns-clause-ok
returns-clause-ok g c =
    let l = c.items in
    let f = g.T.FromTokens.of_data in
    let well : l.well_formed ≡ true = search rules in
    let all : all_of f l.invariant.0 ≡ Some l.invariant.2 = coe 0 1 (i. AllSoFar f (well i) l.invariant.0 l.invariant.2) l.invariant.3 in (
      _,
      array-ends c.args.scope.depth c.args.reader.now l.reader c.take_end_array.new.self l.invariant.0 l.invariant.1 (grind arith),
      ap (λ (ys : List g.row.T.Denot). Some ys) l.invariant.4 ∙ sym (ap (option_map (take 5)) (ap (all_of f) (list_of-items_after l.invariant.0) ∙ all)),
    )
