use Rattle.std.proofs.Common.{◌≡◌, ◌<◌, [], ◌∷◌, ◌++◌, length, Some, None, true, false, sym, ap, ◌∙◌, arith, rules}
use Rattle.json.specs.Json.{after_end_array}
use Rattle.fd_json.proofs.Within.{array-item, array-ends, array-refused}
use Rattle.fd_capture.specs.Field.{unsigned_32, all_of}
use Rattle.fd_capture.proofs.Streams.{AllSoFar, list_of-items_after, so_far-some, so_far-none}
use Rattle.fd_capture.proofs.vertices.index_items.Goals as goal

pub returns-in_err-index-clause-refused : goal.returns-in_err-index-clause-refused
returns-in_err-index-clause-refused c refused =
    let l = c.items in
    let going : (after_end_array l.reader ≡ None) × (c.take_end_array.new.self ≡ l.reader) = grind arith in
    array-refused _ _ _ _ l.invariant.1 going.0 (rw (← going.1) (c.in_err-index.ensures.refused (grind arith)))

pub items-preserved-in-Continue-branch-3 : goal.items-preserved-in-Continue-branch-3
items-preserved-in-Continue-branch-3 c =
    let l = c.items in
    let going : (after_end_array l.reader ≡ None) × (c.take_end_array.new.self ≡ l.reader) = grind arith in
    let read = c.in_ok-index.ensures.ok in
    let shorter : length c.next.new.reader < length l.reader = rw (← going.1) c.in_ok-index.ensures.shorter in
    let is : unsigned_32 read.0 ≡ Some c.in-Some.index = sym read.2 ∙ c.in-Some.is in (
      l.invariant.0 ++ read.0 ∷ [],
      array-item _ _ _ c.next.new.reader _ read.0 l.invariant.1 going.0 (rw (← going.1) read.1) shorter,
      rw c.in_ok-push-in-Some.ensures.items (so_far-some unsigned_32 l.well_formed l.invariant.0 l.indices.items read.0 c.in-Some.index l.invariant.2 is),
    )

pub items-preserved : goal.items-preserved
items-preserved c =
    let l = c.items in
    let going : (after_end_array l.reader ≡ None) × (c.take_end_array.new.self ≡ l.reader) = grind arith in
    let read = c.in_ok-index.ensures.ok in
    let shorter : length c.next.new.reader < length l.reader = rw (← going.1) c.in_ok-index.ensures.shorter in
    let is : unsigned_32 read.0 ≡ None = sym read.2 ∙ c.in-None.is in (
      l.invariant.0 ++ read.0 ∷ [],
      array-item _ _ _ c.next.new.reader _ read.0 l.invariant.1 going.0 (rw (← going.1) read.1) shorter,
      so_far-none unsigned_32 l.well_formed l.invariant.0 l.indices.items read.0 l.invariant.2 is,
    )

pub returns-then-not-well_formed-clause-ok : goal.returns-then-not-well_formed-clause-ok
returns-then-not-well_formed-clause-ok c =
    let l = c.items in
    let ill : l.well_formed ≡ false = search rules in
    let none : all_of unsigned_32 l.invariant.0 ≡ None = coe 0 1 (i. AllSoFar unsigned_32 (ill i) l.invariant.0 l.indices.items) l.invariant.2 in (
      _,
      array-ends c.args.scope.depth c.args.reader.now l.reader c.take_end_array.new.self l.invariant.0 l.invariant.1 (grind arith),
      sym
          (ap (all_of unsigned_32) (list_of-items_after l.invariant.0) ∙ none),
    )

pub returns-clause-ok : goal.returns-clause-ok
returns-clause-ok c =
    let l = c.items in
    let well : l.well_formed ≡ true = search rules in
    let all : all_of unsigned_32 l.invariant.0 ≡ Some l.indices.items = coe 0 1 (i. AllSoFar unsigned_32 (well i) l.invariant.0 l.indices.items)
    l.invariant.2 in (
      _,
      array-ends c.args.scope.depth c.args.reader.now l.reader c.take_end_array.new.self l.invariant.0 l.invariant.1
          (grind arith),
      ap Some c.shrink_to_fit.ensures.items ∙ sym (ap (all_of unsigned_32) (list_of-items_after l.invariant.0) ∙ all),
    )
