use Rattle.std.proofs.Common.{◌≡◌, ◌<◌, List, [], ◌∷◌, ◌++◌, Bool, ◌&&◌, length, Some, None, true, false, option_map, refl, sym, ap, ◌∙◌, arith, rules}
use Rattle.json.specs.Json.{after_end_array}
use Rattle.fd_json.proofs.Within.{array-begins, array-item, array-ends, array-refused}
use Rattle.fd_events.specs.declared.draw.Vertex.{Vertex}
use Rattle.fd_capture.specs.Field.{all_of}
use Rattle.fd_capture.specs.Streamed.{together, vertex_read}
use Rattle.fd_capture.proofs.Streams.{AllSoFar, list_of-items_after, so_far-some, so_far-none}
use Rattle.fd_capture.proofs.Coloured.{together-push}
use Rattle.fd_capture.proofs.vertices.vertex_items.Goals as goal

pub items-init : goal.items-init
items-init c = ([], [], array-begins c.args.scope.depth c.args.reader.now, refl, cc)

pub returns-in_err-vertex-clause-refused : goal.returns-in_err-vertex-clause-refused
returns-in_err-vertex-clause-refused c refused =
    let l = c.items in
    let going : (after_end_array l.reader ≡ None) × (c.take_end_array.new.self ≡ l.reader) = grind arith in
    array-refused _ _ _ _ l.invariant.2 going.0 (rw (← going.1) (c.in_err-vertex.ensures.refused (grind arith)))

pub items-preserved-in-Continue-branch-3 : goal.items-preserved-in-Continue-branch-3
items-preserved-in-Continue-branch-3 c =
    let l = c.items in
    let going : (after_end_array l.reader ≡ None) × (c.take_end_array.new.self ≡ l.reader) = grind arith in
    let read = c.in_ok-vertex.ensures.ok in
    let vertex = c.in-Some.vertex in
    let has = c.in-Some.has_colour in
    let shorter : length c.vertex.new.reader < length l.reader = rw (← going.1) c.in_ok-vertex.ensures.shorter in
    let is : vertex_read c.args.scope.version read.0 ≡ Some (vertex, has) = sym read.2 ∙ c.in-Some.is in (
      l.invariant.0 ++ read.0 ∷ [],
      l.invariant.1 ++ (vertex, has) ∷ [],
      array-item _ _ _ c.vertex.new.reader _ read.0 l.invariant.2 going.0 (rw (← going.1) read.1) shorter,
      so_far-some (vertex_read c.args.scope.version) l.well_formed l.invariant.0 l.invariant.1 read.0 (vertex, has) l.invariant.3 is,
      together-push l.invariant.1 vertex has ∙ ap (λ (r : List Vertex × Bool). (r.0 ++ vertex ∷ [], r.1 && has)) l.invariant.4
          ∙ sym c.in_ok-push-in-Some.ensures.ok,
    )

pub items-preserved : goal.items-preserved
items-preserved c =
    let l = c.items in
    let going : (after_end_array l.reader ≡ None) × (c.take_end_array.new.self ≡ l.reader) = grind arith in
    let read = c.in_ok-vertex.ensures.ok in
    let shorter : length c.vertex.new.reader < length l.reader = rw (← going.1) c.in_ok-vertex.ensures.shorter in
    let is : vertex_read c.args.scope.version read.0 ≡ None = sym read.2 ∙ c.in-None.is in (
      l.invariant.0 ++ read.0 ∷ [],
      l.invariant.1,
      array-item _ _ _ c.vertex.new.reader _ read.0 l.invariant.2 going.0 (rw (← going.1) read.1) shorter,
      so_far-none (vertex_read c.args.scope.version) l.well_formed l.invariant.0 l.invariant.1 read.0 l.invariant.3 is,
      l.invariant.4,
    )

pub returns-then-not-well_formed-clause-ok : goal.returns-then-not-well_formed-clause-ok
returns-then-not-well_formed-clause-ok c =
    let l = c.items in
    let ill : l.well_formed ≡ false = search rules in
    let none : all_of (vertex_read c.args.scope.version) l.invariant.0 ≡ None =
    coe 0 1 (i. AllSoFar (vertex_read c.args.scope.version) (ill i) l.invariant.0 l.invariant.1) l.invariant.3 in (
      _,
      array-ends c.args.scope.depth c.args.reader.now l.reader c.take_end_array.new.self l.invariant.0 l.invariant.2 (grind arith),
      sym (ap (λ ds. option_map together (all_of (vertex_read c.args.scope.version) ds)) (list_of-items_after l.invariant.0) ∙ ap (option_map together) none),
    )

pub returns-clause-ok : goal.returns-clause-ok
returns-clause-ok c =
    let l = c.items in
    let well : l.well_formed ≡ true = search rules in
    let all : all_of (vertex_read c.args.scope.version) l.invariant.0 ≡ Some l.invariant.1 =
    coe 0 1 (i. AllSoFar (vertex_read c.args.scope.version) (well i) l.invariant.0 l.invariant.1) l.invariant.3 in (
      _,
      array-ends c.args.scope.depth c.args.reader.now l.reader c.take_end_array.new.self l.invariant.0 l.invariant.2 (grind arith),
      sym (ap (λ ds. option_map together (all_of (vertex_read c.args.scope.version) ds)) (list_of-items_after l.invariant.0) ∙ ap (option_map together) all
          ∙ ap (λ read. Some read) l.invariant.4),
    )
