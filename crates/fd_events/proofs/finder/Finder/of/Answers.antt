use Rattle.std.proofs.Common.{◌-◌, List, subst, arith}
use Rattle.std.proofs.lemmas.List.{take_all}
use Rattle.std.proofs.lemmas.Option.{slice_get_within}
use Rattle.fd_events.specs.Bounds.{AreBoxesOf, IsRound}
use Rattle.fd_events.specs.Draw.{Triangle, triangles_of}
use Rattle.fd_events.proofs.finder.Finder.of.Goals as goal

pub returns-then-count-vertex_count-clause-finder : goal.returns-then-count-vertex_count-clause-finder
returns-then-count-vertex_count-clause-finder c =
    let ts = triangles_of c.args.list.now in
    let of_all : AreBoxesOf c.in_ok-boxes.boxes.items ts = record { each = c.in_ok-boxes.ensures.boxes.0; size = c.in_ok-boxes.ensures.boxes.1 } in
    let of_round : AreBoxesOf c.deref.result.now ts = rw c.deref.ensures.value of_all in
    let of_groups : AreBoxesOf c.deref-2.result.now ts = rw c.deref-2.ensures.value of_all in
    record {
      bounds = subst (λ (l : List Triangle). IsRound c.round-bounds.result l) (take_all (c.len.result - 0) ts (omega (arith, c.len.ensures, of_all.size)))
          (c.round-bounds.ensures ts of_round);
      groups = c.in_ok-groups.ensures.groups ts of_groups;
      boxes = λ number box at. absurd (let none = slice_get_within c.new.result.items number box at in omega (arith, none, c.new.ensures.len));
      cells = tt;
    }

pub over-requires-clause-boxes : goal.over-requires-clause-boxes
over-requires-clause-boxes c = rw c.deref-3.ensures.value c.in_ok-boxes.ensures.boxes.0

pub returns-clause-finder : goal.returns-clause-finder
returns-clause-finder c =
    let ts = triangles_of c.args.list.now in
    let of_all : AreBoxesOf c.in_ok-boxes.boxes.items ts = record { each = c.in_ok-boxes.ensures.boxes.0; size = c.in_ok-boxes.ensures.boxes.1 } in
    let of_round : AreBoxesOf c.deref.result.now ts = rw c.deref.ensures.value of_all in
    let of_groups : AreBoxesOf c.deref-2.result.now ts = rw c.deref-2.ensures.value of_all in
    record {
      bounds = subst (λ (l : List Triangle). IsRound c.round-bounds.result l) (take_all (c.len.result - 0) ts (omega (arith, c.len.ensures, of_all.size)))
          (c.round-bounds.ensures ts of_round);
      groups = c.in_ok-groups.ensures.groups ts of_groups;
      boxes = c.in_ok-boxes.ensures.boxes.0;
      cells = c.in_ok-cells.ensures.cells;
    }
