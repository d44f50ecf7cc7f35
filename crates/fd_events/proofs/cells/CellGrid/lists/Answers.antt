use Rattle.std.proofs.Common.{◌≡◌, inl, inr, length, get_or, arith, ◌∙◌}
use Rattle.std.proofs.lemmas.Bool.{cases_lt}
use Rattle.std.proofs.lemmas.Option.{slice_get_within, slice_get-get_or}
use Rattle.fd_cover.specs.declared.bounds.Bounds.{Bounds}
use Rattle.fd_events.specs.Draw.{triangles_of}
use Rattle.fd_events.proofs.CellLemmas.{AreOrdered-more}
use Rattle.fd_events.proofs.CellGridLemmas.{corners_there, box_holds}
use Rattle.fd_events.proofs.cells.CellGrid.lists.Goals as goal

pub add-requires-clause-covered : goal.add-requires-clause-covered
add-requires-clause-covered c =
    let number = c.loop-number.number in
    let nothing : Bounds = record { left = 0; top = 0; right = 0; bottom = 0 } in
    box_holds (triangles_of c.args.list.now) number _ _
    (c.requires.boxes number (get_or c.args.boxes.now number nothing) (slice_get-get_or c.args.boxes.now number nothing c.loop-number-test.true))
    c.tri-triangle.ensures

pub loop-number-preserved : goal.loop-number-preserved
loop-number-preserved c =
    let inv = c.loop-number.invariant in
    let number = c.loop-number.number in
    let more = c.in_ok-add.ensures.listed in
    record {
      all = more.0.same ∙ inv.all;
      ordered = AreOrdered-more number _ (more.0.ordered inv.ordered);
      listed = λ i t before at x y covered has. elim (cases_lt i number) [
        | inl earlier ↦ more.0.kept _ i (inv.listed i t earlier at x y covered has)
        | inr later ↦
            let same : i ≡ number = omega (arith, later, before) in
            let its = corners_there (triangles_of c.args.list.now) number t c.tri-triangle.result (rw same at at) c.tri-triangle.ensures in
            rw same (more.1 x y (rw its at covered) has)
      ];
    }

pub returns-clause-lists : goal.returns-clause-lists
returns-clause-lists c =
    let inv = c.loop-number.invariant in
    let all : c.loop-number.number ≡ length c.args.boxes.now = omega (arith, c.loop-number-test.false, c.loop-number.auto.number-end) in
    (rw (← all) inv.ordered, λ i t at. inv.listed i t (omega (arith, all, c.requires.all, slice_get_within (triangles_of c.args.list.now) i t at)) at)
