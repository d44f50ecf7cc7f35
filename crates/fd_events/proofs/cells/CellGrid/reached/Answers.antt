use Rattle.std.proofs.Common.{◌≡◌, ◌-◌, ◌*◌, ◌^◌, inl, inr, ap, arith, ◌∙◌}
use Rattle.std.proofs.lemmas.Bool.{cases_lt}
use Rattle.fd_events.proofs.cells.CellGrid.reached.Goals as goal

pub loop-left-preserved : goal.loop-left-preserved
loop-left-preserved c =
    let inv = c.loop-left.invariant in
    let triangle : c.of-edges.result.0 ≡ c.args.triangle.now = ap (λ rows. rows.0) c.of-edges.ensures in
    let start : c.of-edges.result.1 ≡ c.args.row * 2 ^ c.args.self.shift = ap (λ rows. rows.1) c.of-edges.ensures
    ∙ ap (λ side. c.args.row * side) c.side.ensures in
    record {
      first = omega (arith, inv.first);
      last = omega (arith, c.loop-left-test.true);
      before = λ column low high x y over down covered. elim (cases_lt column c.loop-left.left) [
        | inl earlier ↦ inv.before column low earlier x y over down covered
        | inr later ↦
            let same : column ≡ c.loop-left.left = omega (arith, later, high) in
            c.is_beyond.ensures c.if-is_beyond.true c.args.row start x y (over ∙ same) down (rw triangle covered)
      ];
    }

pub loop-right-preserved : goal.loop-right-preserved
loop-right-preserved c =
    let inv = c.loop-right.invariant in
    let triangle : c.of-edges.result.0 ≡ c.args.triangle.now = ap (λ rows. rows.0) c.of-edges.ensures in
    let start : c.of-edges.result.1 ≡ c.args.row * 2 ^ c.args.self.shift = ap (λ rows. rows.1) c.of-edges.ensures
    ∙ ap (λ side. c.args.row * side) c.side.ensures in
    record {
      order = omega (arith, c.loop-right-test.true);
      last = omega (arith, inv.last);
      after = λ column low high x y over down covered. elim (cases_lt column c.loop-right.right) [
        | inl earlier ↦
            let same : column ≡ c.loop-right.right - 1 = omega (arith, earlier, low) in
            c.is_beyond-in-loop-right.ensures c.if-is_beyond-2.true c.args.row start x y (over ∙ same) down (rw triangle covered)
        | inr later ↦ inv.after column later high x y over down covered
      ];
    }
