use Rattle.std.proofs.Common.{ℕ, ◌+◌, subst, arith}
use Rattle.fd_events.specs.Draw.{triangles_of}
use Rattle.fd_draw.specs.Plan.{AreUnreached}
use Rattle.fd_draw.proofs.Triangles.{found_here, unreached_both, unreached_here, unreached_missed, unreached_one}
use Rattle.fd_draw.proofs.plan.Planned.next.Goals as goal

pub loop-triangle-init : goal.loop-triangle-init
loop-triangle-init c = record {
  from = omega arith;
  within = c.requires.within;
  passed = λ p inside is i t low high at. absurd (omega (arith, low, high));
}

pub returns-in-Some-clause-found : goal.returns-in-Some-clause-found
returns-in-Some-clause-found c = λ p inside is.
    let it = c.in-Some.ensures in
    record {
      from = c.loop-triangle.invariant.from;
      below = omega (arith, c.loop-triangle-test.true, c.triangles-count.ensures.value);
      passed = c.loop-triangle.invariant.passed p inside is;
      found = found_here c.args.draw.now c.loop-triangle.triangle c.args.state.now inside is c.tri.ensures it.found it.part it.drawn;
    }

pub loop-triangle-preserved : goal.loop-triangle-preserved
loop-triangle-preserved c =
    let d = c.args.draw.now in
    let s = c.args.state.now in
    let i = c.loop-triangle.triangle in
    let inv = c.loop-triangle.invariant in
    let near = c.next_listed-triangle in
    record {
      from = omega (arith, inv.from, near.ensures.from);
      within = near.ensures.last;
      passed = λ p inside is.
          let here = unreached_one d s p i (unreached_here d i s inside is c.tri.ensures c.in_default.ensures.none) in
          let behind = unreached_missed d s p c.args.window (i + 1) near.result is near.ensures.missed in
          unreached_both (triangles_of d) s p c.args.from i near.result (inv.passed p inside is)
          (unreached_both (triangles_of d) s p i (i + 1) near.result here behind);
    }

pub returns-clause-none : goal.returns-clause-none
returns-clause-none c = λ p inside is.
    let inv = c.loop-triangle.invariant in
    subst (λ (n : ℕ). AreUnreached (triangles_of c.args.draw.now) c.args.state.now p c.args.from n)
    (omega (arith, inv.within, c.loop-triangle-test.false, c.triangles-count.ensures.value)) (inv.passed p inside is)
