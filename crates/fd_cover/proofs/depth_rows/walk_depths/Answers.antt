use Rattle.std.proofs.Common.{◌≡◌, ℕ, ◌+◌, ◌<◌, ◌^◌, ◌∙◌, inl, inr, refl, length, arith}
use Rattle.std.proofs.lemmas.Bool.{cases_lt}
use Rattle.std.proofs.lemmas.List.{get_or-set_other}
use Rattle.std.proofs.lemmas.Grind.{get_or-set_at}
use Rattle.fd_cover.specs.Depth.{depth_at, vertex_depth}
use Rattle.fd_cover.proofs.WalkLemmas.{IsAlong, walk_value, walk_on, columns_from}
use Rattle.fd_cover.proofs.depth_rows.walk_depths.Goals as goal

pub loop-i-preserved : goal.loop-i-preserved
unfolding depth_at
loop-i-preserved c =
    let t = c.args.triangle.now in
    let x = c.args.x in
    let y = c.args.y in
    let i = c.loop-i.i in
    let za = vertex_depth c.args.depths.now 0 in
    let zb = vertex_depth c.args.depths.now 1 in
    let zc = vertex_depth c.args.depths.now 2 in
    let along : (k : ℕ) → k < length c.args.out.now → IsAlong (2 ^ 48) t x y k = λ k inside. record {
      fine = omega (arith, c.requires.walk.small);
      first = c.requires.covered x (omega arith) (omega (arith, c.requires.some));
      here = c.requires.covered (x + k) (omega arith) (omega (arith, inside));
      few = omega (arith, inside, c.requires.few);
    } in
    let here = along i c.loop-i-test.true in
    let before = c.loop-i.invariant in
    let walk = before.walk c.loop-i-test.true in
    let depth = walk_value (2 ^ 48) t x y za zb zc i _ _ here walk in
    let small = c.depth_numerator-first.ensures.depths in
    record {
      depths = λ k d low. elim (cases_lt k i) [
        | inl less ↦ get_or-set_other c.loop-i.out i k _ d (λ same. omega (arith, same, less)) ∙ before.depths k d less
        | inr more ↦ let same : k ≡ i = omega arith in
            get_or-set_at c.loop-i.out i k _ d same (omega (arith, c.loop-i.auto.out, c.loop-i-test.true)) ∙ rw same depth
      ];
      walk = λ more. walk_on (2 ^ 48) (2 ^ 16) t x y za zb zc i _ _ refl small.0 small.1.0 small.1.1 here (along (i + 1) more) walk;
    }

pub returns : goal.returns
returns c = columns_from 0 _ c.args.x _ c.loop-i.out c.loop-i.auto.out (λ k d low. c.loop-i.invariant.depths k d (omega arith))
