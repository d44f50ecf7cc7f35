use Rattle.std.proofs.Common.{◌≡◌, ℕ, ◌+◌, ◌*◌, ◌/◌, ◌<◌, ◌^◌, ◌∙◌, inl, inr, length, length-set, slice_set, subst, sym, arith}
use Rattle.std.proofs.lemmas.Bool.{cases_lt}
use Rattle.std.proofs.lemmas.List.{get_or-set_other}
use Rattle.std.proofs.lemmas.Grind.{get_or-set_at}
use Rattle.fd_cover.specs.Shade.{colour_of}
use Rattle.fd_cover.proofs.WalkLemmas.{AreWalks, IsAlong, walks_shade, walks_on, columns_from}
use Rattle.fd_cover.proofs.colour_walk.ColourWalk.row.Goals as goal
use Rattle.fd_cover.proofs.colour_walk.ColourWalk.row.Goals.{After-numerator-4}

-- each pixel is along the walk
along : (c : After-numerator-4) → (k : ℕ) → k < length c.args.out.now → IsAlong (2 ^ 56) c.args.triangle.now c.args.x c.args.y k
along c k inside = record {
  fine = omega (arith, c.requires.walk.small);
  first = c.requires.covered c.args.x (omega arith) (omega (arith, inside));
  here = c.requires.covered (c.args.x + k) (omega arith) (omega (arith, inside));
  few = omega (arith, inside, c.requires.few);
}

pub loop-pair-preserved : goal.loop-pair-preserved
loop-pair-preserved c =
    let t = c.args.triangle.now in
    let x = c.args.x in
    let y = c.args.y in
    let i = 2 * c.loop-pair.pair in
    let ka = colour_of c.args.colours.now 0 in
    let kb = colour_of c.args.colours.now 1 in
    let kc = colour_of c.args.colours.now 2 in
    let steps = c.args.self.now.steps in
    let out = c.loop-pair.out in
    let first = c.colours_of.result.0 in
    let second = c.colours_of.result.1 in
    let before = c.loop-pair.invariant in
    let on = along (goal.at-loop-pair-preserved c).After-numerator-4 in
    let odd : i + 1 < length c.args.out.now = omega (arith, c.loop-pair-test.true) in
    let even : i < length c.args.out.now = omega (arith, odd) in
    let red = c.numerator.ensures.bytes in
    let green = c.numerator-2.ensures.bytes in
    let blue = c.numerator-3.ensures.bytes in
    let alpha = c.numerator-4.ensures.bytes in
    let walks : AreWalks t x y ka kb kc i c.loop-pair.accumulators steps =
    record { red = before.red even; green = before.green even; blue = before.blue even; alpha = before.alpha even } in
    let next : AreWalks t x y ka kb kc (i + 1) c.moved-next.result steps = walks_on t x y ka kb kc i c.loop-pair.accumulators steps (on i even) walks
    c.moved-next.result c.moved-next.ensures.elements red green blue alpha (on (i + 1) odd) in
    let last : 2 * (c.loop-pair.pair + 1) < length c.args.out.now
    → AreWalks t x y ka kb kc (2 * (c.loop-pair.pair + 1)) c.moved-accumulators.result steps = λ more.
    subst (λ (n : ℕ). AreWalks t x y ka kb kc n c.moved-accumulators.result steps) {x = i + 1 + 1} {y = 2 * (c.loop-pair.pair + 1)} (omega arith)
    (walks_on t x y ka kb kc (i + 1) c.moved-next.result steps (on (i + 1) odd) next c.moved-accumulators.result c.moved-accumulators.ensures.elements
    red green blue alpha (on (i + 1 + 1) (omega (arith, more)))) in
    record {
      shaded = λ k d low. elim (cases_lt k i) [
        | inl less ↦ get_or-set_other _ (i + 1) k _ d (λ same. omega (arith, same, less))
            ∙ get_or-set_other out i k _ d (λ same. omega (arith, same, less)) ∙ before.shaded k d less
        | inr more ↦ elim (cases_lt i k) [
          | inl above ↦ let same : k ≡ i + 1 = omega (arith, low, above) in
              get_or-set_at _ (i + 1) k _ d same (omega (arith, c.loop-pair.auto.out, odd, length-set out i first))
              ∙ c.colours_of.ensures.second ∙ rw same (walks_shade t x y ka kb kc (i + 1) c.moved-next.result steps (on (i + 1) odd) next)
          | inr here ↦ let same : k ≡ i = omega (arith, more, here) in
              get_or-set_other _ (i + 1) k _ d (λ is. omega (arith, is, same))
              ∙ get_or-set_at out i k _ d same (omega (arith, c.loop-pair.auto.out, even))
              ∙ c.colours_of.ensures.first ∙ rw same (walks_shade t x y ka kb kc i c.loop-pair.accumulators steps (on i even) walks)
        ]
      ];
      accumulators = c.moved-accumulators.ensures.len;
      steps = before.steps;
      red = λ more. (last more).red;
      green = λ more. (last more).green;
      blue = λ more. (last more).blue;
      alpha = λ more. (last more).alpha;
    }

-- a last pixel by itself
pub returns-then-pairs-out : goal.returns-then-pairs-out
returns-then-pairs-out c =
    let t = c.args.triangle.now in
    let x = c.args.x in
    let y = c.args.y in
    let i = 2 * c.loop-pair.pair in
    let n = length c.args.out.now in
    let ka = colour_of c.args.colours.now 0 in
    let kb = colour_of c.args.colours.now 1 in
    let kc = colour_of c.args.colours.now 2 in
    let steps = c.args.self.now.steps in
    let out = c.loop-pair.out in
    let last = c.colours_of-then-pairs-out.result.0 in
    let before = c.loop-pair.invariant in
    let here : 2 * (n / 2) ≡ i = omega (arith, c.loop-pair-test.false, c.loop-pair.auto.pair-end) in
    let inside : i < n = omega (arith, here, c.if-pairs-out.true, c.loop-pair.auto.out) in
    let on = along (goal.at-returns-then-pairs-out c).After-numerator-4 i inside in
    let walks : AreWalks t x y ka kb kc i c.loop-pair.accumulators steps =
    record { red = before.red inside; green = before.green inside; blue = before.blue inside; alpha = before.alpha inside } in
    let place = 2 * (n / 2) in
    columns_from ka _ x n (slice_set out place last) (length-set out place last ∙ c.loop-pair.auto.out) (λ k d low. elim (cases_lt k i) [
      | inl less ↦ get_or-set_other out place k last d (λ same. omega (arith, same, less, here)) ∙ before.shaded k d less
      | inr more ↦ let same : k ≡ i = omega (arith, more, low, here, c.loop-pair-test.false) in
          get_or-set_at out place k last d (same ∙ sym here) (omega (arith, here, inside, c.loop-pair.auto.out))
          ∙ c.colours_of-then-pairs-out.ensures.first ∙ rw same (walks_shade t x y ka kb kc i c.loop-pair.accumulators steps on walks)
    ])

pub returns-else-pairs-out : goal.returns-else-pairs-out
returns-else-pairs-out c =
    columns_from (colour_of c.args.colours.now 0) _ c.args.x _ c.loop-pair.out c.loop-pair.auto.out
    (λ k d low. c.loop-pair.invariant.shaded k d (omega (arith, low, c.loop-pair-test.false, c.if-pairs-out.false, c.loop-pair.auto.out)))
