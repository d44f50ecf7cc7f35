use Rattle.std.proofs.Common.{◌≡◌, suc, ◌+◌, ◌*◌, ◌/◌, length, arith, sym, ◌∙◌}
use Rattle.fd_blend.specs.Blend.{blend}
use Rattle.fd_blend.proofs.BrushLemmas.{none_changed, all_changed, not_yet_changed, one_more, two_more}
use Rattle.fd_blend.proofs.brush.draw_pairs.Goals as goal

pub loop-at-init : goal.loop-at-init
loop-at-init c = λ state is_of. sym (none_changed (blend state c.args.equation.factor c.args.source) c.args.dst.now)

pub loop-at-preserved : goal.loop-at-preserved
loop-at-preserved c = λ state is_of.
    let f = blend state c.args.equation.factor c.args.source in
    let i = 2 * c.loop-at.at in
    rw (
      c.pair.ensures.first state is_of,
      c.pair.ensures.second state is_of,
      c.loop-at.invariant state is_of,
      not_yet_changed f i i c.args.dst.now _ (omega arith),
      not_yet_changed f i
          (i + 1) c.args.dst.now _ (omega arith),
    )
    (two_more f i (2 * (c.loop-at.at + 1)) c.args.dst.now _ _ (omega (arith, c.loop-at-test.true)) (omega arith))

pub returns-else-pairs-dst : goal.returns-else-pairs-dst
returns-else-pairs-dst c = λ state is_of.
    let f = blend state c.args.equation.factor c.args.source in
    c.loop-at.invariant state is_of
    ∙ all_changed f (2 * c.loop-at.at) c.args.dst.now (omega (arith, c.loop-at.auto, c.loop-at-test.false, c.if-pairs-dst.false))

pub returns-then-pairs-dst : goal.returns-then-pairs-dst
returns-then-pairs-dst c = λ state is_of.
    let f = blend state c.args.equation.factor c.args.source in
    let half : c.loop-at.at ≡ length c.args.dst.now / 2 = omega (arith, c.loop-at.auto, c.loop-at-test.false) in
    let i = 2 * (length c.args.dst.now / 2) in
    rw (c.pair-then-pairs-dst.ensures.first state is_of, c.loop-at.invariant state is_of, half, not_yet_changed f i i c.args.dst.now _ (omega arith))
    (one_more f i c.args.dst.now _ (omega (arith, c.if-pairs-dst.true)))
    ∙ all_changed f (suc i) c.args.dst.now (omega (arith, c.if-pairs-dst.true))
