use Rattle.std.proofs.Common.{◌+◌, ◌*◌, arith, sym, ◌∙◌}
use Rattle.std.proofs.Math.Numerals.{add-one}
use Rattle.fd_blend.proofs.RowLemmas.{none_yet, row_upto-length, get_or-row_upto, set-row_upto, set_two-row_upto}
use Rattle.fd_blend.proofs.row.blend_pairs.Goals as goal

pub loop-pair-init : goal.loop-pair-init
loop-pair-init c = λ state is_of. sym (none_yet state c.args.equation.factor c.args.src.now c.args.dst.now)

pub loop-pair-preserved : goal.loop-pair-preserved
loop-pair-preserved c = λ state is_of.
    let first = c.pair.ensures.first state is_of in
    let second = c.pair.ensures.second state is_of in
    rw (first, second, c.loop-pair.invariant state is_of, get_or-row_upto)
    (set_two-row_upto state c.args.equation.factor c.args.src.now c.args.dst.now (2 * c.loop-pair.pair) (2 * (c.loop-pair.pair + 1)) _ _ c.requires.same
    (omega (arith, c.loop-pair-test.true)) (omega arith))

pub loop-i-preserved : goal.loop-i-preserved
loop-i-preserved c = λ state is_of.
    let one = c.one.ensures state is_of in
    rw (add-one, one, c.loop-i.invariant state is_of, get_or-row_upto)
    (set-row_upto state c.args.equation.factor c.args.src.now c.args.dst.now c.loop-i.i _ _ c.requires.same
    (omega (arith, c.loop-pair.auto, c.loop-i-test.true)))

pub returns : goal.returns
returns c = λ state is_of. c.loop-i.invariant state is_of ∙ row_upto-length state c.args.equation.factor c.args.src.now c.args.dst.now c.loop-i.i
    c.requires.same
    (omega (arith, c.loop-pair.auto, c.loop-i.auto, c.loop-i-test.false))
