use Rattle.std.proofs.Common.{◌≡◌, ◌+◌, ◌-◌, ◌*◌, true, false, ap, sym, ◌∙◌, arith}
use Rattle.std.specs.Prelude.{is_some}
use Rattle.fd_events.specs.Picture.{texel}
use Rattle.fd_draw.specs.Mask.{has_bit}
use Rattle.fd_draw.proofs.Masks.{bits_grown, bound_grown, ones_set}
use Rattle.fd_draw.proofs.tested.mask_of.Goals as goal

pub loop-x-preserved-then-is_some : goal.loop-x-preserved-then-is_some
loop-x-preserved-then-is_some c =
    let inv = c.loop-x.invariant in
    let x = c.loop-x.x in
    let there : is_some (texel c.args.picture.now (x - 1) c.args.run.y) ≡ true = grind arith in
    record {
      from_left = omega (arith, c.loop-x-test.true);
      to_right = omega (arith, inv.to_right);
      bits = bits_grown (λ column. is_some (texel c.args.picture.now column c.args.run.y)) c.loop-x.mask x c.args.run.right 1
          (omega (arith, c.loop-x-test.true)) inv.to_right (omega arith) there inv.bits;
      bound = bound_grown c.loop-x.mask x c.args.run.right 1 (omega (arith, c.loop-x-test.true)) inv.to_right (omega arith) inv.bound;
    }

pub loop-x-preserved : goal.loop-x-preserved
loop-x-preserved c =
    let inv = c.loop-x.invariant in
    let x = c.loop-x.x in
    let same : c.loop-x.mask * 2 + 0 ≡ c.loop-x.mask * 2 = omega arith in
    let there : is_some (texel c.args.picture.now (x - 1) c.args.run.y) ≡ false = grind arith in
    record {
      from_left = omega (arith, c.loop-x-test.true);
      to_right = omega (arith, inv.to_right);
      bits = λ k low. ap (λ n. has_bit n k) (sym same)
          ∙ bits_grown (λ column. is_some (texel c.args.picture.now column c.args.run.y)) c.loop-x.mask x c.args.run.right 0
          (omega (arith, c.loop-x-test.true)) inv.to_right (omega arith) there inv.bits k low;
      bound = rw same at (bound_grown c.loop-x.mask x c.args.run.right 0 (omega (arith, c.loop-x-test.true)) inv.to_right (omega arith) inv.bound);
    }

pub returns-then-is_whole-clause-bits : goal.returns-then-is_whole-clause-bits
returns-then-is_whole-clause-bits c = λ k low. ones_set k (omega (arith, low, c.requires.few))
    ∙ sym (c.is_whole.ensures.filled c.if-is_whole.true (c.args.run.left + k) c.args.run.y
    (c.requires.inside (c.args.run.left + k) (omega arith) (omega (arith, low))))
