use Rattle.std.proofs.Common.{refl, arith, ◌<◌, w8}
use Rattle.std.proofs.lemmas.Simd.{Each1-get_or, below_from_Fits}
use Rattle.fd_blend.proofs.vectors.added.Goals as goal

pub returns-clause-elements : goal.returns-clause-elements
returns-clause-elements c = λ k lt.
    let chosen = c.chosen.ensures.elements k lt in
    let converted = c.converted.ensures.elements k lt in
    let units = c.sums-units.ensures.elements k lt in
    let dst = c.weighted.ensures.elements k lt in
    rw (chosen, converted, units, dst) refl

pub returns-clause-small : goal.returns-clause-small
returns-clause-small c = λ k lt. Each1-get_or (λ x. x < 256) c.args.bytes k 0 (omega arith) (below_from_Fits w8 c.args.bytes c.fits-bytes.1)
