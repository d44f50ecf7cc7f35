use Rattle.std.proofs.Common.{◌+◌, ◌*◌, refl, ap, ◌∙◌, arith, ◌<◌, w8}
use Rattle.std.specs.List.{slice_index}
use Rattle.std.proofs.lemmas.Simd.{Each1-get_or, below_from_Fits}
use Rattle.fd_blend.proofs.vectors.blended.Goals as goal

pub returns-clause-elements : goal.returns-clause-elements
returns-clause-elements c = λ k lt.
    let chosen = c.chosen.ensures.elements k lt in
    let kept = c.upper_half.ensures.upper k lt in
    let converted = c.converted.ensures.elements k lt in
    let units = c.combined_parts-units.ensures.elements k lt in
    let src = c.halves.ensures.lower k lt ∙ c.products-weighted.ensures.elements k (omega arith)
    ∙ ap (λ f. slice_index c.args.bytes k * f) (c.factors.ensures.elements k (omega arith)) in
    let dst = c.halves.ensures.upper k lt ∙ c.products-weighted.ensures.elements (8 + k) (omega arith) ∙ ap (λ f. slice_index c.args.bytes (8 + k) * f)
    (c.factors.ensures.elements (8 + k) (omega arith)) in
    rw (chosen, kept, converted, units, src, dst) refl

pub returns-clause-small : goal.returns-clause-small
returns-clause-small c = λ k lt. Each1-get_or (λ x. x < 256) c.args.bytes k 0 (omega arith) (below_from_Fits w8 c.args.bytes c.fits-bytes.1)
