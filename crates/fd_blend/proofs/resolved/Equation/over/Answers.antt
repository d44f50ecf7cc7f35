use Rattle.std.proofs.Common.{◌≡◌, ℕ, ◌<◌, ◌∙◌, arith, slice_index}
use Rattle.fd_blend.specs.declared.channel.Channel.TheVariants.{Red, Green, Blue, Alpha}
use Rattle.fd_blend.specs.Brush.{in_elements, weighted_source, destination_factor}
use Rattle.fd_blend.specs.Channel.{fresh}
use Rattle.fd_blend.specs.Vectors.{added_element}
use Rattle.fd_blend.specs.Mask.{writes}
use Rattle.fd_blend.specs.Packing.{pair_bytes}
use Rattle.fd_blend.specs.Resolved.{written_of, weighted}
use Rattle.fd_blend.proofs.BrushLemmas.{added_by}
use Rattle.fd_blend.proofs.ResolvedLemmas.{bytes_by, colour_by, weighted_blend}
use Rattle.fd_blend.proofs.resolved.Equation.over.Goals as goal

pub returns-clause-first : goal.returns-clause-first
returns-clause-first c = λ state source is_of settled.
    let rgb = c.args.self.now.rgb in
    let alpha = c.args.self.now.alpha in
    let mask = c.args.self.now.mask in
    let factor = c.args.self.now.factor in
    let d = c.args.d in
    let e = c.args.e in
    let elements = c.requires.elements in
    let small : (k : ℕ) → k < 8 → slice_index (pair_bytes d e) k < 256 = λ k lt. rw (c.pair_bytes-bytes.ensures) at (c.added-elements.ensures.small k lt) in
    let src = bytes_by source settled.source_r settled.source_g settled.source_b settled.source_a in
    let dst = bytes_by d (small 0 (omega arith)) (small 1 (omega arith)) (small 2 (omega arith)) (small 3 (omega arith)) in
    let element : (k : ℕ) → k < 8 → slice_index c.added-elements.result k
    ≡ added_element (pair_bytes d e) (in_elements (λ part channel. weighted_source part channel factor source) rgb alpha)
    (in_elements (λ part channel. destination_factor part channel factor source) rgb alpha) (written_of mask) k
    = λ k lt. c.added-elements.ensures.elements k lt
    ∙ (λ i. added_element (c.pair_bytes-bytes.ensures i) (settled.of_sources i) (settled.of_factors i) (elements.under_mask i) k) in
    let bound = bytes_by factor elements.factor_r elements.factor_g elements.factor_b elements.factor_a in
    c.colours_of.ensures.first ∙ colour_by {c = weighted rgb alpha mask factor source d}
    (element 0 (omega arith) ∙ added_by (writes mask Red) rgb Red factor source d fresh settled.rgb_adds)
    (element 1 (omega arith) ∙ added_by (writes mask Green) rgb Green factor source d fresh settled.rgb_adds)
    (element 2 (omega arith) ∙ added_by (writes mask Blue) rgb Blue factor source d fresh settled.rgb_adds)
    (element 3 (omega arith) ∙ added_by (writes mask Alpha) alpha Alpha factor source d fresh settled.alpha_adds)
    ∙ weighted_blend state rgb alpha mask factor source d is_of bound src dst

pub returns-clause-second : goal.returns-clause-second
returns-clause-second c = λ state source is_of settled.
    let rgb = c.args.self.now.rgb in
    let alpha = c.args.self.now.alpha in
    let mask = c.args.self.now.mask in
    let factor = c.args.self.now.factor in
    let d = c.args.d in
    let e = c.args.e in
    let elements = c.requires.elements in
    let small : (k : ℕ) → k < 8 → slice_index (pair_bytes d e) k < 256 = λ k lt. rw (c.pair_bytes-bytes.ensures) at (c.added-elements.ensures.small k lt) in
    let src = bytes_by source settled.source_r settled.source_g settled.source_b settled.source_a in
    let dst = bytes_by e (small 4 (omega arith)) (small 5 (omega arith)) (small 6 (omega arith)) (small 7 (omega arith)) in
    let element : (k : ℕ) → k < 8 → slice_index c.added-elements.result k
    ≡ added_element (pair_bytes d e) (in_elements (λ part channel. weighted_source part channel factor source) rgb alpha)
    (in_elements (λ part channel. destination_factor part channel factor source) rgb alpha) (written_of mask) k
    = λ k lt. c.added-elements.ensures.elements k lt
    ∙ (λ i. added_element (c.pair_bytes-bytes.ensures i) (settled.of_sources i) (settled.of_factors i) (elements.under_mask i) k) in
    let bound = bytes_by factor elements.factor_r elements.factor_g elements.factor_b elements.factor_a in
    c.colours_of.ensures.second ∙ colour_by {c = weighted rgb alpha mask factor source e}
    (element 4 (omega arith) ∙ added_by (writes mask Red) rgb Red factor source e fresh settled.rgb_adds)
    (element 5 (omega arith) ∙ added_by (writes mask Green) rgb Green factor source e fresh settled.rgb_adds)
    (element 6 (omega arith) ∙ added_by (writes mask Blue) rgb Blue factor source e fresh settled.rgb_adds)
    (element 7 (omega arith) ∙ added_by (writes mask Alpha) alpha Alpha factor source e fresh settled.alpha_adds)
    ∙ weighted_blend state rgb alpha mask factor source e is_of bound src dst
