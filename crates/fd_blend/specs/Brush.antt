-- Working. One source that is drawn over many destinations.
use Rattle.std.specs.Prelude.{◌≡◌, ℕ, ◌*◌, ◌<◌, true, List, [], ◌∷◌, length, slice_index}
use Rattle.fd_blend.specs.declared.channel.Colour.{Colour}
use Rattle.fd_blend.specs.declared.channel.Channel.{Channel}
use Rattle.fd_blend.specs.declared.channel.Channel.TheVariants.{Red, Green, Blue, Alpha}
use Rattle.fd_blend.specs.declared.equation.Part.{Part}
use Rattle.fd_blend.specs.Blending.{Blending}
use Rattle.fd_blend.specs.Channel.{channel_of, fresh}
use Rattle.fd_blend.specs.Equation.{factor_value, adds_unseen}

-- a brush as contracts see it
pub record Stroke : Type 0 where
  pub state : Blending
  pub factor : Colour
  pub source : Colour

-- the source's factor over a destination that it does not look at, and its product with the source's channel
abbrev pub weighted_source : Part → Channel → Colour → Colour → ℕ
weighted_source part channel factor source = channel_of channel source * factor_value part.src channel factor source fresh

-- the destination's factor, which does not come from it
abbrev pub destination_factor : Part → Channel → Colour → Colour → ℕ
destination_factor part channel factor source = factor_value part.dst channel factor source fresh

-- eight elements: the channels of two pixels
abbrev pub in_elements : (Part → Channel → ℕ) → Part → Part → List ℕ
in_elements of rgb alpha =
    of rgb Red ∷ of rgb Green ∷ of rgb Blue ∷ of alpha Alpha ∷ of rgb Red ∷ of rgb Green ∷ of rgb Blue ∷ of alpha Alpha ∷ []

-- eight elements of products, and eight of factors
pub record AreWeights (sources factors : List ℕ) : Type 0 where
  pub eight_sources : length sources ≡ 8
  pub eight_factors : length factors ≡ 8
  pub bytes : (k : ℕ) → k < 8 → slice_index factors k < 256

-- both parts add, no factor comes from the destination, and the elements hold the weighted sources and the destinations' factors
pub record IsSettled (rgb alpha : Part) (factor source : Colour) (sources factors : List ℕ) : Type 0 where
  pub rgb_adds : adds_unseen rgb ≡ true
  pub alpha_adds : adds_unseen alpha ≡ true
  pub of_sources : sources ≡ in_elements (λ part channel. weighted_source part channel factor source) rgb alpha
  pub of_factors : factors ≡ in_elements (λ part channel. destination_factor part channel factor source) rgb alpha
  pub weights : AreWeights sources factors
  pub source_r : source.r < 256
  pub source_g : source.g < 256
  pub source_b : source.b < 256
  pub source_a : source.a < 256
