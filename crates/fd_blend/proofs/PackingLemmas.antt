-- The bytes of words, each of which stands for a colour.
use Rattle.std.proofs.Common.{◌≡◌, ℕ, suc, ◌+◌, ◌*◌, ◌<◌, ◌%◌, ◌/◌, ◌∷◌, ap, ◌∙◌, arith}
use lib.Lanes.{digits_l}
use Rattle.fd_blend.specs.declared.channel.Colour.{Colour}
use Rattle.fd_blend.specs.Packing.{word_of}

lowest : (n a x : ℕ) → a < 256 → digits_l 256 (suc n) (a + 256 * x) ≡ a ∷ digits_l 256 n x
lowest n a x h =
    let low : (a + 256 * x) % 256 ≡ a = omega arith in
    let high : (a + 256 * x) / 256 ≡ x = omega arith in
    λ i. low i ∷ digits_l 256 n (high i)

-- a colour's word is its four bytes, and the next word comes after them
pub colour_first : (n : ℕ) (c : Colour) (w x : ℕ) → w ≡ word_of c → c.r < 256 → c.g < 256 → c.b < 256 → c.a < 256
    → digits_l 256 (suc (suc (suc (suc n)))) (w + 4294967296 * x) ≡ c.r ∷ c.g ∷ c.b ∷ c.a ∷ digits_l 256 n x
colour_first n c w x is r g b a =
    let same : w + 4294967296 * x ≡ c.r + 256 * (c.g + 256 * (c.b + 256 * (c.a + 256 * x))) = omega arith in
    ap (digits_l 256 (suc (suc (suc (suc n))))) same
    ∙ lowest (suc (suc (suc n))) c.r (c.g + 256 * (c.b + 256 * (c.a + 256 * x))) r
    ∙ ap (λ l. c.r ∷ l) (lowest (suc (suc n)) c.g (c.b + 256 * (c.a + 256 * x)) g
    ∙ ap (λ l. c.g ∷ l) (lowest (suc n) c.b (c.a + 256 * x) b
    ∙ ap (λ l. c.b ∷ l) (lowest n c.a x a)))
