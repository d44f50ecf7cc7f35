-- Texels as the bytes of a row give them.
use Rattle.std.proofs.Common.{◌≡◌, ℕ, ◌+◌, ◌-◌, ◌*◌, ◌<◌, ◌≤◌, zero, suc, List, [], ◌∷◌, length, take, drop, refl, sym, ap, ◌∙◌, arith}
use Rattle.std.proofs.Common.{true, get_or, length-drop}
use Rattle.std.specs.Prelude.{Option, Some, None, Ok, false, is_none, is_some, unwrap_or}
use Rattle.std.proofs.Math.Nat.{mul_comm}
use Rattle.std.proofs.lemmas.Bool.Decides.{nat_tests}
use Rattle.std.proofs.lemmas.List.{drop-take, drop-drop}
use Rattle.fd_events.specs.Picture.{Painting, first_colour, is_hole, is_inside, made_painting, no_colour, texel, texel_number}
use Rattle.fd_events.proofs.Images.{pixel_in}

-- four bytes are enough for a colour
pub first_colour-take : (n : ℕ) (xs : List ℕ) → 4 ≤ n → first_colour (take n xs) ≡ first_colour xs
first_colour-take zero xs le = absurd (omega arith)
first_colour-take (suc zero) xs le = absurd (omega arith)
first_colour-take (suc (suc zero)) xs le = absurd (omega arith)
first_colour-take (suc (suc (suc zero))) xs le = absurd (omega arith)
first_colour-take (suc (suc (suc (suc n)))) [] le = refl
first_colour-take (suc (suc (suc (suc n)))) (a ∷ []) le = refl
first_colour-take (suc (suc (suc (suc n)))) (a ∷ b ∷ []) le = refl
first_colour-take (suc (suc (suc (suc n)))) (a ∷ b ∷ c ∷ []) le = refl
first_colour-take (suc (suc (suc (suc n)))) (a ∷ b ∷ c ∷ d ∷ xs) le = refl

some_of : (xs : List ℕ) → 4 ≤ length xs → is_some (first_colour xs) ≡ true
some_of [] le = absurd (omega arith)
some_of (a ∷ []) le = absurd (omega arith)
some_of (a ∷ b ∷ []) le = absurd (omega arith)
some_of (a ∷ b ∷ c ∷ []) le = absurd (omega arith)
some_of (a ∷ b ∷ c ∷ d ∷ xs) le = refl

-- the colour of a texel among the bytes of some that follow one another
pub colour_among : (first count k n : ℕ) (xs : List ℕ) → k < count → n ≡ 4 * count
    → first_colour (drop (4 * (first + k)) xs) ≡ first_colour (drop (4 * k) (take n (drop (4 * first) xs)))
colour_among first count k n xs low is =
    let m = 4 * (count - k) in
    let parts : n ≡ 4 * k + m = omega (arith, low, is) in
    let at : 4 * first + 4 * k ≡ 4 * (first + k) = omega arith in
    sym (ap (λ j. first_colour (drop (4 * k) (take j (drop (4 * first) xs)))) parts
    ∙ ap first_colour (drop-take (4 * k) m (drop (4 * first) xs))
    ∙ first_colour-take m (drop (4 * k) (drop (4 * first) xs)) (omega (arith, low))
    ∙ ap first_colour (drop-drop (4 * k) (4 * first) xs)
    ∙ ap (λ j. first_colour (drop j xs)) at)

-- four bytes are one
pub some_colour : (k count : ℕ) (xs : List ℕ) → length xs ≡ 4 * count → k < count → is_some (first_colour (drop (4 * k) xs)) ≡ true
some_colour k count xs long low = some_of (drop (4 * k) xs) (omega (arith, length-drop (4 * k) xs, long, low))

-- a picture without holes has a colour for each pixel of its box
texels_long : (left top width height : ℕ) (texels : List ℕ) (holes : Option (List ℕ)) (p : Painting)
    → made_painting left top width height texels holes ≡ Ok p → length texels ≡ 4 * (width * height)
texels_long left top width height texels holes p made = grind (arith, nat_tests)

whole : (holes : Option (List ℕ)) (n : ℕ) → is_none holes ≡ true → is_hole holes n ≡ false
whole None n is = refl
whole (Some holes) n is = absurd (cc)

pub texel_there : (p : Painting) (x y : ℕ) → made_painting p.left p.top p.width p.height p.texels p.holes ≡ Ok p → is_none p.holes ≡ true
    → is_inside p x y ≡ true → is_some (texel p x y) ≡ true
unfolding texel
texel_there p x y made no_holes inside =
    let n = texel_number p x y in
    let column : x - p.left < p.width = grind (arith, nat_tests) in
    let row : y - p.top < p.height = grind (arith, nat_tests) in
    let low : n < p.width * p.height = omega (arith, pixel_in p.width p.height (x - p.left) (y - p.top) column row, mul_comm p.width p.height) in
    rw (inside, whole p.holes n no_holes)
    (some_colour n (p.width * p.height) p.texels (texels_long p.left p.top p.width p.height p.texels p.holes p made) low)

-- the colour of four bytes, by each of them
pub colour_at : (n : ℕ) (xs : List ℕ) (r g b a : ℕ) → n + 4 ≤ length xs
    → record { r = get_or xs n r; g = get_or xs (n + 1) g; b = get_or xs (n + 2) b; a = get_or xs (n + 3) a } ≡ unwrap_or (first_colour (drop n xs)) no_colour
colour_at zero [] r g b a le = absurd (omega arith)
colour_at zero (_ ∷ []) r g b a le = absurd (omega arith)
colour_at zero (_ ∷ _ ∷ []) r g b a le = absurd (omega arith)
colour_at zero (_ ∷ _ ∷ _ ∷ []) r g b a le = absurd (omega arith)
colour_at zero (_ ∷ _ ∷ _ ∷ _ ∷ xs) r g b a le = refl
colour_at (suc n) [] r g b a le = absurd (omega arith)
colour_at (suc n) (x ∷ xs) r g b a le =
    let one : suc n + 1 ≡ suc (n + 1) = omega arith in
    let two : suc n + 2 ≡ suc (n + 2) = omega arith in
    let three : suc n + 3 ≡ suc (n + 3) = omega arith in
    rw (one, two, three) (colour_at n xs r g b a (omega (arith, le)))
