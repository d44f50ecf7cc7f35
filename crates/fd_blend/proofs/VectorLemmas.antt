-- Vectors of eight 16-bit elements: the lesser and the greater of two, element by element.
use Rattle.std.proofs.Common.{◌≡◌, ℕ, ◌-◌, ◌<◌, ◌≤◌, ◌^◌, min, max, List, length, map, get_or, refl, ap, ◌∙◌, arith, cond, ltb, Bool, true, false}
use Rattle.std.proofs.lemmas.Bool.{ltb-true, ltb-false}
use Rattle.std.proofs.lemmas.Simd.{tops_compared, length-zip2, length-sel_l, get_or-sel_l, get_or-zip2}
use lib.Lanes.{zip2, sel_l, top}
use mir.Syntax.{w16}
use mir.Val.{hbits, bits}

abbrev pub below : List ℕ → List ℕ → List Bool
below xs ys = map (top (hbits w16)) (zip2 (λ a b. cond (ltb a b) (2 ^ bits w16 - 1) 0) xs ys)

abbrev pub lesser : List ℕ → List ℕ → List ℕ
lesser xs ys = sel_l (below xs ys) xs ys

abbrev pub greater : List ℕ → List ℕ → List ℕ
greater xs ys = sel_l (below xs ys) ys xs

pub length-chosen : (xs ys cs bs : List ℕ) (n : ℕ) → length xs ≡ n → length ys ≡ n → length cs ≡ n → length bs ≡ n → length (sel_l (below xs ys) cs bs) ≡ n
length-chosen xs ys cs bs n lx ly la lb =
    let long = length-zip2 ltb xs ys (omega arith) in
    ap (λ ms. length (sel_l ms cs bs)) (tops_compared w16 ltb xs ys) ∙ length-sel_l (zip2 ltb xs ys) cs bs (omega arith) (omega arith) ∙ omega arith

pub get_or-chosen : (xs ys cs bs : List ℕ) (n k : ℕ) → length xs ≡ n → length ys ≡ n → length cs ≡ n → length bs ≡ n → k < n
    → get_or (sel_l (below xs ys) cs bs) k 0 ≡ cond (ltb (get_or xs k 0) (get_or ys k 0)) (get_or cs k 0) (get_or bs k 0)
get_or-chosen xs ys cs bs n k lx ly la lb h =
    let long = length-zip2 ltb xs ys (omega arith) in
    ap (λ ms. get_or (sel_l ms cs bs) k 0) (tops_compared w16 ltb xs ys)
    ∙ get_or-sel_l (zip2 ltb xs ys) cs bs k 0 (omega arith) (omega arith) (omega arith)
    ∙ ap (λ t. cond t (get_or cs k 0) (get_or bs k 0)) (get_or-zip2 ltb xs ys k 0 0 false (omega arith) (omega arith))

min_by : (a b : ℕ) (t : Bool) → ltb a b ≡ t → cond t a b ≡ min a b
min_by a b true e = let low : a < b = ltb-true a b e in omega arith
min_by a b false e = let high : b ≤ a = ltb-false a b e in omega arith

max_by : (a b : ℕ) (t : Bool) → ltb a b ≡ t → cond t b a ≡ max a b
max_by a b true e = let low : a < b = ltb-true a b e in omega arith
max_by a b false e = let high : b ≤ a = ltb-false a b e in omega arith

pub get_or-lesser : (xs ys : List ℕ) (n k : ℕ) → length xs ≡ n → length ys ≡ n → k < n → get_or (lesser xs ys) k 0 ≡ min (get_or xs k 0) (get_or ys k 0)
get_or-lesser xs ys n k lx ly h = get_or-chosen xs ys xs ys n k lx ly lx ly h ∙ min_by (get_or xs k 0) (get_or ys k 0) (ltb (get_or xs k 0) (get_or ys k 0))
    refl

pub get_or-greater : (xs ys : List ℕ) (n k : ℕ) → length xs ≡ n → length ys ≡ n → k < n → get_or (greater xs ys) k 0 ≡ max (get_or xs k 0) (get_or ys k 0)
get_or-greater xs ys n k lx ly h = get_or-chosen xs ys ys xs n k lx ly ly lx h ∙ max_by (get_or xs k 0) (get_or ys k 0) (ltb (get_or xs k 0) (get_or ys k 0))
    refl
