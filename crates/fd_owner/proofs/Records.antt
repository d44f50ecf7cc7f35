-- What the frames keep, told as records: pixel by pixel, and how many in all.
use Rattle.std.proofs.Common.{◌≡◌, ◌≢◌, ℕ, zero, suc, ◌+◌, ◌-◌, ◌<◌, ◌≤◌, Bool, true, false, cond, eqb, List, [], ◌∷◌, length, get_or, refl, ap}
use Rattle.std.proofs.Common.{◌∙◌, arith, inl, inr, ◌⊎◌}
use Rattle.std.specs.Prelude.{◌&&◌, nat_le, map, All}
use Rattle.std.specs.List.{sum_by, range_with_len}
use Rattle.std.proofs.lemmas.Bool.{ne_eqb, cases_lt, cases_eq, and_right}
use Rattle.std.proofs.lemmas.Bool.Decides.{nat_tests}
use Rattle.std.proofs.lemmas.List.{get_or-map, get_or_past}
use Rattle.std.proofs.lemmas.List.Sums.{sum_by-cons}
use Rattle.std.proofs.lemmas.List.FromFn.{get_or-map-range_with_len, length-map-range_with_len}
use Rattle.std.proofs.lemmas.List.Elements.{All-head, All-tail, All-get_or}
use Rattle.fd_tile.specs.declared.place.Place.{Place}
use Rattle.fd_tile.specs.Place.{Holds, over_place}
use Rattle.fd_tile.specs.Tile.{Pixel, TileImage}
use Rattle.fd_tile.proofs.Pixels.{value_in-over_place}
use Rattle.fd_undo.specs.Frame.{KeptPixel, kept_at}
use Rattle.fd_undo.specs.Undo.{Undo, recorded_in}
use Rattle.fd_undo.proofs.FrameLemmas.{recorded_in-cons}
use Rattle.fd_undo.proofs.Restored.{Inside}
use Rattle.fd_draw.specs.Demand.{total}
use Rattle.fd_draw.proofs.Counts.{total_same, total_nothing}
use Rattle.fd_owner.specs.History.{Frame, pixels_kept, pixels_recorded}
use Rattle.fd_owner.specs.Owner.{record_of, frames_seen, history_of, IsOwner}

-- ---- one pixel
-- a pixel outside the place is not kept
kept_at-outside : (p : Place) (ks : List KeptPixel) (x y : ℕ) → Inside p ks → (Holds p x y → ⊥) → kept_at ks x y ≡ []
kept_at-outside p [] x y inside out = refl
kept_at-outside p (k ∷ ks) x y inside out =
    let held : Holds p k.x k.y = All-head (λ (q : KeptPixel). Holds p q.x q.y) k ks inside in
    rw (apart k.x k.y held (cases_eq k.x x) (cases_eq k.y y)) (kept_at-outside p ks x y (All-tail (λ (q : KeptPixel). Holds p q.x q.y) k ks inside) out)
  where
    apart : (a b : ℕ) → Holds p a b → (a ≡ x) ⊎ (a ≢ x) → (b ≡ y) ⊎ (b ≢ y) → (eqb a x && eqb b y) ≡ false
    apart a b held (inr across) down = rw (ne_eqb a x across) refl
    apart a b held (inl across) (inr down) = and_right (eqb a x) (eqb b y) (ne_eqb b y down)
    apart a b held (inl across) (inl down) = absurd (out (rw (← across, ← down) held))

-- nothing is listed past its last row, or past the end of a row
over_place-below : {X : Type 0} (p : Place) (f : ℕ → ℕ → List X) (x y : ℕ) → p.top + p.height ≤ y → get_or (get_or (over_place p f) (y - p.top) [])
    (x - p.left) [] ≡ []
over_place-below p f x y past = grind (arith, get_or_past, length-map-range_with_len)

over_place-right : {X : Type 0} (p : Place) (f : ℕ → ℕ → List X) (x y : ℕ) → p.top ≤ y → y < p.top + p.height → p.left + p.width ≤ x
    → get_or (get_or (over_place p f) (y - p.top) []) (x - p.left) [] ≡ []
over_place-right p f x y from to past =
    let row : y - p.top < p.height = omega arith in
    let down : p.top + (y - p.top) ≡ y = omega arith in
    grind (arith, get_or-map-range_with_len, row, get_or_past, length-map-range_with_len)

-- a record at one pixel
record_of-at : (p : Place) (ks : List KeptPixel) (x y : ℕ) → Inside p ks
    → cond (nat_le p.left x && nat_le p.top y) (get_or (get_or (record_of p ks) (y - p.top) []) (x - p.left) []) [] ≡ kept_at ks x y
record_of-at p ks x y inside = by_place (cases_lt x p.left) (cases_lt y p.top) (cases_lt x (p.left + p.width)) (cases_lt y (p.top + p.height))
  where
    by_place : (x < p.left) ⊎ (p.left ≤ x) → (y < p.top) ⊎ (p.top ≤ y) → (x < p.left + p.width) ⊎ (p.left + p.width ≤ x) → (y < p.top + p.height)
        ⊎ (p.top + p.height ≤ y)
        → cond (nat_le p.left x && nat_le p.top y) (get_or (get_or (record_of p ks) (y - p.top) []) (x - p.left) []) [] ≡ kept_at ks x y
    by_place (inl left) top right bottom =
        let none = kept_at-outside p ks x y inside (λ held. absurd (omega (arith, held.from_left))) in grind (arith, nat_tests, none)
    by_place (inr left) (inl top) right bottom =
        let none = kept_at-outside p ks x y inside (λ held. absurd (omega (arith, held.from_top))) in grind (arith, nat_tests, none)
    by_place (inr left) (inr top) right (inr bottom) =
        let none = kept_at-outside p ks x y inside (λ held. absurd (omega (arith, held.to_bottom))) in
        let past = over_place-below p (λ a b. kept_at ks a b) x y bottom in
        grind (arith, nat_tests, none, past)
    by_place (inr left) (inr top) (inr right) (inl bottom) =
        let none = kept_at-outside p ks x y inside (λ held. absurd (omega (arith, held.to_right))) in
        let past = over_place-right p (λ a b. kept_at ks a b) x y top bottom right in
        grind (arith, nat_tests, none, past)
    by_place (inr left) (inr top) (inl right) (inl bottom) =
        let held : Holds p x y = record { from_left = left; to_right = right; from_top = top; to_bottom = bottom } in
        let at = value_in-over_place p (λ a b. kept_at ks a b) x y [] held in
        grind (arith, nat_tests, at)

-- the records that are seen are the frames', one by one
records-frames_seen : (t : TileImage) (frames : List (List KeptPixel)) → map (λ (f : Frame). f.kept) (frames_seen t frames) ≡ map (record_of t.place) frames
records-frames_seen t [] = refl
records-frames_seen t (f ∷ frames) = ap (λ rs. record_of t.place f ∷ rs) (records-frames_seen t frames)

pub pixels_kept-history_of : (t : TileImage) (u : Undo) (i x y : ℕ) → IsOwner t u → 1 ≤ i → i ≤ length u.frames
    → pixels_kept t.place (history_of t u) i x y ≡ kept_at (get_or u.frames (i - 1) []) x y
pixels_kept-history_of t u i x y owner first last = grind (arith, records-frames_seen, get_or-map, record_of-at, All-get_or, Inside)

-- ---- how many
total-plus : (f g : ℕ → ℕ) (a n : ℕ) → total (λ k. f k + g k) a n ≡ total f a n + total g a n
total-plus f g a zero = refl
total-plus f g a (suc n) =
    let rest = total-plus f g (a + 1) n in omega (arith, rest)

-- one of the numbers counts one
total-one : (j a n : ℕ) → a ≤ j → j < a + n → total (λ k. cond (eqb j k) 1 0) a n ≡ 1
total-one j a zero low high = absurd (omega arith)
total-one j a (suc n) low high = step (cases_eq j a) (λ next. total-one j (a + 1) n next (omega arith))
  where
    step : (j ≡ a) ⊎ (j ≢ a) → (a + 1 ≤ j → total (λ k. cond (eqb j k) 1 0) (a + 1) n ≡ 1) → cond (eqb j a) 1 0 + total (λ k. cond (eqb j k) 1 0) (a + 1) n ≡ 1
    step (inl here) rest =
        let others = total_nothing (λ k. cond (eqb j k) 1 0) (a + 1) n (λ k from to. grind (arith, nat_tests)) in grind (arith, nat_tests, others)
    step (inr later) rest = let one = rest (omega (arith, later)) in grind (arith, nat_tests, one)

sum-range : {X : Type 0} (g : X → ℕ) (f : ℕ → X) (a n : ℕ) → sum_by g (map f (range_with_len a n)) ≡ total (λ k. g (f k)) a n
sum-range g f a zero = refl
sum-range g f a (suc n) = sum_by-cons g (f a) (map f (range_with_len (a + 1) n)) ∙ ap (λ m. g (f a) + m) (sum-range g f (a + 1) n)

-- f at each pixel of a place, added up
abbrev total_over : Place → (ℕ → ℕ → ℕ) → ℕ
total_over p f = total (λ y. total (λ x. f x y) p.left p.width) p.top p.height

total_over-same : (p : Place) (f g : ℕ → ℕ → ℕ) → ((x y : ℕ) → f x y ≡ g x y) → total_over p f ≡ total_over p g
total_over-same p f g same = grind arith

total_over-plus : (p : Place) (f g : ℕ → ℕ → ℕ) → total_over p (λ x y. f x y + g x y) ≡ total_over p f + total_over p g
total_over-plus p f g =
    total_same (λ y. total (λ x. f x y + g x y) p.left p.width) (λ y. total (λ x. f x y) p.left p.width + total (λ x. g x y) p.left p.width) p.top p.height
    (λ y _ _. total-plus (λ x. f x y) (λ x. g x y) p.left p.width)
    ∙ total-plus (λ y. total (λ x. f x y) p.left p.width) (λ y. total (λ x. g x y) p.left p.width) p.top p.height

-- one of the pixels counts one
total_over-one : (p : Place) (a b : ℕ) → Holds p a b → total_over p (λ x y. cond (eqb a x && eqb b y) 1 0) ≡ 1
total_over-one p a b held =
    total_same (λ y. total (λ x. cond (eqb a x && eqb b y) 1 0) p.left p.width) (λ y. cond (eqb b y) 1 0) p.top p.height (λ y _ _. row held (eqb b y))
    ∙ total-one b p.top p.height held.from_top held.to_bottom
  where
    row : Holds p a b → (down : Bool) → total (λ x. cond (eqb a x && down) 1 0) p.left p.width ≡ cond down 1 0
    row held true =
        total_same (λ x. cond (eqb a x && true) 1 0) (λ x. cond (eqb a x) 1 0) p.left p.width (λ x _ _. grind arith)
        ∙ total-one a p.left p.width held.from_left held.to_right
    row held false = total_nothing (λ x. cond (eqb a x && false) 1 0) p.left p.width (λ x _ _. grind arith)

sum-over_place : {X : Type 0} (p : Place) (f : ℕ → ℕ → List X) → sum_by (λ row. sum_by length row) (over_place p f) ≡ total_over p (λ x y. length (f x y))
sum-over_place p f =
    sum-range (λ row. sum_by length row) (λ y. map (λ x. f x y) (range_with_len p.left p.width)) p.top p.height
    ∙ total_same _ (λ y. total (λ x. length (f x y)) p.left p.width) p.top p.height (λ y _ _. sum-range length (λ x. f x y) p.left p.width)

length-cond : (b : Bool) (c : Pixel) (cs : List Pixel) → length (cond b (c ∷ cs) cs) ≡ cond b 1 0 + length cs
length-cond b c cs = grind arith

-- each pixel that is kept counts at one place
total_kept : (p : Place) (ks : List KeptPixel) → Inside p ks → total_over p (λ x y. length (kept_at ks x y)) ≡ length ks
total_kept p [] inside = grind (arith, total_nothing)
total_kept p (k ∷ ks) inside =
    let held : Holds p k.x k.y = All-head (λ (q : KeptPixel). Holds p q.x q.y) k ks inside in
    total_over-same p (λ x y. length (kept_at (k ∷ ks) x y)) (λ x y. cond (eqb k.x x && eqb k.y y) 1 0 + length (kept_at ks x y))
    (λ x y. length-cond (eqb k.x x && eqb k.y y) k.pixel (kept_at ks x y))
    ∙ total_over-plus p (λ x y. cond (eqb k.x x && eqb k.y y) 1 0) (λ x y. length (kept_at ks x y))
    ∙ omega (arith, total_over-one p k.x k.y held, total_kept p ks (All-tail (λ (q : KeptPixel). Holds p q.x q.y) k ks inside))

-- all frames
records_sum : (p : Place) (frames : List (List KeptPixel)) → All (λ frame. Inside p frame) frames
    → sum_by (λ r. sum_by (λ row. sum_by length row) r) (map (record_of p) frames) ≡ recorded_in frames
records_sum p [] inside = refl
records_sum p (f ∷ frames) inside =
    let here = sum-over_place p (λ x y. kept_at f x y) ∙ total_kept p f (All-head (λ frame. Inside p frame) f frames inside) in
    let rest = records_sum p frames (All-tail (λ frame. Inside p frame) f frames inside) in
    cc (sum_by-cons (λ r. sum_by (λ row. sum_by length row) r) (record_of p f) (map (record_of p) frames), here, rest, recorded_in-cons f frames)

pub pixels_recorded-history_of : (t : TileImage) (u : Undo) → IsOwner t u → pixels_recorded (history_of t u) ≡ recorded_in u.frames
pixels_recorded-history_of t u owner = cc (records-frames_seen t u.frames, records_sum t.place u.frames owner.inside)
