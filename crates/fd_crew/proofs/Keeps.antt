-- Each step of the fence keeps its rule.
use Rattle.std.proofs.Common.{◌≡◌, ℕ, zero, suc, ◌+◌, ◌<◌, ◌≤◌, List, [], ◌∷◌, ◌++◌, min, set, slice_index, sym, refl, ap, ◌∙◌, subst, arith, ⊎_elim}
use mathlib.Core.Option.{none, some, some-injective}
use lib.ListN.{get_elem?}
use Rattle.atomic_table.specs.Table.{State, Me, step, keeps, Allows, Splits, Joins, opening, Final, Seen}
use Rattle.atomic_table.proofs.Lists.{at_set, at_snoc, set_else}
use Rattle.fd_crew.specs.declared.fence.View.{View}
use Rattle.fd_crew.specs.declared.fence.Crew.{Crew}
use Rattle.fd_crew.specs.Fence.{view, spent_view, front_view, back_view, joined_view, least_low, all_shares, IsSound, Kept, Looks, Lowers}

abbrev St : Type 0
St = State (Unit {0}) View

least_max : (l : List View) → least_low l ≤ 18446744073709551615
least_max [] = omega arith
least_max (x ∷ xs) = omega (arith, least_max xs)

pub least_le : (l : List View) (i : ℕ) (v : View) → get_elem? l i ≡ some v → least_low l ≤ v.low
least_le [] i v e = cc
least_le (x ∷ xs) zero v e = let is : x.low ≡ v.low = cc in omega arith
least_le (x ∷ xs) (suc i) v e = omega (arith, least_le xs i v e)

least_set : (l : List View) (i : ℕ) (v w : View) → get_elem? l i ≡ some v → (min (least_low (set l i w)) v.low ≡ min (least_low l) w.low)
    × (least_low (set l i w) ≤ w.low)
least_set [] i v w e = cc
least_set (x ∷ xs) zero v w e = let is : x.low ≡ v.low = cc in omega arith
least_set (x ∷ xs) (suc i) v w e = let r = least_set xs i v w e in omega arith

least_snoc : (l : List View) (w : View) → least_low (l ++ w ∷ []) ≡ min (least_low l) w.low
least_snoc [] w = omega arith
least_snoc (x ∷ xs) w = omega (arith, least_snoc xs w)

shares_set : (l : List View) (i : ℕ) (v w : View) → get_elem? l i ≡ some v → all_shares (set l i w) + v.share ≡ all_shares l + w.share
shares_set [] i v w e = cc
shares_set (x ∷ xs) zero v w e = let is : x.share ≡ v.share = cc in omega arith
shares_set (x ∷ xs) (suc i) v w e = omega (arith, shares_set xs i v w e)

shares_snoc : (l : List View) (w : View) → all_shares (l ++ w ∷ []) ≡ all_shares l + w.share
shares_snoc [] w = omega arith
shares_snoc (x ∷ xs) w = omega (arith, shares_snoc xs w)

abbrev EachSound : ℕ → List View → Type 0
EachSound n l = (id : ℕ) (v : View) → get_elem? l id ≡ some v → IsSound n v

sound_set : (l : List View) (m n : ℕ) (i : ℕ) (w : View) → n ≤ m → EachSound m l → IsSound n w → EachSound n (set l i w)
sound_set l m n i w le all here id v at = ⊎_elim (λ t. rw t.1 at here) (λ t. let f = all id v t.1 in omega arith) (at_set l i id w v at)

sound_snoc : (l : List View) (n : ℕ) (w : View) → EachSound n l → IsSound n w → EachSound n (l ++ w ∷ [])
sound_snoc l n w all here id v at = ⊎_elim (λ t. all id v t) (λ t. subst (λ (u : View). IsSound n u) t here) (at_snoc l w v id at)

placed : (l : List View) (i : ℕ) (v w : View) → get_elem? l i ≡ some v → get_elem? (set l i w) i ≡ some w
placed [] i v w e = cc
placed (x ∷ xs) zero v w e = refl
placed (x ∷ xs) (suc i) v w e = placed xs i v w e

-- a seat's view is replaced by one that may have lowered the word
kept_step : (crew : Crew) (s : St) (id n : ℕ) (v w : View) → Kept crew s → get_elem? s.views id ≡ some v → w.low ≤ v.low → w.share ≡ v.share
    → n ≡ min (least_low s.views) w.low → IsSound n w → Kept crew (record { words = set s.words 0 n; homes = s.homes; views = set s.views id w })
kept_step crew s id n v w k at low share is here =
    let r = least_set s.views id v w at in
    let same : n ≡ least_low (set s.views id w) = omega arith in
    let total = shares_set s.views id v w at in
    record { word = cc; shares = omega arith; sound = rw same at (sound_set s.views (least_low s.views) n id w (omega arith) k.sound here) }

word_is : (crew : Crew) (s : St) → Kept crew s → slice_index s.words 0 ≡ least_low s.views
word_is crew s k = ap (λ (ws : List ℕ). slice_index ws 0) k.word

pub looks : (crew : Crew) (slots id : ℕ) (me : Me (Unit {0}) View) → 0 < me.0.share
    → Allows (Kept crew) slots id me 0 (λ n. n) (Looks (step slots 0 0 0 none) me)
looks crew slots id me some_share s k _ at _ =
    let v : View = me.0 in
    let found : ℕ = slice_index s.words 0 in
    let is : found ≡ least_low s.views = word_is _ _ k in
    let under = least_le s.views id v at in
    let above = (k.sound id v at).above in
    let w : View = view found v.low v.share in (
      w,
      keeps,
      tt,
      kept_step _ _ _ _ _ _ k at (omega arith) refl (omega arith) (record { above = omega arith; spent = λ none_left. absurd (omega arith) }),
      (refl, omega arith, refl),
    )

pub lowers : (crew : Crew) (slots id to : ℕ) (me : Me (Unit {0}) View) → 0 < me.0.share
    → Allows (Kept crew) slots id me 0 (λ n. min n to) (Lowers (step slots 0 to 0 none) me)
lowers crew slots id to me some_share s k _ at _ =
    let v : View = me.0 in
    let found : ℕ = slice_index s.words 0 in
    let is : found ≡ least_low s.views = word_is _ _ k in
    let under = least_le s.views id v at in
    let above = (k.sound id v at).above in
    let w : View = view (min found to) (min v.low to) v.share in (
      w,
      keeps,
      tt,
      kept_step _ _ _ _ _ _ k at (omega arith) refl (omega arith) (record { above = omega arith; spent = λ none_left. absurd (omega arith) }),
      (refl, omega arith, refl),
    )

pub splits : (crew : Crew) (id : ℕ) (v : View) → 2 ≤ v.share → Splits (Kept crew) id v (front_view v) (back_view v)
splits crew id v two s k at =
    let f : View = front_view v in
    let b : View = back_view v in
    let r = least_set s.views id v f at in
    let last = least_snoc (set s.views id f) b in
    let under = least_le s.views id v at in
    let above = (k.sound id v at).above in
    let same : least_low s.views ≡ least_low (set s.views id f ++ b ∷ []) = omega arith in
    let total = shares_set s.views id v f at in
    let total' = shares_snoc (set s.views id f) b in
    record {
      word = cc;
      shares = omega arith;
      sound = rw same at (sound_snoc (set s.views id f) (least_low s.views) b
          (sound_set s.views (least_low s.views) (least_low s.views) id f (omega arith) k.sound
          (record { above = above; spent = λ none_left. absurd (omega arith) })) (record { above = above; spent = λ none_left. absurd (omega arith) }));
    }

pub joins : (crew : Crew) (id : ℕ) (v : View) (other : ℕ) (w : View) → 0 < v.share → Joins (Kept crew) id v other w (joined_view v w) spent_view
joins crew id v other w some_share s k at apart at' =
    let b : View = joined_view v w in
    let one : List View = set s.views id b in
    let r = least_set s.views id v b at in
    let r' = least_set one other w spent_view at' in
    let there = sym (set_else s.views id other b apart) ∙ at' in
    let under = least_le s.views id v at in
    let under' = least_le s.views other w there in
    let above = (k.sound id v at).above in
    let above' = (k.sound other w there).above in
    let most = least_max s.views in
    let here = set_else one other id spent_view (λ e. apart (sym e)) in
    let low = least_le (set one other spent_view) id b (here ∙ placed s.views id _ _ at) in
    let same : least_low s.views ≡ least_low (set one other spent_view) = omega arith in
    let total = shares_set s.views id v b at in
    let total' = shares_set one other w spent_view at' in
    record {
      word = cc;
      shares = omega arith;
      sound = rw same at (sound_set one (least_low s.views) (least_low s.views) other spent_view (omega arith)
          (sound_set s.views (least_low s.views) (least_low s.views) id b (omega arith) k.sound
          (record { above = omega arith; spent = λ none_left. absurd (omega arith) })) (record { above = omega arith; spent = λ _. refl }));
    }

opened : (crew : Crew) → crew.target < 18446744073709551616 → 0 < crew.workers → (id : ℕ) (v : View)
    → get_elem? (view crew.target crew.target crew.workers ∷ []) id ≡ some v → IsSound (least_low (view crew.target crew.target crew.workers ∷ [])) v
opened crew small some_share zero v at = rw (← (some-injective _ v at)) (record { above = omega arith; spent = λ none_left. absurd (omega arith) })
opened crew small some_share (suc id) v at = cc

pub opens : (crew : Crew) → crew.target < 18446744073709551616 → 0 < crew.workers
    → Kept crew (opening {S = Unit {0}} (crew.target ∷ []) [] (view crew.target crew.target crew.workers))
opens crew small some_share = record { word = ap (λ (x : ℕ). x ∷ []) (omega arith); shares = omega arith; sound = λ id v at. opened _ small some_share _ _ at }

-- where one seat speaks for all workers, the word is its own
rest_spent : (l : List View) (n : ℕ) → EachSound n l → all_shares l ≡ 0 → least_low l ≡ 18446744073709551615
rest_spent [] n all none_left = refl
rest_spent (x ∷ xs) n all none_left =
    let is : x.low ≡ 18446744073709551615 = cc ((all 0 x refl).spent (omega arith)) in
    cc (rest_spent xs n (λ id v at. all (suc id) v at) (omega arith))

share_le : (l : List View) (i : ℕ) (v : View) → get_elem? l i ≡ some v → v.share ≤ all_shares l
share_le [] i v e = cc
share_le (x ∷ xs) zero v e = let is : x.share ≡ v.share = cc in omega arith
share_le (x ∷ xs) (suc i) v e = omega (arith, share_le xs i v e)

pub own_low : (l : List View) (n id : ℕ) (v : View) → EachSound n l → get_elem? l id ≡ some v → all_shares l ≡ v.share → v.low < 18446744073709551616
    → least_low l ≡ v.low
own_low [] n id v all at whole small = cc
own_low (x ∷ xs) n zero v all at whole small =
    let low : x.low ≡ v.low = cc in
    let share : x.share ≡ v.share = cc in
    let r = rest_spent _ _ (λ id u here. all (suc id) u here) (omega arith) in omega arith
own_low (x ∷ xs) n (suc id) v all at whole small =
    let part = share_le xs id v at in
    let is : x.low ≡ 18446744073709551615 = cc ((all 0 x refl).spent (omega arith)) in
    let r = own_low xs n id v (λ i u here. all (suc i) u here) at (omega arith) small in omega arith

pub closes : (crew : Crew) (id : ℕ) (v : View) (ws : List ℕ) (xs : List (Unit {0})) (word : ℕ) → Final (Seen (Kept crew) id v) ws xs → v.share ≡ crew.workers
    → v.low < 18446744073709551616 → get_elem? ws 0 ≡ some word → (word ≡ v.low) × (word ≤ v.seen)
closes crew id v ws xs word final whole small at =
    let s = final.0 in
    let k = final.1.0 in
    let own = own_low _ _ _ _ k.sound final.1.1 (cc) small in
    let is : word ≡ least_low s.views = cc in
    let above = (k.sound id v final.1.1).above in
    (is ∙ own, omega arith)
