-- What workers have done, one after the other and side by side.
use Rattle.std.proofs.Common.{◌≡◌, ℕ, ◌+◌, ◌<◌, ◌≤◌, ◌⊎◌, inl, inr, ⊎_elim, List, [], ◌∷◌, ◌++◌, length, take, drop, set, get_or, min, sym, ◌∙◌}
use Rattle.std.proofs.Common.{subst, arith, All}
use Rattle.std.specs.List.{AllZip}
use Rattle.std.proofs.lemmas.Bool.{cases_lt}
use Rattle.std.proofs.lemmas.List.{take_more, take_more_set, drop_more, drop-set-lt, take-append-drop}
use Rattle.std.proofs.lemmas.Grind.{drop_more_same}
use Rattle.fd_events.specs.Table.{Table}
use Rattle.fd_crew.specs.declared.fence.View.{View}
use Rattle.fd_crew.specs.Fence.{front_view, back_view, joined_view}
use Rattle.fd_owner.specs.Shown.{Shown}
use Rattle.fd_crew.specs.Lanes.{RefusedAt, Drawn, AnyZip, Worked}

drawn_lower : (table : Table) (target seen low seen' low' : ℕ) (old new : Shown) → seen' ≤ seen → low' ≤ low → Drawn table target seen low old new
    → Drawn table target seen' low' old new
drawn_lower table target seen low seen' low' old new down down' d =
    let reached = d.reached in record {
      place = d.place;
      history = d.history;
      after = d.after;
      within = d.within;
      reached = omega arith;
      refusals = ⊎_elim (λ q. inl q) (λ t. inr (t.0, t.1, omega arith, t.3)) d.refusals;
    }

module _ {A B : Type 0} (R : A → B → Type 0) where
  all_both : (xs us : List A) (ys vs : List B) → AllZip R xs ys → AllZip R us vs → AllZip R (xs ++ us) (ys ++ vs)
  all_both [] us [] vs a b = b
  all_both [] us (y ∷ ys) vs a b = absurd a
  all_both (x ∷ xs) us [] vs a b = absurd a
  all_both (x ∷ xs) us (y ∷ ys) vs a b = (a.0, all_both xs us ys vs a.1 b)

  any_left : (xs us : List A) (ys vs : List B) → AnyZip R xs ys → AnyZip R (xs ++ us) (ys ++ vs)
  any_left [] us ys vs a = absurd a
  any_left (x ∷ xs) us [] vs a = absurd a
  any_left (x ∷ xs) us (y ∷ ys) vs a = ⊎_elim (λ h. inl h) (λ t. inr (any_left xs us ys vs t)) a

  -- where the first parts go together
  any_right : (Q : A → B → Type 0) (xs us : List A) (ys vs : List B) → AllZip Q xs ys → AnyZip R us vs → AnyZip R (xs ++ us) (ys ++ vs)
  any_right Q [] us [] vs q a = a
  any_right Q [] us (y ∷ ys) vs q a = absurd q
  any_right Q (x ∷ xs) us [] vs q a = absurd q
  any_right Q (x ∷ xs) us (y ∷ ys) vs q a = inr (any_right Q xs us ys vs q.1 a)

module _ {L : Type 0} (shown : L → Shown) (fits : L → Table → Type 0) (table : Table) (target : ℕ) where
  abbrev Done : View → L → L → Type 0
  Done v x y = Drawn table target v.seen v.low (shown x) (shown y) × fits y table

  abbrev Refuses : ℕ → L → L → Type 0
  Refuses low x y = RefusedAt low (shown x) (shown y)

  all_lower : (v w : View) (xs ys : List L) → w.seen ≤ v.seen → w.low ≤ v.low → AllZip (Done v) xs ys → AllZip (Done w) xs ys
  all_lower v w [] [] s l a = a
  all_lower v w [] (y ∷ ys) s l a = absurd a
  all_lower v w (x ∷ xs) [] s l a = absurd a
  all_lower v w (x ∷ xs) (y ∷ ys) s l a = ((drawn_lower _ _ _ _ _ _ _ _ s l a.0.0, a.0.1), all_lower v w xs ys s l a.1)

  pub worked_one : (v w : View) (x y : L) → Drawn table target w.seen w.low (shown x) (shown y) → fits y table → (w.low ≡ v.low)
      ⊎ RefusedAt w.low (shown x) (shown y) → (w.low ≤ v.low) × (w.seen ≤ v.seen) → w.share ≡ v.share → Worked shown fits table target v w (x ∷ []) (y ∷ [])
  worked_one v w x y drawn fit low lower share = record {
    lanes = ((drawn, fit), tt);
    low = ⊎_elim (λ e. inl e) (λ r. inr (inl r)) low;
    lower = lower;
    share = share;
  }

  -- one after the other
  pub worked_then : (u v w : View) (xs us ys vs : List L) → Worked shown fits table target u v xs ys → Worked shown fits table target v w us vs
      → Worked shown fits table target u w (xs ++ us) (ys ++ vs)
  worked_then u v w xs us ys vs a b =
      let low = a.lower in
      record {
        lanes = all_both _ _ _ _ _ (all_lower v w _ _ (omega arith) (omega arith) a.lanes) b.lanes;
        low = ⊎_elim (λ e. ⊎_elim (λ f. inl (e ∙ f)) (λ r. inr (any_left _ _ _ _ _ (subst (λ (n : ℕ). AnyZip (Refuses n) xs ys) (sym e) r))) a.low)
            (λ r. inr (any_right _ _ _ _ _ _ a.lanes r)) b.low;
        lower = omega arith;
        share = cc;
      }

  -- side by side
  pub worked_both : (v a b : View) (xs us ys vs : List L) → Worked shown fits table target (front_view v) a xs ys
      → Worked shown fits table target (back_view v) b us vs → Worked shown fits table target v (joined_view a b) (xs ++ us) (ys ++ vs)
  worked_both v a b xs us ys vs f g =
      let low = f.lower in
      let share = f.share in
      let j : View = joined_view a b in record {
        lanes = all_both _ _ _ _ _ (all_lower a j _ _ (omega arith) (omega arith) f.lanes) (all_lower b j _ _ (omega arith) (omega arith) g.lanes);
        low = ⊎_elim (λ less. let e : min a.low b.low ≡ a.low = omega arith in
            ⊎_elim (λ same. inl (e ∙ same)) (λ r. inr (any_left _ _ _ _ _ (subst (λ (n : ℕ). AnyZip (Refuses n) xs ys) (sym e) r))) f.low)
            (λ more. let e : min a.low b.low ≡ b.low = omega arith in
            ⊎_elim (λ same. inl (e ∙ same)) (λ r. inr (any_right _ _ _ _ _ _ f.lanes (subst (λ (n : ℕ). AnyZip (Refuses n) us vs) (sym e) r))) g.low)
            (cases_lt a.low b.low);
        lower = omega arith;
        share = omega arith;
      }

  pub worked_halves : (v fv bv a b j : View) (k : ℕ) (old new : List L) → fv ≡ front_view v → bv ≡ back_view v → j ≡ joined_view a b
      → Worked shown fits table target fv a (take k old) (take k new) → Worked shown fits table target bv b (drop k old) (drop k new)
      → Worked shown fits table target v j old new
  worked_halves v fv bv a b j k old new ef eb ej f g =
      let f' = subst (λ (u : View). Worked shown fits table target u a (take k old) (take k new)) ef f in
      let g' = subst (λ (u : View). Worked shown fits table target u b (drop k old) (drop k new)) eb g in
      let whole = worked_both _ _ _ _ _ _ _ f' g' in
      subst (λ (u : View). Worked shown fits table target v u old new) (sym ej)
      (subst (λ (xs : List L). Worked shown fits table target v (joined_view a b) xs new) (take-append-drop k old) (rw (take-append-drop k new) at whole))

  -- what stands at i in two lists that go on alike from i
  pub same_at : (old now : List L) (i : ℕ) (x : L) → i < length old → length now ≡ length old → x ≡ get_or now i x → drop i now ≡ drop i old
      → x ≡ get_or old i x
  same_at old now i x in' long is rest = cc (drop_more now i x (omega arith), drop_more old i x in')

  pub worked_next : (u v w : View) (old now : List L) (i : ℕ) (x y : L) → i < length old → length now ≡ length old → x ≡ get_or now i x
      → drop i now ≡ drop i old → Worked shown fits table target u v (take i old) (take i now) → Worked shown fits table target v w (x ∷ []) (y ∷ [])
      → Worked shown fits table target u w (take (i + 1) old) (take (i + 1) (set now i y))
  worked_next u v w old now i x y in' long is rest a b =
      let e : take (i + 1) old ≡ take i old ++ x ∷ [] = cc (take_more old i x in', same_at _ _ _ _ in' long is rest) in
      let f : take (i + 1) (set now i y) ≡ take i now ++ y ∷ [] = take_more_set now i y (omega arith) in
      rw e (subst (λ (ys : List L). Worked shown fits table target u w (take i old ++ x ∷ []) ys) (sym f)
      (worked_then u v w (take i old) (x ∷ []) (take i now) (y ∷ []) a b))

  pub fits_at : (old : List L) (i : ℕ) (x : L) → i < length old → x ≡ get_or old i x → All (λ l. fits l table) old → fits x table
  fits_at old i x in' is all = rw is (all i x in')

pub rest_after : {L : Type 0} (old now : List L) (i : ℕ) (y : L) → drop i now ≡ drop i old → drop (i + 1) (set now i y) ≡ drop (i + 1) old
rest_after old now i y rest = drop-set-lt (i + 1) now i y (omega arith) ∙ drop_more_same now old i rest
