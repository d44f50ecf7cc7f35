-- What every run of the crew's world keeps.
use Rattle.std.proofs.Common.{◌≡◌, ℕ, zero, suc, ◌+◌, ◌-◌, ◌<◌, ◌≤◌, ◌≢◌, ◌⊎◌, inl, inr, ⊎_elim, true, false, List, [], ◌∷◌, set, min, sym, refl, ap, ◌∙◌}
use Rattle.std.proofs.Common.{subst, arith}
use mathlib.Core.Option.{Option, none, some, some-injective, some-ne-none}
use mathlib.Core.Logic.{dite}
use native.Mathlib.Decide.{ℕ_discrete}
use lib.ListN.{get_elem?}
use Rattle.std.specs.List.{AllZip}
use Rattle.std.proofs.lemmas.Bool.{cases_lt}
use Rattle.atomic_table.proofs.Lists.{at_set, set_else}
use Rattle.fd_events.specs.Table.{Table}
use Rattle.fd_tile.specs.declared.place.Place.{Place}
use Rattle.fd_owner.specs.History.{History, position, extend, extend_to, drop_last, first_frames}
use Rattle.fd_owner.proofs.Histories.{position_extend, extend_more, extend_none, drop_extend, position_drop, first_all, drop_first}
use Rattle.fd_crew.specs.World.{Lane, Worker, World, Action, look, draw, refuse, lower, leave, home, IsIn, MayDraw, AllLeft, NoneAbove, with_worker}
use Rattle.fd_crew.specs.World.{with_history, Acts, Runs, IsOpening, least_or, WentOn, CameBack, Moved, CrewWorld}

abbrev At : {A : Type 0} → List A → ℕ → A → Type 0
At l i a = get_elem? l i ≡ some a

abbrev In : ℕ → List ℕ → Type 0
In r [] = ⊥
In r (x ∷ xs) = (r ≡ x) ⊎ In r xs

true_false : {P : Type 0} → true ≡ false → P
true_false e = absurd (cc)

placed : {A : Type 0} (l : List A) (i : ℕ) (v w : A) → At l i v → At (set l i w) i w
placed [] i v w e = cc
placed (x ∷ xs) zero v w e = refl
placed (x ∷ xs) (suc i) v w e = placed xs i v w e

record Owed (x : World) (r : ℕ) : Type 0 where
  w : ℕ
  p : Worker
  at : At x.workers w p
  owes : p.owed ≡ some r

record Inv (table : Table) (o target : ℕ) (x0 x : World) : Type 0 where
  lanes : AllZip (Moved table (AllLeft x)) x0.lanes x.lanes
  floor : o ≤ x.fence
  fence : (x.fence ≡ target) ⊎ In x.fence x.refused
  seen : (w : ℕ) (p : Worker) → At x.workers w p → (x.fence ≤ p.seen) × (p.seen ≤ target)
  owes : (w : ℕ) (p : Worker) → At x.workers w p → p.left ≡ true → p.owed ≡ none
  owed_in : (w : ℕ) (p : Worker) (q : ℕ) → At x.workers w p → p.owed ≡ some q → In q x.refused
  refused : (r : ℕ) → In r x.refused → (o ≤ r) × (r < target) × ((x.fence ≤ r) ⊎ Owed x r)
  owners : (t : ℕ) (l : Lane) → At x.lanes t l → (p : Worker) × At x.workers l.owner p
  after : (t : ℕ) (l : Lane) → At x.lanes t l → o ≤ position l.history
  done : (t : ℕ) (l : Lane) (w : ℕ) (p : Worker) → At x.lanes t l → At x.workers w p → l.owner ≡ w → p.left ≡ true → x.fence ≤ position l.history

-- a number that is no more than any of these is no more than their least
under_least : (x f : ℕ) (xs : List ℕ) → f ≤ x → ((r : ℕ) → In r xs → f ≤ r) → f ≤ min x (least_or x xs)
under_least x f [] a b = omega arith
under_least x f (y ∷ ys) a b = let r = under_least y f ys (b y (inl refl)) (λ r h. b r (inr h)) in omega arith

among_least : (x f : ℕ) (xs : List ℕ) → f ≤ x → ((r : ℕ) → In r xs → f ≤ r) → (f ≡ x) ⊎ In f xs → f ≡ min x (least_or x xs)
among_least x f [] a b (inl e) = omega arith
among_least x f [] a b (inr h) = absurd h
among_least x f (y ∷ ys) a b (inl e) = let r = under_least _ _ _ (b y (inl refl)) (λ r h. b r (inr h)) in omega arith
among_least x f (y ∷ ys) a b (inr h) = let r = among_least y f ys (b y (inl refl)) (λ r k. b r (inr k)) h in omega arith

least_is : (rs : List ℕ) (n f : ℕ) → (f ≡ n) ⊎ In f rs → ((r : ℕ) → In r rs → (f ≤ r) × (r < n)) → f ≡ least_or n rs
least_is [] n f (inl e) b = e
least_is [] n f (inr h) b = absurd h
least_is (x ∷ xs) n f (inl e) b = let c = b x (inl refl) in omega arith
least_is (x ∷ xs) n f (inr h) b = among_least _ _ _ (b x (inl refl)).0 (λ r k. (b r (inr k)).0) h

module _ (table : Table) (o target : ℕ) (x0 : World) where
  abbrev I : World → Type 0
  I x = Inv table o target x0 x

  -- one worker changes, and perhaps the fence goes down
  record Change (x : World) (w : ℕ) (p p' : Worker) (fence' : ℕ) (refused' : List ℕ) : Type 0 where
    at : At x.workers w p
    inside : p.left ≡ false
    lower : (fence' ≤ x.fence) × (o ≤ fence')
    least : (fence' ≡ target) ⊎ In fence' refused'
    seen : (fence' ≤ p'.seen) × (p'.seen ≤ target)
    owes : p'.left ≡ true → p'.owed ≡ none
    owed_in : (q : ℕ) → p'.owed ≡ some q → In q refused'
    more : (r : ℕ) → In r x.refused → In r refused'
    refused : (r : ℕ) → In r refused' → (o ≤ r) × (r < target)
        × ((fence' ≤ r) ⊎ ((p'.owed ≡ some r) ⊎ ((v : ℕ) × (u : Worker) × At x.workers v u × (u.owed ≡ some r) × (v ≢ w))))
    done : p'.left ≡ true → (t : ℕ) (l : Lane) → At x.lanes t l → l.owner ≡ w → fence' ≤ position l.history

  -- who has not come back yet has gone on
  still_on : {G H : Type 0} (a b : Lane) → Moved table G a b → (G → ⊥) → Moved table H a b
  still_on a b m never = record { owner = m.owner; place = m.place; moved = ⊎_elim (λ on. inl on) (λ back. absurd (never back.0)) m.moved }

  all_still_on : (G H : Type 0) (xs ys : List Lane) → AllZip (Moved table G) xs ys → (G → ⊥) → AllZip (Moved table H) xs ys
  all_still_on G H [] [] a never = tt
  all_still_on G H [] (y ∷ ys) a never = absurd a
  all_still_on G H (x ∷ xs) [] a never = absurd a
  all_still_on G H (x ∷ xs) (y ∷ ys) a never = (still_on x y a.0 never, all_still_on G H xs ys a.1 never)

  not_gone : (x : World) (w : ℕ) (p : Worker) → At x.workers w p → p.left ≡ false → AllLeft x → ⊥
  not_gone x w p at inside gone = true_false (sym (gone w p at) ∙ inside)

  changed : (x : World) (w : ℕ) (p p' : Worker) (fence' : ℕ) (refused' : List ℕ) → I x → Change x w p p' fence' refused'
      → I (record { lanes = x.lanes; workers = set x.workers w p'; fence = fence'; refused = refused' })
  changed x w p p' fence' refused' i c =
      record {
        lanes = all_still_on (AllLeft x) _ _ _ i.lanes (not_gone x w p c.at c.inside);
        floor = omega arith;
        fence = c.least;
        seen = λ j b e. ⊎_elim (λ t. subst (λ (u : Worker). (fence' ≤ u.seen) × (u.seen ≤ target)) t.1 c.seen)
            (λ t. let s = i.seen j b t.1 in (omega arith, s.1)) (at_set x.workers w j p' b e);
        owes = λ j b e out. ⊎_elim (λ t. subst (λ (u : Worker). u.left ≡ true → u.owed ≡ none) t.1 c.owes out) (λ t. i.owes j b t.1 out)
            (at_set x.workers w j p' b e);
        owed_in = λ j b q e owed. ⊎_elim (λ t. c.owed_in q (ap (λ (u : Worker). u.owed) t.1 ∙ owed)) (λ t. c.more q (i.owed_in j b q t.1 owed))
            (at_set x.workers w j p' b e);
        refused = λ r there. let f = c.refused r there in (
          f.0,
          f.1,
          ⊎_elim (λ le. inl le) (λ s. ⊎_elim (λ mine. inr (record { w = w; p = p'; at = placed x.workers w _ _ c.at; owes = mine }))
              (λ (v, u, e, owed, other). inr (record { w = v; p = u; at = set_else x.workers w v p' other ∙ e; owes = owed })) s) f.2,
        );
        owners = λ t l e. let h = i.owners t l e in dite (ℕ_discrete l.owner w)
            (λ is. (p', subst (λ (n : ℕ). At (set x.workers w p') n p') (sym is) (placed x.workers w _ _ c.at)))
            (λ other. (h.0, set_else x.workers w l.owner p' other ∙ h.1));
        after = i.after;
        done = λ t l j b e f own out. ⊎_elim (λ s. c.done (ap (λ (u : Worker). u.left) s.1 ∙ out) t l e (own ∙ s.0))
            (λ s. let d = i.done t l j b e s.1 own out in omega arith) (at_set x.workers w j p' b f);
      }

  zip_set : {G : Type 0} (xs ys : List Lane) (t : ℕ) (l l' : Lane) → AllZip (Moved table G) xs ys → At ys t l
      → ((a : Lane) → Moved table G a l → Moved table G a l') → AllZip (Moved table G) xs (set ys t l')
  zip_set [] [] t l l' a e f = cc
  zip_set [] (y ∷ ys) t l l' a e f = absurd a
  zip_set (x ∷ xs) [] t l l' a e f = absurd a
  zip_set (x ∷ xs) (y ∷ ys) zero l l' a e f = (f x (rw (some-injective y l e) at a.0), a.1)
  zip_set (x ∷ xs) (y ∷ ys) (suc t) l l' a e f = (a.0, zip_set xs ys t l l' a.1 e f)

  abbrev moved_lane : Lane → History → Lane
  moved_lane l h = record { owner = l.owner; place = l.place; history = h }

  moved : (x : World) (t : ℕ) (l : Lane) (h : History) → I x → At x.lanes t l
      → ((a : Lane) → Moved table (AllLeft x) a l → Moved table (AllLeft x) a (moved_lane l h)) → o ≤ position h
      → ((w : ℕ) (p : Worker) → At x.workers w p → l.owner ≡ w → p.left ≡ true → x.fence ≤ position h) → I (with_history x t l h)
  moved x t l h i at kin le out = record {
    lanes = zip_set _ _ _ _ _ i.lanes at kin;
    floor = i.floor;
    fence = i.fence;
    seen = i.seen;
    owes = i.owes;
    owed_in = i.owed_in;
    refused = λ r there. let f = i.refused r there in (f.0, f.1, ⊎_elim (λ a. inl a) (λ q. inr (record { w = q.w; p = q.p; at = q.at; owes = q.owes })) f.2);
    owners = λ j b e. ⊎_elim (λ s. subst (λ (z : Lane). (p : Worker) × At x.workers z.owner p) s.1 (i.owners t l at)) (λ s. i.owners j b s.1)
        (at_set x.lanes t j (moved_lane l h) b e);
    after = λ j b e. ⊎_elim (λ s. subst (λ (z : Lane). o ≤ position z.history) s.1 le) (λ s. i.after j b s.1) (at_set x.lanes t j (moved_lane l h) b e);
    done = λ j b w p e f own gone. ⊎_elim (λ s. subst (λ (z : Lane). x.fence ≤ position z.history) s.1
        (out w p f (ap (λ (z : Lane). z.owner) s.1 ∙ own) gone)) (λ s. i.done j b w p s.1 f own gone) (at_set x.lanes t j (moved_lane l h) b e);
  }

  seen_top : (x : World) (w : ℕ) (p : Worker) → I x → At x.workers w p → x.fence ≤ target
  seen_top x w p i at = let s = i.seen w p at in omega (arith, s.0, s.1)

  -- the other that owes r is another worker, or this one
  still_owed : (x : World) (w : ℕ) (p : Worker) (r : ℕ) → At x.workers w p → Owed x r → (p.owed ≡ some r)
      ⊎ ((v : ℕ) × (u : Worker) × At x.workers v u × (u.owed ≡ some r) × (v ≢ w))
  still_owed x w p r at q = dite (ℕ_discrete q.w w) (λ is. inl (cc)) (λ other. inr (q.w, q.p, q.at, q.owes, other))

  looked : (x : World) (w : ℕ) (p : Worker) → I x → IsIn x w p → I (with_worker x w (record { seen = x.fence; owed = p.owed; left = false }))
  looked x w p i in' =
      let top = seen_top _ _ _ i in'.0 in
      let floor = i.floor in
      changed _ _ _ _ _ _ i (record {
        at = in'.0;
        inside = in'.1;
        lower = (omega arith, floor);
        least = i.fence;
        seen = (omega arith, top);
        owes = λ out. true_false (sym out);
        owed_in = λ q e. i.owed_in w p q in'.0 e;
        more = λ r h. h;
        refused = λ r h. let f = i.refused r h in (f.0, f.1, ⊎_elim (λ a. inl a) (λ q. inr (still_owed _ _ _ _ in'.0 q)) f.2);
        done = λ out t l e own. true_false (sym out);
      })

  refused' : (x : World) (w t : ℕ) (p : Worker) (l : Lane) → I x → MayDraw x w t p l → I (record {
    lanes = x.lanes;
    workers = set x.workers w (record { seen = p.seen; owed = some (position l.history); left = false });
    fence = x.fence;
    refused = position l.history ∷ x.refused;
  })
  refused' x w t p l i may =
      let at = may.0.0 in
      let s = i.seen w p at in
      let low = i.after t l may.1 in
      let floor = i.floor in
      changed _ _ _ _ _ _ i (record {
        at = at;
        inside = may.0.1;
        lower = (omega arith, floor);
        least = ⊎_elim (λ e. inl e) (λ h. inr (inr h)) i.fence;
        seen = s;
        owes = λ out. true_false (sym out);
        owed_in = λ q e. inl (sym (some-injective (position l.history) q e));
        more = λ r h. inr h;
        refused = λ r h. ⊎_elim (λ is. (omega arith, omega arith, inr (inl (ap (λ (n : ℕ). let o : Option ℕ = some n in o) (sym is)))))
            (λ h'. let f = i.refused r h' in (
              f.0,
              f.1,
              ⊎_elim (λ a. inl a) (λ q. ⊎_elim (λ mine. absurd (some-ne-none r (sym mine ∙ may.3))) (λ other. inr (inr other)) (still_owed _ _ _ _ at q)) f.2,
            )) h;
        done = λ out t l e own. true_false (sym out);
      })

  le_cases : (m n : ℕ) → (m ≤ n) ⊎ (n ≤ m)
  le_cases m n = ⊎_elim (λ l. inl (omega arith)) (λ r. inr (omega arith)) (cases_lt m n)

  min_in : (m n : ℕ) (rs : List ℕ) → (m ≡ target) ⊎ In m rs → In n rs → (m ≤ n) ⊎ (n ≤ m) → (min m n ≡ target) ⊎ In (min m n) rs
  min_in m n rs a b (inl le) = let e : min m n ≡ m = omega arith in ⊎_elim (λ is. inl (e ∙ is)) (λ h. inr (subst (λ (k : ℕ). In k rs) (sym e) h)) a
  min_in m n rs a b (inr le) = let e : min m n ≡ n = omega arith in inr (rw e b)

  lowered : (x : World) (w : ℕ) (p : Worker) (at : ℕ) → I x → IsIn x w p → p.owed ≡ some at → I (record {
    lanes = x.lanes;
    workers = set x.workers w (record { seen = min x.fence at; owed = none; left = false });
    fence = min x.fence at;
    refused = x.refused;
  })
  lowered x w p at i in' owes =
      let there = i.owed_in w p at in'.0 owes in
      let f = i.refused at there in
      changed _ _ _ _ _ _ i (record {
        at = in'.0;
        inside = in'.1;
        lower = omega arith;
        least = min_in _ at x.refused i.fence there (le_cases _ at);
        seen = omega arith;
        owes = λ out. refl;
        owed_in = λ q e. absurd (some-ne-none q (sym e));
        more = λ r h. h;
        refused = λ r h. let h' = i.refused r h in (
          h'.0,
          h'.1,
          ⊎_elim (λ a. inl (omega arith)) (λ q. ⊎_elim (λ mine. let is : at ≡ r = some-injective at r (sym owes ∙ mine) in inl (omega arith))
              (λ other. inr (inr other)) (still_owed _ _ _ _ in'.0 q)) h'.2,
        );
        done = λ out t l e own. true_false (sym out);
      })

  left' : (x : World) (w : ℕ) (p : Worker) → I x → IsIn x w p → p.owed ≡ none
      → ((t : ℕ) (l : Lane) → At x.lanes t l → l.owner ≡ w → p.seen ≤ position l.history)
      → I (with_worker x w (record { seen = p.seen; owed = none; left = true }))
  left' x w p i in' none' done =
      let s = i.seen w p in'.0 in
      let floor = i.floor in
      changed _ _ _ _ _ _ i (record {
        at = in'.0;
        inside = in'.1;
        lower = (omega arith, floor);
        least = i.fence;
        seen = s;
        owes = λ out. refl;
        owed_in = λ q e. absurd (some-ne-none q (sym e));
        more = λ r h. h;
        refused = λ r h. let f = i.refused r h in (
          f.0,
          f.1,
          ⊎_elim (λ a. inl a) (λ q. ⊎_elim (λ mine. absurd (some-ne-none r (sym mine ∙ none'))) (λ other. inr (inr other)) (still_owed _ _ _ _ in'.0 q)) f.2,
        );
        done = λ out t l e own. let d = done t l e own in omega arith;
      })

  drawn : (x : World) (w t : ℕ) (p : Worker) (l : Lane) → I x → MayDraw x w t p l → I (with_history x t l (extend table l.place l.history))
  drawn x w t p l i may =
      let h : History = extend table l.place l.history in
      let long : position h ≡ position l.history + 1 = position_extend _ _ _ in
      let low = i.after t l may.1 in
      moved _ _ _ _ i may.1 (λ a k. let on : WentOn table a l = ⊎_elim (λ o. o) (λ back. absurd (not_gone x w p may.0.0 may.0.1 back.0)) k.moved in
      let after = on.after in record {
        owner = k.owner;
        place = k.place;
        moved = inl (record {
          after = omega arith;
          history = ap (λ (q : Place). extend table q l.history) k.place ∙ (ap (λ (g : History). extend table a.place g) on.history
              ∙ (extend_more _ _ _ _ after ∙ ap (λ (n : ℕ). extend_to table a.place n a.history) (sym long)));
        });
      }) (omega arith) (λ v u e own out. cc)

  -- an extended list, one image shorter
  shorter : (place : Place) (to : ℕ) (h : History) → position h < to → drop_last (extend_to table place to h) ≡ extend_to table place (to - 1) h
  shorter place to h less =
      let e : to - 1 + 1 ≡ to = omega arith in
      ap drop_last (ap (λ (n : ℕ). extend_to table place n h) (sym e) ∙ sym (extend_more table place (to - 1) h (omega arith))) ∙ drop_extend _ _ _

  -- a lane that goes back by one event, one that stood where it began, and one that stood below that already
  home_on : (a l : Lane) → WentOn table a l → position a.history < position l.history → WentOn table a (moved_lane l (drop_last l.history))
  home_on a l on less =
      let long = position_drop l.history in
      let e : drop_last l.history ≡ extend_to table a.place (position l.history - 1) a.history = ap drop_last on.history
      ∙ shorter a.place (position l.history) a.history less in
      record { after = omega arith; history = e ∙ ap (λ (n : ℕ). extend_to table a.place n a.history) (sym long) }

  home_from : (a l : Lane) → WentOn table a l → 0 < position l.history → position l.history ≤ position a.history
      → CameBack a (moved_lane l (drop_last l.history))
  home_from a l on above most =
      let long = position_drop l.history in
      let after = on.after in
      let level : position l.history ≡ position a.history = omega arith in
      let same : l.history ≡ a.history = on.history ∙ (ap (λ (n : ℕ). extend_to table a.place n a.history) level ∙ extend_none table a.place a.history) in
      let all : a.history ≡ first_frames (position a.history) a.history = sym (first_all (position a.history) a.history (omega arith)) in
      let one : position a.history - 1 ≡ position (drop_last l.history) = omega arith in
      record {
        before = omega arith;
        history = ap drop_last (same ∙ all) ∙ (drop_first (position a.history) a.history (omega arith) ∙ ap (λ (n : ℕ). first_frames n a.history) one);
      }

  home_below : (a l : Lane) → CameBack a l → CameBack a (moved_lane l (drop_last l.history))
  home_below a l back =
      let long = position_drop l.history in
      let before = back.before in
      let one : position l.history - 1 ≡ position (drop_last l.history) = omega arith in
      record {
        before = omega arith;
        history = ap drop_last back.history ∙ (drop_first (position l.history) a.history (omega arith) ∙ ap (λ (n : ℕ). first_frames n a.history) one);
      }

  home_moved : {G : Type 0} (a l : Lane) → Moved table G a l → G → 0 < position l.history → Moved table G a (moved_lane l (drop_last l.history))
  home_moved a l k gone above = record {
    owner = k.owner;
    place = k.place;
    moved = ⊎_elim (λ on. ⊎_elim (λ less. inl (home_on a l on less)) (λ most. inr (gone, home_from a l on above most))
        (cases_lt (position a.history) (position l.history))) (λ back. inr (gone, home_below a l back.1)) k.moved;
  }

  went_home : (x : World) (t : ℕ) (l : Lane) → I x → AllLeft x → At x.lanes t l → x.fence < position l.history → I (with_history x t l (drop_last l.history))
  went_home x t l i gone at above =
      let floor = i.floor in
      moved _ _ _ _ i at (λ a k. home_moved a l k gone (omega arith)) (omega (arith, position_drop l.history))
      (λ w p e own out. omega (arith, position_drop l.history))

  step_kept : (x y : World) (a : Action) → I x → Acts table x a y → I y
  step_kept x y (look w) i s = subst I (sym s.2) (looked _ _ _ i s.1)
  step_kept x y (draw w t) i s = subst I (sym s.3) (drawn _ _ _ _ _ i s.2)
  step_kept x y (refuse w t) i s = subst I (sym s.3) (refused' _ _ _ _ _ i s.2)
  step_kept x y (lower w) i s = subst I (sym s.4) (lowered _ _ _ _ i s.2 s.3)
  step_kept x y (leave w) i s = subst I (sym s.2) (left' _ _ _ i s.1.0 s.1.1 s.1.2)
  step_kept x y (home t) i s = subst I (sym s.4) (went_home _ _ _ i s.1 s.2 s.3)

  runs_kept : (actions : List Action) (x y : World) → I x → Runs table x actions y → I y
  runs_kept [] x y i r = subst I r i
  runs_kept (a ∷ actions) x y i r = runs_kept actions r.0 y (step_kept x r.0 a i r.1) r.2

  went_none : {G : Type 0} (l : Lane) → Moved table G l l
  went_none l = record { owner = refl; place = refl; moved = inl (record { after = omega arith; history = sym (extend_none table l.place l.history) }) }

  kin_none : (G : Type 0) (ls : List Lane) → AllZip (Moved table G) ls ls
  kin_none G [] = tt
  kin_none G (l ∷ ls) = (went_none l, kin_none G ls)

  opened : IsOpening o target x0 → I x0
  opened open' =
      let at_target = open'.fence in
      record {
        lanes = kin_none _ _;
        floor = omega arith;
        fence = inl at_target;
        seen = λ w p e. let h = open'.workers w p e in (omega arith, omega arith);
        owes = λ w p e out. (open'.workers w p e).1;
        owed_in = λ w p q e owed. absurd (some-ne-none q (sym owed ∙ (open'.workers w p e).1));
        refused = λ r h. absurd (subst (λ (rs : List ℕ). In r rs) open'.refused h);
        owners = λ t l e. (open'.lanes t l e).1;
        after = λ t l e. (open'.lanes t l e).0;
        done = λ t l w p e f own out. true_false (sym out ∙ (open'.workers w p f).2);
      }

  ended : (y : World) → I y → AllLeft y → NoneAbove y → ((t : ℕ) (l : Lane) → At y.lanes t l → position l.history ≡ y.fence)
      × (y.fence ≡ least_or target y.refused)
  ended y i gone none_above = (
    (λ t l e. let p = i.owners t l e in let low = i.done t l l.owner p.0 e p.1 refl (gone l.owner p.0 p.1) in let high = none_above t l e in omega arith),
    least_is _ _ _ i.fence
        (λ r h. let f = i.refused r h in (⊎_elim (λ a. a) (λ q. absurd (some-ne-none r (sym q.owes ∙ i.owes q.w q.p q.at (gone q.w q.p q.at)))) f.2, f.1)),
  )

pub world_law : CrewWorld
world_law table o target x y actions open' runs =
    let i = runs_kept _ _ _ _ _ _ _ (opened _ _ _ _ open') runs in
    (i.lanes, i.after, λ gone none_above. ended _ _ _ _ _ i gone none_above)
