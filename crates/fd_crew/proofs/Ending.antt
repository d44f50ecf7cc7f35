-- How lanes go back, and how a run ends.
use Rattle.std.proofs.Common.{◌≡◌, ℕ, ◌+◌, ◌-◌, ◌<◌, ◌≤◌, inl, inr, ⊎_elim, List, [], ◌∷◌, ◌++◌, length, take, drop, set, get_or, sym, ap, ◌∙◌, subst, arith}
use Rattle.std.proofs.Common.{All}
use Rattle.std.specs.Prelude.{Result, Ok, Err, MatchResult}
use Rattle.std.specs.List.{AllZip}
use Rattle.std.proofs.lemmas.List.{take_more, take_more_set, take_all, drop_more}
use Rattle.std.proofs.lemmas.List.Elements.{AllZip-push, All-head, All-tail, All-cons, All-nil}
use Rattle.std.proofs.lemmas.Bool.{cases_lt}
use Rattle.fd_tile.specs.declared.place.Place.{Place}
use Rattle.fd_events.specs.Table.{Table}
use Rattle.fd_owner.specs.History.{History, position, extend_by, extend_to, first_frames}
use Rattle.fd_owner.proofs.Histories.{drop_first, position_first, position_extend_to, extend_none, first_all, first_first, first_extend_to}
use Rattle.fd_crew.specs.declared.fence.View.{View}
use Rattle.fd_crew.specs.declared.crew.Outcome.{Outcome}
use Rattle.fd_crew.specs.declared.crew.Outcome.TheVariants.{Reached, Stopped}
use Rattle.fd_owner.specs.Shown.{Shown, gone_back, gone_back_to}
use Rattle.fd_crew.specs.Lanes.{RefusedAt, IsQuiet, Drawn, AnyZip, Worked, GoneTo, StandsOn, CameTo, RefusedNoLower, EndsAs, EndsApart}

with_history : (s : Shown) (h k : History) → h ≡ k → (let a : Shown =
    record { place = s.place; history = h; refusals = s.refusals; refused_at = s.refused_at } in a) ≡ record
    { place = s.place; history = k; refusals = s.refusals; refused_at = s.refused_at }
with_history s h k e = cc

pub back_none : (old : Shown) → old ≡ gone_back_to (position old.history) old
back_none old = with_history old _ _ (sym (first_all _ _ (omega arith)))

pub back_more : (old now next : Shown) → now ≡ gone_back_to (position now.history) old → position now.history ≤ position old.history → next ≡ gone_back now
    → (position next.history ≡ position now.history - 1) × (next ≡ gone_back_to (position next.history) old)
back_more old now next is le goes =
    let k : ℕ = position now.history in
    let a : next ≡ gone_back (gone_back_to k old) = cc in
    let b : gone_back (gone_back_to k old) ≡ gone_back_to (k - 1) old = with_history old _ _ (drop_first _ _ le) in
    let at : position next.history ≡ k - 1 = ap (λ (s : Shown). position s.history) (a ∙ b) ∙ position_first (k - 1) old.history (omega arith) in
    (at, cc)

-- what stands at i in two lists that go on alike from i
pub alike_at : {L : Type 0} (old now : List L) (i : ℕ) (x : L) → i < length old → length now ≡ length old → x ≡ get_or now i x → drop i now ≡ drop i old
    → x ≡ get_or old i x
alike_at old now i x in' long is rest = cc (drop_more now i x (omega arith), drop_more old i x in')

module _ {L : Type 0} (R : L → L → Type 0) where
  pub zip_next : (old now : List L) (i : ℕ) (x y : L) → i < length old → length now ≡ length old → x ≡ get_or old i x → AllZip R (take i old) (take i now)
      → R x y → AllZip R (take (i + 1) old) (take (i + 1) (set now i y))
  zip_next old now i x y in' long is all here =
      let e : take (i + 1) old ≡ take i old ++ x ∷ [] = cc (take_more old i x in') in
      let f : take (i + 1) (set now i y) ≡ take i now ++ y ∷ [] = take_more_set now i y (omega arith) in
      rw e (subst (λ (ys : List L). AllZip R (take i old ++ x ∷ []) ys) (sym f) (AllZip-push R (take i old) (take i now) x y all here))

  pub zip_whole : (old now : List L) (i : ℕ) → length old ≤ i → length now ≡ length old → AllZip R (take i old) (take i now) → AllZip R old now
  zip_whole old now i le long all = subst (λ (xs : List L). AllZip R xs now) (take_all i old le) (rw (take_all i now (omega arith)) at all)

  zip_through : (B C : L → L → Type 0) (P : L → Type 0) → ((x y z : L) → P x → R x y → B y z → C x z) → (xs ys zs : List L) → All P xs → AllZip R xs ys
      → AllZip B ys zs → AllZip C xs zs
  zip_through B C P f [] [] [] p a b = tt
  zip_through B C P f [] [] (z ∷ zs) p a b = absurd b
  zip_through B C P f [] (y ∷ ys) zs p a b = absurd a
  zip_through B C P f (x ∷ xs) [] zs p a b = absurd a
  zip_through B C P f (x ∷ xs) (y ∷ ys) [] p a b = absurd b
  zip_through B C P f (x ∷ xs) (y ∷ ys) (z ∷ zs) p a b = (f x y z (All-head P x xs p) a.0 b.0, zip_through B C P f xs ys zs (All-tail P x xs p) a.1 b.1)

  -- what follows for each pair
  zip_with : (C : L → L → Type 0) (P : L → Type 0) → ((x y : L) → P x → R x y → C x y) → (xs ys : List L) → All P xs → AllZip R xs ys → AllZip C xs ys
  zip_with C P f [] [] p a = tt
  zip_with C P f [] (y ∷ ys) p a = absurd a
  zip_with C P f (x ∷ xs) [] p a = absurd a
  zip_with C P f (x ∷ xs) (y ∷ ys) p a = (f x y (All-head P x xs p) a.0, zip_with C P f xs ys (All-tail P x xs p) a.1)

  any_through : (B C : L → L → Type 0) → ((x y z : L) → R x y → B y z → C x z) → (xs ys zs : List L) → AnyZip R xs ys → AllZip B ys zs → AnyZip C xs zs
  any_through B C f [] ys zs a b = absurd a
  any_through B C f (x ∷ xs) [] zs a b = absurd a
  any_through B C f (x ∷ xs) (y ∷ ys) [] a b = absurd b
  any_through B C f (x ∷ xs) (y ∷ ys) (z ∷ zs) a b = ⊎_elim (λ h. inl (f x y z h b.0)) (λ t. inr (any_through B C f xs ys zs t b.1)) a

  -- what holds of each of the second list
  all_second : (P : L → Type 0) → ((x y : L) → R x y → P y) → (xs ys : List L) → AllZip R xs ys → All P ys
  all_second P f [] [] a = All-nil P
  all_second P f [] (y ∷ ys) a = absurd a
  all_second P f (x ∷ xs) [] a = absurd a
  all_second P f (x ∷ xs) (y ∷ ys) a = All-cons P y ys (f x y a.0) (all_second P f xs ys a.1)

  -- a fact that follows from one item of the first list
  pub any_first : (P : L → Type 0) (Q : Type 0) → ((x y : L) → P x → R x y → Q) → (xs ys : List L) → All P xs → AnyZip R xs ys → Q
  any_first P Q f [] ys p a = absurd a
  any_first P Q f (x ∷ xs) [] p a = absurd a
  any_first P Q f (x ∷ xs) (y ∷ ys) p a = ⊎_elim (λ h. f x y (All-head P x xs p) h) (λ t. any_first P Q f xs ys (All-tail P x xs p) t) a

-- the first frames of a history that goes on further, or that is longer
first_frames_on : (table : Table) (place : Place) (at end : ℕ) (h : History) → at ≤ end
    → first_frames at (extend_to table place end h) ≡ first_frames at (extend_to table place at h)
first_frames_on table place at end h le =
    elim (cases_lt at (position h)) [
      | inl below ↦
          let from : ℕ = position h in
          let none : at - from ≡ 0 = omega (arith, below) in
          elim (cases_lt end from) [
            | inl short ↦ let none' : end - from ≡ 0 = omega (arith, short) in ap (λ (n : ℕ). first_frames at (extend_by table place n h)) (none' ∙ sym none)
            | inr long ↦ sym (first_first at from (extend_to table place end h) (omega (arith, below)))
                ∙ ap (first_frames at) (first_extend_to _ _ _ _ _ (omega arith) long ∙ extend_none _ _ _)
                ∙ ap (λ (n : ℕ). first_frames at (extend_by table place n h)) (sym none)
          ]
      | inr above ↦ first_extend_to _ _ at end h above le ∙ sym (first_all at (extend_to table place at h) (omega (arith, position_extend_to table place)))
    ]

-- one lane that was drawn on, and stays
stays : (table : Table) (target seen low : ℕ) (x y : Shown) → Drawn table target seen low x y → target ≤ seen → StandsOn table target x y
stays table target seen low x y d under =
    let reached = d.reached in
    let on : ℕ → History = λ n. extend_to table x.place n x.history in
    record {
      place = d.place;
      history = ⊎_elim (λ below. let there : position y.history ≡ target = omega arith in d.history ∙ ap on there) (λ same.
          let above : target ≤ position x.history = omega (arith, reached, under, ap position same) in
          let none : target - position x.history ≡ 0 = omega (arith, above) in
          same ∙ ap (λ (n : ℕ). extend_by table x.place n x.history) (sym none)) d.within;
    }

-- one that then went back
gone : (table : Table) (target seen low at : ℕ) (x y z : Shown) → Drawn table target seen low x y → at ≤ seen → z ≡ gone_back_to at y → CameTo table at x z
gone table target seen low at x y z d under back =
    let end : ℕ = position y.history in
    record { place = cc; history = cc (first_frames_on _ _ at end x.history (omega arith)) }

quiet_back : (at : ℕ) (x y z : Shown) → IsQuiet x y → z ≡ gone_back_to at y → IsQuiet x z
quiet_back at x y z q back = record { refusals = cc; refused_at = cc }

quiet : (table : Table) (target seen low : ℕ) (x y : Shown) → Drawn table target seen low x y → low ≡ target → IsQuiet x y
quiet table target seen low x y d is = ⊎_elim (λ q. q) (λ t. absurd (omega arith)) d.refusals

refused_back_to : (r at : ℕ) (x y z : Shown) → RefusedAt r x y → z ≡ gone_back_to at y → RefusedAt r x z
refused_back_to r at x y z a back =
    let same : z.refusals ≡ y.refusals = cc in
    record { there = cc; rose = ⊎_elim (λ less. inl (omega arith)) (λ full. inr (same ∙ full)) a.rose; after = a.after }

no_lower : (table : Table) (target seen low at : ℕ) (x y z : Shown) → Drawn table target seen low x y → at ≡ low → z ≡ gone_back_to at y → RefusedNoLower at x z
no_lower table target seen low at x y z d is back = ⊎_elim (λ q. inl (quiet_back at x y z q back))
    (λ t. inr (t.0, refused_back_to _ at x y z t.1 back, omega arith)) d.refusals

refused_back : (low at : ℕ) (x y z : Shown) → RefusedAt low x y → at ≡ low → z ≡ gone_back_to at y → RefusedAt at x z
refused_back low at x y z r is back =
    let same : z.refusals ≡ y.refusals = cc in
    let after = r.after in
    record { there = cc; rose = ⊎_elim (λ less. inl (omega arith)) (λ full. inr (same ∙ full)) r.rose; after = omega arith }

-- one that came to a position above which it did not stand
pub came_further : (table : Table) (at : ℕ) (x z : Shown) → position x.history ≤ at → CameTo table at x z → GoneTo table at x z
came_further table at x z after came =
    record {
      place = came.place;
      history = came.history ∙ first_all at (extend_to table x.place at x.history) (omega (arith, position_extend_to table x.place));
      after = after;
    }

module _ {L : Type 0} (shown : L → Shown) (fits : L → Table → Type 0) (table : Table) (target : ℕ) where
  abbrev Done : View → L → L → Type 0
  Done v x y = Drawn table target v.seen v.low (shown x) (shown y) × fits y table

  abbrev Back : ℕ → L → L → Type 0
  Back at x y = shown y ≡ gone_back_to at (shown x)

  pub above_all : (v w : View) (at : ℕ) (old mid : List L) → Worked shown fits table target v w old mid → at ≤ w.seen
      → All (λ l. at ≤ position (shown l).history) mid
  above_all v w at old mid worked under = all_second (Done w) (λ l. at ≤ position (shown l).history) (omega arith) old mid worked.lanes

  pub fits_worked : (v w : View) (old mid : List L) → Worked shown fits table target v w old mid → All (λ l. fits l table) mid
  fits_worked v w old mid worked = all_second (Done w) (λ l. fits l table) (λ x y d. d.1) old mid worked.lanes

  pub fits_all : (v w : View) (old mid new : List L) → Worked shown fits table target v w old mid → AllZip (λ x y. (t : Table) → fits x t → fits y t) mid new
      → All (λ l. fits l table) new
  fits_all v w old mid new worked back = all_second _ _ (λ x z f. f) _ _
      (zip_through _ _ _ (λ x. Unit {0}) (λ x y z u d f. f table d.1) _ _ _ (λ k d in'. tt) worked.lanes back)

  module _ (at : ℕ) (v w : View) (old mid : List L) (open' : v.low ≡ target) (is : at ≡ w.low) (under : at ≤ w.seen)
      (worked : Worked shown fits table target v w old mid) where
    pub ends_reached : at ≡ target → EndsApart shown table target old mid Reached
    ends_reached there =
        zip_with _ _ (λ x. Unit {0}) (λ x y u d. (stays _ _ _ _ _ _ d.0 (omega arith), quiet _ _ _ _ _ _ d.0 (sym is ∙ there))) _ _ (λ k d in'. tt) worked.lanes

    pub ends_stopped : (new : List L) → AllZip (Back at) mid new → ¬ (at ≡ target) → EndsApart shown table target old new (Stopped at)
    ends_stopped new back not = (
      omega arith,
      zip_through _ _ _ (λ x. Unit {0}) (λ x y z u d b. (
        gone _ _ _ _ at (shown x) (shown y) (shown z) d.0 under b,
        no_lower _ _ _ _ at (shown x) (shown y) (shown z) d.0 is b,
      )) _ _ _ (λ k d in'. tt) worked.lanes back,
      ⊎_elim (λ e. absurd (not (is ∙ (e ∙ open'))))
          (λ any. any_through _ _ _ (λ x y z r b. refused_back _ at (shown x) (shown y) (shown z) r is b) _ _ _ any back) worked.low,
    )

  -- lanes that began together
  module _ (o : ℕ) (old new : List L) (together : All (λ l. position (shown l).history ≡ o) old) (within : o ≤ target) where
    pub ends_together : (outcome : Outcome) → EndsApart shown table target old new outcome → EndsAs shown table target old new outcome
    ends_together Reached ended =
        zip_with (λ x y. StandsOn table target (shown x) (shown y) × IsQuiet (shown x) (shown y))
        (λ x y. GoneTo table target (shown x) (shown y) × IsQuiet (shown x) (shown y)) (λ l. position (shown l).history ≡ o)
        (λ x y p e. (record { place = e.0.place; history = e.0.history; after = omega arith }, e.1)) old new together ended
    ends_together (Stopped at) ended =
        let low : o ≤ at = any_first (λ x y. RefusedAt at (shown x) (shown y)) (λ l. position (shown l).history ≡ o) (o ≤ at)
        (λ x y p r. omega arith) old new together ended.2 in (
          ended.0,
          zip_with (λ x y. CameTo table at (shown x) (shown y) × RefusedNoLower at (shown x) (shown y))
              (λ x y. GoneTo table at (shown x) (shown y) × RefusedNoLower at (shown x) (shown y)) (λ l. position (shown l).history ≡ o)
              (λ x y p e. (came_further _ at (shown x) (shown y) (omega arith) e.0, e.1)) old new together ended.1,
          ended.2,
        )

    pub run_together : {E : Type 0} (r : Result Outcome E) → MatchResult r (λ outcome. EndsApart shown table target old new outcome) (λ _. new ≡ old)
        → MatchResult r (λ outcome. EndsAs shown table target old new outcome) (λ _. new ≡ old)
    run_together (Ok outcome) ended = ends_together outcome ended
    run_together (Err e) ended = ended
