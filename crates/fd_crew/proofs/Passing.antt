-- That lanes passed the gate, one after the other and side by side.
use Rattle.std.proofs.Common.{◌≡◌, ℕ, ◌+◌, ◌<◌, ◌≤◌, ⊎_elim, List, [], ◌∷◌, ◌++◌, length, take, drop, set, get_or, sym, ap, ◌∙◌, subst, arith, All}
use Rattle.std.specs.List.{AllZip}
use Rattle.std.proofs.lemmas.Bool.{cases_lt}
use Rattle.std.proofs.lemmas.List.{take_more, take_more_set, take-append-drop, length-take-le}
use Rattle.std.proofs.lemmas.List.Elements.{All-head, All-tail}
use Rattle.fd_owner.specs.History.{position}
use Rattle.fd_owner.proofs.Histories.{position_first}
use Rattle.fd_owner.specs.Shown.{Shown, gone_back_to}
use Rattle.fd_crew.specs.Lanes.{IsPassed, ArePassed}

-- what was passed up to a position, and from there on
pub passed_on : (opened : ℕ → Type 0) (old mid new : Shown) → IsPassed opened old mid → IsPassed opened mid new → IsPassed opened old new
passed_on opened old mid new a b event above under = ⊎_elim (λ more. b event more under) (λ before. a event above (omega arith))
    (cases_lt (position mid.history) event)

-- on through events that were let through at once
pub passed_near : (opened : ℕ → Type 0) (old now near : Shown) (from to : ℕ) → from ≡ position now.history → IsPassed opened old now
    → ((event : ℕ) → from < event → event ≤ to → opened event) → position near.history ≤ to → IsPassed opened old near
passed_near opened old now near from to at a each under =
    passed_on opened old now near a (λ event above below. each event (omega (arith, above)) (omega (arith, below)))

-- and through one more
pub passed_step : (opened : ℕ → Type 0) (old now next : Shown) (last : ℕ) → IsPassed opened old now → opened last → last ≡ position now.history + 1
    → position next.history ≤ last → IsPassed opened old next
passed_step opened old now next last a here is under = passed_on opened old now next a
    (λ event above below. let e : last ≡ event = omega (arith, above, below) in subst opened e here)

module _ {L : Type 0} (shown : L → Shown) (opened : ℕ → ℕ → Type 0) where
  abbrev Are : ℕ → List L → List L → Type 0
  Are = ArePassed shown opened

  -- where none has moved
  pub passed_none : (number : ℕ) (xs : List L) → Are number xs xs
  passed_none number [] = tt
  passed_none number (x ∷ xs) = (λ event above under. absurd (omega arith), passed_none (number + 1) xs)

  pub passed_then : (number : ℕ) (xs ys zs : List L) → Are number xs ys → Are number ys zs → Are number xs zs
  passed_then number [] [] [] a b = tt
  passed_then number [] [] (z ∷ zs) a b = absurd b
  passed_then number [] (y ∷ ys) zs a b = absurd a
  passed_then number (x ∷ xs) [] zs a b = absurd a
  passed_then number (x ∷ xs) (y ∷ ys) [] a b = absurd b
  passed_then number (x ∷ xs) (y ∷ ys) (z ∷ zs) a b =
      (passed_on (opened number) (shown x) (shown y) (shown z) a.0 b.0, passed_then (number + 1) xs ys zs a.1 b.1)

  passed_both : (number next : ℕ) (xs us ys vs : List L) → next ≡ number + length xs → Are number xs ys → Are next us vs → Are number (xs ++ us) (ys ++ vs)
  passed_both number next [] us [] vs is a b = let e : next ≡ number = omega arith in subst (λ (n : ℕ). Are n us vs) e b
  passed_both number next [] us (y ∷ ys) vs is a b = absurd a
  passed_both number next (x ∷ xs) us [] vs is a b = absurd a
  passed_both number next (x ∷ xs) us (y ∷ ys) vs is a b = (a.0, passed_both (number + 1) next xs us ys vs (omega arith) a.1 b)

  pub passed_from : (number first : ℕ) (old new : List L) → first ≡ number → Are first old new → Are number old new
  passed_from number first old new is a = subst (λ (n : ℕ). Are n old new) is a

  pub passed_halves : (number next k : ℕ) (old new : List L) → next ≡ number + k → k ≤ length old → Are number (take k old) (take k new)
      → Are next (drop k old) (drop k new) → Are number old new
  passed_halves number next k old new is le a b =
      let long : length (take k old) ≡ k = length-take-le k old le in
      let whole = passed_both number next (take k old) (drop k old) (take k new) (drop k new) (is ∙ ap (λ (n : ℕ). number + n) (sym long)) a b in
      subst (λ (xs : List L). Are number xs new) (take-append-drop k old) (rw (take-append-drop k new) at whole)

  pub passed_next : (number next : ℕ) (old now : List L) (i : ℕ) (x y : L) → next ≡ number + i → i < length old → length now ≡ length old → x ≡ get_or old i x
      → Are number (take i old) (take i now) → IsPassed (opened next) (shown x) (shown y) → Are number (take (i + 1) old) (take (i + 1) (set now i y))
  passed_next number next old now i x y at in' long is all here =
      let e : take (i + 1) old ≡ take i old ++ x ∷ [] = cc (take_more old i x in') in
      let f : take (i + 1) (set now i y) ≡ take i now ++ y ∷ [] = take_more_set now i y (omega arith) in
      let less : length (take i old) ≡ i = length-take-le i old (omega arith) in
      rw e (subst (λ (ys : List L). Are number (take i old ++ x ∷ []) ys) (sym f)
      (passed_both number next (take i old) (x ∷ []) (take i now) (y ∷ []) (at ∙ ap (λ (n : ℕ). number + n) (sym less)) all (here, tt)))

  -- lanes that then went back
  pub passed_back : (number at : ℕ) (xs ys zs : List L) → All (λ l. at ≤ position (shown l).history) ys → Are number xs ys
      → AllZip (λ y z. shown z ≡ gone_back_to at (shown y)) ys zs → Are number xs zs
  passed_back number at [] [] [] p a b = tt
  passed_back number at [] [] (z ∷ zs) p a b = absurd b
  passed_back number at [] (y ∷ ys) zs p a b = absurd a
  passed_back number at (x ∷ xs) [] zs p a b = absurd a
  passed_back number at (x ∷ xs) (y ∷ ys) [] p a b = absurd b
  passed_back number at (x ∷ xs) (y ∷ ys) (z ∷ zs) p a b =
      let high : at ≤ position (shown y).history = All-head (λ l. at ≤ position (shown l).history) y ys p in
      let there : position (shown z).history ≡ at = ap (λ (s : Shown). position s.history) b.0 ∙ position_first at (shown y).history high in (
        λ event above under. a.0 event above (omega arith),
        passed_back (number + 1) at xs ys zs (All-tail (λ l. at ≤ position (shown l).history) y ys p) a.1 b.1,
      )
