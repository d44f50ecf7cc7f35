-- That the tiles passed the gate on the way.
use Rattle.std.proofs.Common.{◌≡◌, ℕ, zero, suc, ◌+◌, ◌<◌, ◌≤◌, Bool, List, [], ◌∷◌, length, map, get_or, subst, arith, All}
use Rattle.std.specs.Prelude.{None}
use Rattle.std.proofs.lemmas.List.Elements.{All-get_or}
use Rattle.fd_owner.specs.Shown.{Shown}
use Rattle.fd_events.specs.Table.{Table}
use Rattle.fd_crew.specs.Lanes.{IsPassed, ArePassed}
use Rattle.fd_session.specs.Held.{as_kept, Stands}
use Rattle.fd_session.proofs.Frames.{position_kept, position_stands}

abbrev same : Shown → Shown
same o = o

module _ (f : Bool) (opened : ℕ → ℕ → Type 0) where
  settled : (number : ℕ) (old mid : List Shown) → ArePassed same opened number old mid → ArePassed same opened number old (map (as_kept f) mid)
  settled number [] [] a = tt
  settled number [] (y ∷ ys) a = absurd a
  settled number (x ∷ xs) [] a = absurd a
  settled number (x ∷ xs) (y ∷ ys) a =
      (λ event above under. a.0 event above (omega (arith, under, position_kept f y.place y.history)), settled (number + 1) xs ys a.1)

  pub passed_settled : (number : ℕ) (old mid new : List Shown) → new ≡ map (as_kept f) mid → ArePassed same opened number old mid
      → ArePassed same opened number old new
  passed_settled number old mid new is a = rw is (settled number old mid a)

passed_at : (opened : ℕ → ℕ → Type 0) (number place : ℕ) (old new : List Shown) (i : ℕ) (d : Shown) → place ≡ number + i → i < length old
    → ArePassed same opened number old new → IsPassed (opened place) (get_or old i d) (get_or new i d)
passed_at opened number place [] [] i d is within a = absurd (omega arith)
passed_at opened number place [] (y ∷ ys) i d is within a = absurd a
passed_at opened number place (x ∷ xs) [] i d is within a = absurd a
passed_at opened number place (x ∷ xs) (y ∷ ys) zero d is within a =
    let e : number ≡ place = omega arith in subst (λ (n : ℕ). IsPassed (opened n) x y) e a.0
passed_at opened number place (x ∷ xs) (y ∷ ys) (suc i) d is within a = passed_at opened (number + 1) place xs ys i d (omega arith) (omega arith) a.1

same_length : (opened : ℕ → ℕ → Type 0) (number : ℕ) (old new : List Shown) → ArePassed same opened number old new → length new ≡ length old
same_length opened number [] [] a = omega arith
same_length opened number [] (y ∷ ys) a = absurd a
same_length opened number (x ∷ xs) [] a = absurd a
same_length opened number (x ∷ xs) (y ∷ ys) a = let e = same_length opened (number + 1) xs ys a.1 in omega (arith, e)

nobody : Shown
nobody = record {
  place = record { left = 0; top = 0; width = 0; height = 0 };
  history = record { opening = []; frames = [] };
  refusals = 0;
  refused_at = None;
}

-- all owners go from one position to another
pub passed_tiles : (f : Bool) (table : Table) (opened : ℕ → ℕ → Type 0) (old new : List Shown) (k to tile event : ℕ)
    → ArePassed same opened 0 old new → All (Stands f table k) old → All (Stands f table to) new → tile < length old → k < event → event ≤ to
    → opened tile event
passed_tiles f table opened old new k to tile event passed from there within above under =
    let long = same_length opened 0 old new passed in
    let a = position_stands f table k (get_or old tile nobody) (All-get_or (Stands f table k) old tile nobody within from) in
    let b = position_stands f table to (get_or new tile nobody) (All-get_or (Stands f table to) new tile nobody (omega (arith, long, within)) there) in
    passed_at opened 0 tile old new tile nobody (omega arith) within passed event (omega (arith, a, above)) (omega (arith, b, under))
