-- Cells that list the triangles which meet them.
use Rattle.std.proofs.Common.{◌≡◌, ℕ, ◌+◌, ◌-◌, ◌<◌, ◌≤◌, inl, inr, List, [], ◌∷◌, ◌++◌, length, set, arith, sym, subst}
use Rattle.std.specs.List.{All, Contains}
use Rattle.std.specs.List.Sorted.{IsNonDecreasing}
use Rattle.std.proofs.Math.ListN.{length-set}
use Rattle.std.proofs.lemmas.Bool.{cases_eq}
use Rattle.std.proofs.lemmas.List.{get_or-set_same, get_or-set_other}
use Rattle.std.proofs.lemmas.List.Elements.{All-push, All-get_or, Contains-append_left, Contains-push}
use Rattle.std.proofs.lemmas.List.Sorted.{IsNonDecreasingBy-push}
use Rattle.fd_events.specs.Numbers.{listed_at, AreOrdered, Grow}

-- ---- a number is added to one list

added_here : (lists : List (List ℕ)) (cell number : ℕ) (after : List ℕ) → cell < length lists → listed_at (set lists cell after) cell ≡ after
added_here lists cell number after here = get_or-set_same lists cell after [] here

added_there : (lists : List (List ℕ)) (cell other : ℕ) (after : List ℕ) → (other ≡ cell → ⊥) → listed_at (set lists cell after) other ≡ listed_at lists other
added_there lists cell other after apart = get_or-set_other lists cell other after [] apart

-- what holds of a list and of the longer one holds of all
each_list : (P : List ℕ → Type 0) (lists : List (List ℕ)) (cell : ℕ) (after : List ℕ) → cell < length lists → ((other : ℕ) → P (listed_at lists other))
    → P after
    → (other : ℕ) → P (listed_at (set lists cell after) other)
each_list P lists cell after here all own other = grind (arith, added_here, added_there)

pub Grow-add : (lists : List (List ℕ)) (cell number : ℕ) → cell < length lists → Grow number lists (set lists cell (listed_at lists cell ++ number ∷ []))
Grow-add lists cell number here = record {
  same = length-set lists cell (listed_at lists cell ++ number ∷ []);
  kept = λ at other holds. elim (cases_eq at cell) [
    | inl same ↦
        rw same (subst (λ (xs : List ℕ). Contains xs other) (sym (added_here lists cell 0 (listed_at lists cell ++ number ∷ []) here))
        (Contains-append_left (listed_at lists cell) (number ∷ []) other (rw same at holds)))
    | inr apart ↦ subst (λ (xs : List ℕ). Contains xs other) (sym (added_there lists cell at (listed_at lists cell ++ number ∷ []) apart)) holds
  ];
  ordered = λ before. record {
    rise = each_list IsNonDecreasing lists cell (listed_at lists cell ++ number ∷ []) here before.rise
        (IsNonDecreasingBy-push (λ x. x) (listed_at lists cell) number (before.rise cell)
        (λ d some. All-get_or (λ k. k ≤ number) (listed_at lists cell) (length (listed_at lists cell) - 1) d (omega (arith, some)) (before.bounded cell)));
    bounded = each_list (All (λ k. k ≤ number)) lists cell (listed_at lists cell ++ number ∷ []) here before.bounded
        (All-push (λ k. k ≤ number) (listed_at lists cell) number (before.bounded cell) (omega arith));
  };
}

pub added : (lists : List (List ℕ)) (cell number : ℕ) → cell < length lists → Contains (listed_at (set lists cell (listed_at lists cell ++ number ∷ [])) cell)
    number
added lists cell number here =
    subst (λ (xs : List ℕ). Contains xs number) (sym (added_here lists cell number (listed_at lists cell ++ number ∷ []) here))
    (Contains-push (listed_at lists cell) number)

-- ---- one number more

pub Grow-then : (number : ℕ) (a b c : List (List ℕ)) → Grow number a b → Grow number b c → Grow number a c
Grow-then number a b c first second = grind arith

pub AreOrdered-more : (number : ℕ) (lists : List (List ℕ)) → AreOrdered number lists → AreOrdered (number + 1) lists
AreOrdered-more number lists before = grind arith
