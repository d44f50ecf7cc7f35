-- Lists of numbers that are put one behind the other.
use Rattle.std.proofs.Common.{◌≡◌, ℕ, ◌+◌, ◌-◌, ◌<◌, ◌≤◌, inl, inr, List, [], ◌∷◌, ◌++◌, length, length-append, get_or, take, drop, arith, sym, ap, ◌∙◌}
use Rattle.std.proofs.Math.ListN.{get_or-append, get_or-eq_default}
use Rattle.std.proofs.Math.Seq.{drop-append_seam, get_or-append_seam, take-length}
use Rattle.std.proofs.lemmas.Bool.{cases_lt}
use Rattle.std.proofs.lemmas.List.{drop-append-le, take-append-le, length-drop}
use Rattle.fd_events.specs.Numbers.{listed_at}
use Rattle.fd_events.specs.Packed.{start_of, between_starts}

-- the first lists are packed
pub record ArePacked (numbers starts : List ℕ) (lists : List (List ℕ)) (count : ℕ) : Type 0 where
  pub all : length starts ≡ count + 1
  pub last : start_of starts count ≡ length numbers
  pub bounded : (i : ℕ) → i ≤ count → start_of starts i ≤ length numbers
  pub same : (i : ℕ) → i < count → between_starts numbers starts i ≡ listed_at lists i

-- a part stays as it is when more comes behind
part_kept : (xs ys : List ℕ) (start end : ℕ) → start ≤ length xs → end ≤ length xs → take (end - start) (drop start (xs ++ ys))
    ≡ take (end - start) (drop start xs)
part_kept xs ys start end from to =
    ap (λ (part : List ℕ). take (end - start) part) (drop-append-le start xs ys from)
    ∙ take-append-le (end - start) (drop start xs) ys (omega (arith, length-drop start xs, from, to))

-- the part that came last
part_added : (xs ys : List ℕ) (end : ℕ) → end ≡ length (xs ++ ys) → take (end - length xs) (drop (length xs) (xs ++ ys)) ≡ ys
part_added xs ys end is =
    let count : end - length xs ≡ length ys = omega (arith, is, length-append xs ys) in
    ap (λ (part : List ℕ). take (end - length xs) part) (drop-append_seam xs ys) ∙ ap (λ n. take n ys) count ∙ take-length ys

start_kept : (starts : List ℕ) (end i : ℕ) → i < length starts → start_of (starts ++ end ∷ []) i ≡ start_of starts i
start_kept starts end i within = get_or-append starts (end ∷ []) 0 i within

start_added : (starts : List ℕ) (end i : ℕ) → i ≡ length starts → start_of (starts ++ end ∷ []) i ≡ end
start_added starts end i is = ap (λ n. get_or (starts ++ end ∷ []) n 0) is ∙ get_or-append_seam starts end [] 0

-- one list more
pub ArePacked-next : (numbers starts list : List ℕ) (lists : List (List ℕ)) (count end : ℕ) → ArePacked numbers starts lists count
    → list ≡ listed_at lists count
    → end ≡ length (numbers ++ list) → ArePacked (numbers ++ list) (starts ++ end ∷ []) lists (count + 1)
ArePacked-next numbers starts list lists count end before its is =
    let longer = length-append numbers list in
    let kept = λ (i : ℕ) (most : i ≤ count). start_kept starts end i (omega (arith, before.all, most)) in
    let added = start_added starts end (count + 1) (sym before.all) in
    record {
      all = length-append starts (end ∷ []) ∙ ap (λ n. n + 1) before.all;
      last = added ∙ is;
      bounded = λ i most. elim (cases_lt i (count + 1)) [
        | inl earlier ↦ omega (arith, kept i (omega (arith, earlier)), before.bounded i (omega (arith, earlier)), longer)
        | inr later ↦ let same : i ≡ count + 1 = omega (arith, later, most) in rw same (omega (arith, added, is))
      ];
      same = λ i below. elim (cases_lt i count) [
        | inl earlier ↦
            let start = kept i (omega (arith, earlier)) in
            let end_is = kept (i + 1) (omega (arith, earlier)) in
            rw (start, end_is) (part_kept numbers list (start_of starts i) (start_of starts (i + 1)) (before.bounded i (omega (arith, earlier)))
            (before.bounded (i + 1) (omega (arith, earlier)))
            ∙ before.same i earlier)
        | inr later ↦
            let same : i ≡ count = omega (arith, later, below) in
            let start = kept count (omega arith) ∙ before.last in
            rw (same, start, added) (part_added numbers list end is ∙ its)
      ];
    }

-- all lists
pub ArePacked-all : (numbers starts : List ℕ) (lists : List (List ℕ)) → ArePacked numbers starts lists (length lists) → (cell : ℕ)
    → between_starts numbers starts cell ≡ listed_at lists cell
ArePacked-all numbers starts lists packed cell = grind (arith, get_or-eq_default)
