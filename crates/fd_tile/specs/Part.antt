-- Working. Some neighbouring items of a Vec, where a `&mut` to them is returned.
use Rattle.std.specs.Prelude.{ℕ, List, ◌++◌, ◌-◌, length, take, drop}
use Rattle.std.specs.List.{refill}
use Rattle.std.specs.Vec.{with_items}
use Rattle.std.specs.Borrow.{Lends, MutBor, Fml, Array, RattleType}
use Rattle.std.specs.declared.alloc.Allocator.{Ghosts}
use Rattle.std.specs.contracts.vec.Vec as vec

-- the list after its items from `start` to `end` were lent and left so: as many of them as were lent
abbrev pub part_left : {X : Type 0} → List X → ℕ → ℕ → List X → List X
part_left xs start end left = take start xs ++ (refill (end - start) (take (end - start) (drop start xs)) left ++ drop (end - start) (drop start xs))

-- the list with these items from index i on
abbrev pub pasted_at : {X : Type 0} → ℕ → List X → List X → List X
pasted_at i new xs = take i xs ++ (new ++ drop (length new) (drop i xs))

-- once the borrow r ends, the items from `start` to `end` are those that r shows last
abbrev pub LendsPart : (T A : RattleType) (heap : Ghosts A.Denot) → MutBor (vec.the_row T A heap).Denot → ℕ → ℕ → MutBor (List T.Denot) → Fml
LendsPart T A heap items start end r = Lends (vec.the_row T A heap) (Array T 0) items r
    (λ left. with_items items.now (part_left items.now.items start end left))
