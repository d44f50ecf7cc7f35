use Rattle.std.proofs.Common.{◌≡◌, ℕ, ◌<◌, ◌++◌, ◌∷◌, [], List, length, set, sym, ap, ◌∙◌, subst, arith, Vec}
use Rattle.std.specs.List.{Contains}
use Rattle.std.proofs.lemmas.List.{map-set, length-map, get_or-map}
use Rattle.std.specs.declared.alloc.Global.{Global}
use Rattle.fd_events.specs.Numbers.{numbers_of, listed_at, Grow}
use Rattle.fd_events.proofs.CellLemmas.{Grow-add, added}
use Rattle.fd_events.proofs.numbers.add.Goals as goal

pub returns-clause-listed : goal.returns-clause-listed
returns-clause-listed c =
    let items = λ (list : Vec ℕ Global). list.items in
    let before = c.args.lists.now.items in
    let cell = c.args.cell in
    let here : cell < length before = omega (arith, c.requires, c.args.lists.now.ok.0) in
    let within : cell < length (numbers_of before) = omega (arith, here, length-map before items) in
    let old : c.index_mut-list.result.now.items ≡ listed_at (numbers_of before) cell = ap items c.index_mut-list.ensures.value
    ∙ sym (get_or-map items before cell _ [] here) in
    let new : c.push.new.list.items ≡ listed_at (numbers_of before) cell ++ c.args.number ∷ [] = c.in_ok-push.ensures.items
    ∙ ap (λ (xs : List ℕ). xs ++ c.args.number ∷ []) old in
    let is : numbers_of (set before cell c.push.new.list) ≡ set (numbers_of before) cell (listed_at (numbers_of before) cell ++ c.args.number ∷ []) =
    map-set items before cell c.push.new.list ∙ ap (λ (xs : List ℕ). set (numbers_of before) cell xs) new in
    subst (λ (lists : List (List ℕ)). Grow c.args.number (numbers_of before) lists × Contains (listed_at lists cell) c.args.number) (sym is)
    (Grow-add (numbers_of before) cell c.args.number within, added (numbers_of before) cell c.args.number within)
