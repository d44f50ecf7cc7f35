use Rattle.std.proofs.Common.{ℕ, List, subst}
use Rattle.std.specs.List.{Contains}
use Rattle.fd_events.proofs.cells.Cells.next.Goals as goal

pub returns-in-Some-clause-missed : goal.returns-in-Some-clause-missed
returns-in-Some-clause-missed c = λ i x y from to within.
    let there = c.in-Some.ensures.there x y within in
    (there.0, λ has. c.first_from.ensures.passed i from to (subst (λ (xs : List ℕ). Contains xs i) there.1 has))
