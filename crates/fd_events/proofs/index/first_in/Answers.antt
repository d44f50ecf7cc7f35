use Rattle.std.proofs.Common.{ℕ, List, subst, sym}
use Rattle.std.specs.List.{Contains}
use Rattle.fd_events.proofs.index.first_in.Goals as goal

pub returns-in-Some-clause-passed : goal.returns-in-Some-clause-passed
returns-in-Some-clause-passed c = λ i from to has.
    c.first_from.ensures.passed i from to (subst (λ (xs : List ℕ). Contains xs i) (sym c.in-Some.ensures) has)
