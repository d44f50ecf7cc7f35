use Rattle.std.proofs.Common.{ℕ, subst, sym, arith}
use Rattle.std.specs.List.{Contains}
use Rattle.fd_events.specs.Packed.{listed_in}
use Rattle.fd_events.proofs.index.EventIndex.next.Goals as goal

pub returns-clause-passed : goal.returns-clause-passed
returns-clause-passed c = λ event x y from to within.
    let lists = c.in-Some-Some.lists in
    let has = c.in-Some-Some.ensures x y within in
    let cell = c.first_in-listed.ensures.passed event from (omega (arith, to, c.first_in.ensures.last)) in
    let wide = c.first_in.ensures.passed event from to in
    rw c.in-Some-Some.is-1 (
      has.0,
      (
        λ in_cell. cell (subst (λ (place : ℕ). Contains (listed_in lists place) event) has.1 in_cell),
        λ in_wide. wide (subst (λ (place : ℕ). Contains (listed_in lists place) event) (sym c.len.ensures) in_wide),
      ),
    )
