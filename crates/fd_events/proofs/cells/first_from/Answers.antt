use Rattle.std.proofs.Common.{◌≡◌, ℕ, ◌<◌, ◌≤◌, inl, inr, get_or, ltb, List, true, false, arith, rules}
use Rattle.std.specs.List.Sorted.{IsPartitionPoint}
use Rattle.std.proofs.lemmas.Bool.{cases_lt, ltb-true, ltb-false}
use Rattle.std.proofs.lemmas.List.Sorted.{IsPartitionPoint-from_clause, IsPartitionedBy-ltb}
use Rattle.fd_events.proofs.cells.first_from.Goals as goal

-- what stands before the place is less than the number, and what stands there or behind it is not
abbrev Parts : List ℕ → ℕ → ℕ → Type 0
Parts xs number place = IsPartitionPoint (λ n. ltb n number ≡ true) (λ n. ltb n number ≡ false) xs place

pub returns-in-Some-clause-from : goal.returns-in-Some-clause-from
returns-in-Some-clause-from c =
    let lookup = c.in-Some.ensures.lookup in
    let place = c.partition_point-place.result in
    let point : Parts c.args.numbers.now c.args.number place =
    IsPartitionPoint-from_clause (λ n. ltb n c.args.number) _ _ c.partition_point-place.ensures.partitioned
    (IsPartitionedBy-ltb (λ n. n) _ c.args.number c.requires.rise) (λ a r q k. search rules) in
    let there : c.args.number ≤ get_or c.args.numbers.now place c.in-Some.listed.now =
    ltb-false _ _ (point.1 place c.in-Some.listed.now (omega arith) lookup.3.0) in
    omega (arith, c.min.ensures, c.requires.order, there, lookup.1)

pub returns-in-Some-clause-passed : goal.returns-in-Some-clause-passed
returns-in-Some-clause-passed c = λ i from to has.
    let lookup = c.in-Some.ensures.lookup in
    let place = c.partition_point-place.result in
    let point : Parts c.args.numbers.now c.args.number place =
    IsPartitionPoint-from_clause (λ n. ltb n c.args.number) _ _ c.partition_point-place.ensures.partitioned
    (IsPartitionedBy-ltb (λ n. n) _ c.args.number c.requires.rise) (λ a r q k. search rules) in
    elim (cases_lt has.0 place) [
      | inl before ↦ omega (arith, ltb-true (get_or c.args.numbers.now has.0 i) c.args.number (point.0 has.0 i (omega arith) before), from)
      | inr after ↦ omega (arith, c.requires.rise place has.0 i after has.1, lookup.3.1 i, c.min.ensures, to)
    ]

pub returns-in-None-clause-passed : goal.returns-in-None-clause-passed
returns-in-None-clause-passed c = λ i from to has.
    let lookup = c.in-None.ensures.lookup in
    let place = c.partition_point-place.result in
    let point : Parts c.args.numbers.now c.args.number place =
    IsPartitionPoint-from_clause (λ n. ltb n c.args.number) _ _ c.partition_point-place.ensures.partitioned
    (IsPartitionedBy-ltb (λ n. n) _ c.args.number c.requires.rise) (λ a r q k. search rules) in
    let before : has.0 < place = omega (arith, has.1, lookup.3) in
    omega (arith, ltb-true (get_or c.args.numbers.now has.0 i) c.args.number (point.0 has.0 i (omega arith) before), from)
