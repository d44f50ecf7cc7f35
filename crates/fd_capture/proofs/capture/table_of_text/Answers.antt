use Rattle.std.proofs.Common.{ℕ, sym, subst}
use Rattle.std.specs.Prelude.{◌≤◌}
use Rattle.fd_capture.proofs.Whole.{are_of_version, within-or}
use Rattle.fd_capture.proofs.capture.table_of_text.Goals as goal

pub table-requires-clause-events : goal.table-requires-clause-events
table-requires-clause-events c = are_of_version c.likely_version-likely.result c.in_ok-head.head.events _ c.likely_version-likely.ensures
    c.in_ok-head.ensures.2.3

pub table-requires-2-clause-events : goal.table-requires-2-clause-events
table-requires-2-clause-events c =
    let within : (1 ≤ c.unwrap_or-found.result) × (c.unwrap_or-found.result ≤ 3) =
    subst (λ (n : ℕ). (1 ≤ n) × (n ≤ 3)) (sym c.unwrap_or-found.ensures)
    (within-or c.version.result c.likely_version-likely.result c.version.ensures.within c.likely_version-likely.ensures) in
    are_of_version c.unwrap_or-found.result c.in_ok-head-2.head.events _ within c.in_ok-head-2.ensures.2.3
