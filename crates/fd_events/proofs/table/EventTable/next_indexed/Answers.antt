use Rattle.fd_events.specs.Table.{table_of}
use Rattle.fd_events.proofs.IndexLemmas.{passed_from}
use Rattle.fd_events.proofs.table.EventTable.next_indexed.Goals as goal

pub returns-clause-passed : goal.returns-clause-passed
returns-clause-passed c =
    let fields = c.self.inside in
    rw (← c.self.view_is)
    (passed_from (table_of fields.version fields.width fields.height fields.events.items fields.states.flags.items) fields.index c.args.from
    c.next.result c.args.window c.self.invariant.4 c.next.ensures.passed)
