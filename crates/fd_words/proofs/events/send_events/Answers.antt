use Rattle.std.proofs.Common.{◌+◌, ◌++◌, ◌∙◌, ap, sym, drop, length, ◌≤◌, arith, append_assoc, append-nil, length-append}
use Rattle.std.proofs.lemmas.Result.{err_from_is_err_and}
use Rattle.fd_device.proofs.Transfers.{puts_broken}
use Rattle.fd_words.specs.Text.{events_head, event_line, event_lines}
use Rattle.fd_words.proofs.EventLines.{lines_next, lines_end}
use Rattle.fd_words.proofs.Gathering.{waits_then, waits_broken, waits_sent}
use Rattle.fd_words.proofs.events.send_events.Goals as goal

pub returns-in_err-gather-clause-puts : goal.returns-in_err-gather-clause-puts
returns-in_err-gather-clause-puts g c =
    let table = c.args.table.now in
    let head = c.as_slice.ensures.value ∙ c.events_head-head.ensures ∙ ap (λ n. events_head n c.args.position) c.len.ensures.value in
    let p = err_from_is_err_and c.from_residual.result c.from_residual.ensures.1 in
    rw p.1
    (puts_broken _ _ _ _ (events_head (length table.events) c.args.position) (event_lines 1 table.events table.flags)
    (rw (c.new-chunk.ensures, head) at c.in_err-gather.ensures.gathers))

pub returns-in_err-gather-2-clause-puts : goal.returns-in_err-gather-2-clause-puts
returns-in_err-gather-2-clause-puts g c =
    let table = c.args.table.now in
    let inv = c.loop-index.invariant in
    let i = c.loop-index.index in
    let line = c.as_slice-in-loop-index.ensures.value ∙ c.event_line-line.ensures in
    let this = event_line (i + 1) c.event.result.now c.is_on.result in
    let next = lines_next table.events table.flags i c.event.result.now c.is_on.result c.event.ensures c.is_on.ensures in
    let p = err_from_is_err_and c.from_residual-in_err-gather-2.result c.from_residual-in_err-gather-2.ensures.1 in
    rw p.1
    (waits_broken _ (g.W.Sink.contents c.loop-index.sink) _ _ c.loop-index.sent _ inv.front this
    (event_lines (i + 1 + 1) (drop (i + 1) table.events) (drop (i + 1) table.flags)) _ c.loop-index.chunk.items
    inv.waits (rw line at c.in_err-gather-2.ensures.gathers) (ap (λ xs. inv.front ++ xs) (sym next) ∙ inv.all))

pub loop-index-preserved : goal.loop-index-preserved
loop-index-preserved g c =
    let table = c.args.table.now in
    let inv = c.loop-index.invariant in
    let i = c.loop-index.index in
    let line = c.as_slice-in-loop-index.ensures.value ∙ c.event_line-line.ensures in
    let this = event_line (i + 1) c.event.result.now c.is_on.result in
    let next = lines_next table.events table.flags i c.event.result.now c.is_on.result c.event.ensures c.is_on.ensures in
    let size : length this ≤ 256 = omega (arith, c.as_slice-in-loop-index.ensures.fits, ap length line) in
    record {
      front = inv.front ++ this;
      waits = waits_then _ (g.W.Sink.contents c.loop-index.sink) _ _ c.loop-index.sent _ inv.front this c.loop-index.chunk.items _ inv.waits
          (rw line at c.in_ok-gather-2.ensures.gathers);
      all = append_assoc inv.front this _ ∙ ap (λ xs. inv.front ++ xs) (sym next) ∙ inv.all;
      few = omega (arith, inv.few, size, length-append inv.front this);
      failures = c.in_ok-gather-2.ensures.failures ∙ inv.failures;
    }

pub returns-clause-puts : goal.returns-clause-puts
returns-clause-puts g c =
    let table = c.args.table.now in
    let inv = c.loop-index.invariant in
    let i = c.loop-index.index in
    let past : length table.events ≤ i = omega (arith, c.loop-index-test.false, c.len-index-end.ensures.value) in
    let none = lines_end (i + 1) table.events table.flags i past in
    let all = sym (append-nil inv.front) ∙ ap (λ xs. inv.front ++ xs) (sym none) ∙ inv.all in
    rw (← all)
    (waits_sent _ (g.W.Sink.contents c.loop-index.sink) _ _ c.loop-index.sent _ inv.front c.loop-index.chunk.items _ inv.waits
    (rw c.as_slice-2.ensures.value at c.send.ensures.puts))
