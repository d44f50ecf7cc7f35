use Rattle.std.proofs.Common.{◌+◌, ◌++◌, ◌∙◌, ap, sym, drop, length, arith, append_assoc, append-nil, length-append, codes}
use Rattle.std.specs.List.{flat_map}
use Rattle.std.proofs.lemmas.Result.{err_from_is_err_and}
use Rattle.fd_device.proofs.Transfers.{puts_broken}
use Rattle.fd_words.specs.Text.{number_line, entry_line}
use Rattle.fd_words.proofs.EventLines.{entries_next, entries_end}
use Rattle.fd_words.proofs.Gathering.{waits_then, waits_broken, waits_sent}
use Rattle.fd_words.proofs.entries.send_entries.Goals as goal

pub returns-in_err-gather-clause-puts : goal.returns-in_err-gather-clause-puts
returns-in_err-gather-clause-puts g c =
    let entries = c.args.entries.now in
    let head = c.as_slice.ensures.value ∙ c.number_line-head.ensures in
    let p = err_from_is_err_and c.from_residual.result c.from_residual.ensures.1 in
    rw p.1
    (puts_broken _ _ _ _ (number_line (codes "history") (length entries)) (flat_map (entry_line c.args.version) entries)
    (rw (c.new-chunk.ensures, head) at c.in_err-gather.ensures.gathers))

pub returns-in_err-gather-2-clause-puts : goal.returns-in_err-gather-2-clause-puts
returns-in_err-gather-2-clause-puts g c =
    let entries = c.args.entries.now in
    let inv = c.loop-entry.invariant in
    let i = c.loop-entry.entry-index in
    let line = c.as_slice-in-loop-entry.ensures.value ∙ c.entry_line-line.ensures.items in
    let next = entries_next c.args.version entries i _ c.loop-entry-test.true in
    let p = err_from_is_err_and c.from_residual-in_err-gather-2.result c.from_residual-in_err-gather-2.ensures.1 in
    rw p.1
    (waits_broken _ (g.W.Sink.contents c.loop-entry.sink) _ _ c.loop-entry.sent _ inv.front _ (flat_map (entry_line c.args.version) (drop (i + 1) entries)) _
    c.loop-entry.chunk.items
    inv.waits (rw line at c.in_err-gather-2.ensures.gathers) (ap (λ xs. inv.front ++ xs) (sym next) ∙ inv.all))

pub loop-entry-preserved : goal.loop-entry-preserved
loop-entry-preserved g c =
    let entries = c.args.entries.now in
    let inv = c.loop-entry.invariant in
    let i = c.loop-entry.entry-index in
    let line = c.as_slice-in-loop-entry.ensures.value ∙ c.entry_line-line.ensures.items in
    let next = entries_next c.args.version entries i _ c.loop-entry-test.true in
    let this = c.entry_line-line.result.items in
    record {
      front = inv.front ++ this;
      waits = waits_then _ (g.W.Sink.contents c.loop-entry.sink) _ _ c.loop-entry.sent _ inv.front this c.loop-entry.chunk.items _ inv.waits
          (rw c.as_slice-in-loop-entry.ensures.value at c.in_ok-gather-2.ensures.gathers);
      all = append_assoc inv.front this _ ∙ ap (λ xs. inv.front ++ (xs ++ flat_map (entry_line c.args.version) (drop (i + 1) entries)))
          c.entry_line-line.ensures.items
          ∙ ap (λ xs. inv.front ++ xs) (sym next) ∙ inv.all;
      few = omega (arith, inv.few, c.entry_line-line.ensures.short, length-append inv.front this);
      failures = c.in_ok-gather-2.ensures.failures ∙ inv.failures;
    }

pub returns-clause-puts : goal.returns-clause-puts
returns-clause-puts g c =
    let entries = c.args.entries.now in
    let inv = c.loop-entry.invariant in
    let i = c.loop-entry.entry-index in
    let none = entries_end c.args.version entries i c.loop-entry-test.false in
    let all = sym (append-nil inv.front) ∙ ap (λ xs. inv.front ++ xs) (sym none) ∙ inv.all in
    rw (← all)
    (waits_sent _ (g.W.Sink.contents c.loop-entry.sink) _ _ c.loop-entry.sent _ inv.front c.loop-entry.chunk.items _ inv.waits
    (rw c.as_slice-2.ensures.value at c.send.ensures.puts))
