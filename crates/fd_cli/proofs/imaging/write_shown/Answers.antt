use Rattle.std.proofs.Common.{◌∙◌, ap, sym, [], take, drop, take-append-drop, append-nil, arith}
use Rattle.std.proofs.KnownBytes.{Appends-kept}
use Rattle.std.proofs.lemmas.List.{length-take}
use Rattle.fd_events.specs.Table.{Table}
use Rattle.fd_pam.specs.Pam.{pam, pam_len}
use Rattle.fd_cli.proofs.Shows.{length-pam}
use Rattle.fd_cli.proofs.imaging.write_shown.Goals as goal

pub returns-in-Err-Write-clause-writes : goal.returns-in-Err-Write-clause-writes
returns-in-Err-Write-clause-writes g c =
    let bytes = rw c.in-Err-Write.field-0-is at c.in-Err-Write.ensures.bytes in
    let text = pam c.args.still.now in
    let sent = c.in-Err-Write.sent in
    (take sent text, bytes.1, (drop sent text, take-append-drop sent text, omega (arith, length-take sent text, bytes.0)))

pub returns-in-Err-clause-writes : goal.returns-in-Err-clause-writes
returns-in-Err-clause-writes g c =
    let state = c.args.still.now in
    let contents = g.W.Sink.contents in
    let count =
    c.pam_len-sent.ensures
    ∙ ap (λ n. pam_len n c.height.result) (c.width.ensures.value ∙ ap (λ (t : Table). t.width) c.table-table.ensures)
    ∙ ap (pam_len state.table.width) (c.height.ensures.value ∙ ap (λ (t : Table). t.height) c.table-table.ensures)
    ∙ sym (length-pam state) in (
      pam state,
      Appends-kept (contents c.args.sink.now) (contents c.write.new.sink) (contents c.flush.new.self) (pam state) c.in-Ok.ensures.bytes
          c.in-Err.ensures.bytes,
      ([], append-nil (pam state), count),
    )
