use Rattle.std.proofs.Common.{◌≡◌, ◌+◌, ◌*◌, ap, sym, length, arith, true}
use Rattle.fd_pam.specs.Pam.{tuples}
use Rattle.fd_pam.proofs.Pams.{length-body}
use Rattle.fd_device.proofs.Transfers.{puts_whole, puts_from_front}
use Rattle.fd_cli.proofs.show.send_body.Goals as goal

pub overflow_add-sent-in-Err-Write : goal.overflow_add-sent-in-Err-Write
overflow_add-sent-in-Err-Write g c =
    let bytes = rw c.in-Err-Write.field-0-is at c.in-Err-Write.ensures.bytes in omega (arith, c.requires, bytes.0)

pub overflow_add-sent : goal.overflow_add-sent
overflow_add-sent g c =
    let size = c.target_size-width.ensures in
    rw (c.from.ensures, c.from-in-Ok.ensures, size.height, size.width) (omega (arith, c.requires, length-body c.args.session.now))

pub returns-in-Ok-clause-puts : goal.returns-in-Ok-clause-puts
returns-in-Ok-clause-puts g c =
    let state = c.args.session.now in
    let size = c.target_size-width.ensures in
    let count : c.args.sent.now + 4 * (c.from.result * c.from-in-Ok.result) ≡ c.args.sent.now + length (tuples state) =
    rw (c.from.ensures, c.from-in-Ok.ensures, size.height, size.width) (ap (λ n. c.args.sent.now + n) (sym (length-body state))) in
    puts_whole _ _ _ _ (tuples state) c.in-Ok.ensures.bytes count true

pub returns-in-Err-Write-clause-puts : goal.returns-in-Err-Write-clause-puts
returns-in-Err-Write-clause-puts g c =
    let bytes = rw c.in-Err-Write.field-0-is at c.in-Err-Write.ensures.bytes in
    puts_from_front _ _ c.args.sent.now c.in-Err-Write.more (tuples c.args.session.now) bytes.0 bytes.1
