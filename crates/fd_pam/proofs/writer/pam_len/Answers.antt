use Rattle.std.proofs.Common.{arith}
use Rattle.fd_pam.proofs.Pams.{length-header}
use Rattle.fd_pam.proofs.writer.pam_len.Goals as goal

pub returns : goal.returns
returns c =
    rw (c.from.ensures, c.from-2.ensures)
    (omega (arith, c.digit_count.ensures.value, c.digit_count-2.ensures.value, length-header c.args.width c.args.height))
