use Rattle.std.proofs.Common.{◌∙◌, ap, length, arith}
use Rattle.fd_cli.proofs.Shows.{show_short}
use Rattle.fd_cli.proofs.show.show.Goals as goal

pub send_file-requires-clause-short : goal.send_file-requires-clause-short
send_file-requires-clause-short g c =
    let made = c.length_line-line.ensures in
    show_short c.args.session.now made.narrow made.low (omega (arith, c.as_slice.ensures.fits, ap length (c.as_slice.ensures.value ∙ made.line)))
