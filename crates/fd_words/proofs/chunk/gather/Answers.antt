use Rattle.std.proofs.lemmas.Result.{err_from_is_err_and}
use Rattle.fd_device.proofs.Transfers.{puts_broken}
use Rattle.fd_words.proofs.chunk.gather.Goals as goal

pub returns-in_err-make_room-clause-gathers : goal.returns-in_err-make_room-clause-gathers
returns-in_err-make_room-clause-gathers g c =
    let p = err_from_is_err_and c.from_residual.result c.from_residual.ensures.1 in
    rw p.1 (puts_broken _ _ _ _ c.args.chunk.now.items c.args.line.now c.in_err-make_room.ensures.err)
