use Rattle.std.proofs.Common.{arith}
use Rattle.fd_events.proofs.Texels.{colour_among}
use Rattle.fd_events.proofs.picture.bytes_of.Goals as goal

pub returns-clause-texels : goal.returns-clause-texels
returns-clause-texels c = λ k low. colour_among c.args.first c.args.count k _ c.args.texels.now low (omega arith)
