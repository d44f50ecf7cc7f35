use Rattle.std.proofs.lemmas.List.{take-replicate}
use Rattle.fd_tile.proofs.tile.fresh_depths.Goals as goal

pub returns : goal.returns
returns c = take-replicate c.args.count 1024 65535 c.requires
