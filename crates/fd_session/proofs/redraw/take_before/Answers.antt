use Rattle.std.proofs.Common.{arith, false}
use Rattle.fd_session.proofs.Frames.{position_stands}
use Rattle.fd_session.proofs.Switching.{taken_spared, taken_back}
use Rattle.fd_session.proofs.redraw.take_before.Goals as goal

pub returns-then-spares : goal.returns-then-spares
returns-then-spares c = taken_spared _ _ _ c.requires.number.1 (c.spares.ensures c.if-spares.true) c.requires.stood

pub back_to-requires : goal.back_to-requires
back_to-requires c = omega (arith, c.requires.number.1, position_stands false _ c.args.switch.now.position c.args.owner.now c.requires.stood)

pub returns : goal.returns
returns c = taken_back _ _ _ _ c.requires.number.0 c.requires.number.1 c.requires.stood c.back_to.ensures
