use Rattle.fd_owner.proofs.PassedOver.{misses_from}
use Rattle.fd_session.specs.Switch.{unswitched}
use Rattle.fd_session.proofs.Spared.{spared}
use Rattle.fd_session.proofs.switch.Switch.spares.Goals as goal

pub returns : goal.returns
returns c = λ away.
    spared _ (unswitched c.args.table.now c.args.self.now) _ _ _ c.requires.reach c.requires.inside
    (misses_from _ c.bounds.result _ c.bounds.ensures.value (c.meets.ensures.apart away))
