use Rattle.std.proofs.Common.{◌-◌, ◌∙◌, ap}
use Rattle.fd_owner.specs.History.{drop_last}
use Rattle.fd_owner.specs.Shown.{gone_back_to}
use Rattle.fd_owner.proofs.owner.Owner.back.Goals as goal

pub returns : goal.returns
unfolding drop_last
returns c = c.back_to.ensures ∙ ap (λ n. gone_back_to (n - 1) c.args.self.now) c.position.ensures
