use Rattle.std.proofs.Common.{◌∙◌, sym, ap}
use Rattle.std.proofs.lemmas.Bool.{false≢true}
use Rattle.fd_owner.proofs.Forgets.{history_of-emptied, IsOwner-emptied}
use Rattle.fd_owner.proofs.owner.Owner.forget.Goals as goal

pub invariant_of-self : goal.invariant_of-self
invariant_of-self c = (
  IsOwner-emptied c.self.inside.tile c.self.inside.undo c.forget.new.self (ap (λ u. u.frames) c.forget.ensures) c.self.invariant.0,
  λ yes. absurd (false≢true (sym (ap (λ u. u.opens_fresh) c.forget.ensures) ∙ yes)),
)

pub returns : goal.returns
returns c =
    rw (← c.self.view_is) (cc (history_of-emptied c.self.inside.tile c.self.inside.undo c.forget.new.self (ap (λ u. u.frames) c.forget.ensures)))
