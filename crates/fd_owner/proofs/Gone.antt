-- What an owner shows that has gone on through next events, and goes on.
use Rattle.std.proofs.Common.{◌≡◌, ℕ, ◌≤◌, sym, ap, ◌∙◌}
use Rattle.fd_events.specs.Table.{Table}
use Rattle.fd_owner.specs.History.{History, position}
use Rattle.fd_owner.specs.Shown.{Shown, gone_forward, gone_on_to}
use Rattle.fd_owner.proofs.Histories.{position_extend, extend_more, extend_none, extend_to_on}

pub gone_none : (table : Table) (s : Shown) → s ≡ gone_on_to table (position s.history) s
gone_none table s = ap (λ (h : History). record s { history = h }) (sym (extend_none table s.place s.history))

module _ (table : Table) (old now next : Shown) (after : position old.history ≤ position now.history)
    (is : now ≡ gone_on_to table (position now.history) old) where
  -- through one more event
  pub gone_more : next ≡ gone_forward table now → next ≡ gone_on_to table (position next.history) old
  gone_more step =
      let at = ap (λ (s : Shown). position s.history) step ∙ position_extend table now.place now.history in
      step ∙ ap (gone_forward table) is
      ∙ ap (λ (h : History). record old { history = h }) (extend_more table old.place (position now.history) old.history after)
      ∙ ap (λ (n : ℕ). gone_on_to table n old) (sym at)

  -- and up to a position
  pub gone_further : next ≡ gone_on_to table (position next.history) now → position now.history ≤ position next.history
      → next ≡ gone_on_to table (position next.history) old
  gone_further step on =
      step ∙ ap (gone_on_to table (position next.history)) is
      ∙ ap (λ (h : History). record old { history = h }) (extend_to_on table old.place (position now.history) (position next.history) old.history after on)
