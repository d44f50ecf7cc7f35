use Rattle.std.proofs.Common.{◌≡◌, ◌+◌, ◌^◌, ◌<◌, ◌∙◌, length, ap, arith}
use Rattle.fd_tile.specs.Tile.{TileImage}
use Rattle.fd_owner.specs.Shown.{Shown}
use Rattle.fd_owner.proofs.Past.{history_past, history_same, opens_cleared, owner_cleared}
use Rattle.fd_owner.proofs.Pictures.{position_seen}
use Rattle.fd_owner.proofs.owner.Owner.clear.Goals as goal
use Rattle.fd_owner.proofs.owner.Owner.clear.Goals.{After-clear_past}

-- the position as the stack tells it
here : (c : After-clear_past) → c.position-position.result ≡ length c.self.inside.undo.frames
here c = c.position-position.ensures ∙ position_seen c.self.inside.tile c.self.inside.undo _ (ap (λ (s : Shown). s.history) c.self.view_is)

pub invariant_of-self : goal.invariant_of-self
invariant_of-self c =
    let t = c.self.inside.tile in
    let u = c.self.inside.undo in
    let t' = c.clear_past.new.tile in
    let u' = c.clear_past.new.undo in
    let table = c.args.table.now in
    let k = c.position-position.result in
    let at = here (goal.at-invariant_of-self c).After-clear_past in
    let fits : k + 1 < 2 ^ 32 = omega (arith, c.number_past-number.ensures, c.number_past-number.type_inv) in
    let filled = c.place-place.ensures.filled in
    let drawn = c.clear_past.result in
    let past = c.clear_past.ensures.drawn in
    let same = c.clear_past.ensures.same in (
      owner_cleared t t' u u' table k filled c.self.invariant.0 at drawn past same fits,
      opens_cleared t t' u u' table k filled c.self.invariant.0 at drawn past same c.self.invariant.1,
    )

pub returns-clause-yes : goal.returns-clause-yes
returns-clause-yes c = λ yes.
    let clears = c.clear_past.ensures.drawn yes in
    let told = history_past c.self.inside.tile c.clear_past.new.tile c.self.inside.undo c.clear_past.new.undo c.args.table.now c.position-position.result
    clears.event _ clears.next c.place-place.ensures.filled c.self.invariant.0 (here (goal.at-returns-clause-yes c).After-clear_past) clears.past in
    rw (← c.self.view_is) (cc (clears.past.painted.placed, told))

pub returns-clause-no : goal.returns-clause-no
returns-clause-no c = λ no.
    let same = c.clear_past.ensures.same no in
    let told = history_same c.self.inside.tile c.clear_past.new.tile c.self.inside.undo c.clear_past.new.undo same in
    let placed : c.clear_past.new.tile.place ≡ c.self.inside.tile.place = ap (λ (t : TileImage). t.place) same.tile in
    rw (← c.self.view_is) (cc (placed, told))
