use Rattle.std.proofs.Common.{◌∙◌, ap, length, arith, true, sym}
use Rattle.fd_frame.specs.State.{State, at_position, opening}
use Rattle.fd_session.proofs.Frames.{held_back}
use Rattle.fd_session.proofs.still.Still.draw.Goals as goal

pub invariant_of-self : goal.invariant_of-self
invariant_of-self g c =
    let held = c.self.invariant.0 in
    let comes = rw (c.drive-drive.ensures.policy, c.of-way.ensures.table, c.of-way.ensures.from, c.of-way.ensures.to) at c.go_forward.ensures.comes in
    let there = held_back true _ _ held.valid held.sized _ _ _ _ _ c.deref_mut.ensures.value c.self.inside.frame.owners.ok.0 held.places comes.left
    (omega (arith, comes.within, c.requires.within, ap (λ (s : State). length s.table.events) c.self.view_is)) in
    (there.0, c.self.invariant.1, c.self.invariant.2)

pub returns-clause-drawn : goal.returns-clause-drawn
returns-clause-drawn g c =
    let held = c.self.invariant.0 in
    let comes = rw (c.drive-drive.ensures.policy, c.of-way.ensures.table, c.of-way.ensures.from, c.of-way.ensures.to) at c.go_forward.ensures.comes in
    let there = held_back true _ _ held.valid held.sized _ _ _ _ _ c.deref_mut.ensures.value c.self.inside.frame.owners.ok.0 held.places comes.left
    (omega (arith, comes.within, c.requires.within, ap (λ (s : State). length s.table.events) c.self.view_is)) in
    rw (← c.self.view_is) (ap (at_position (opening c.self.inside.frame.table)) (there.1 ∙ sym c.unwrap_or.ensures))
