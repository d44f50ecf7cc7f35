use Rattle.std.proofs.Common.{◌≡◌, ◌≤◌, ◌∙◌, true, sym, ap, arith}
use Rattle.fd_tile.specs.declared.place.Place.{Place}
use Rattle.fd_tile.specs.Tile.{TileImage}
use Rattle.fd_owner.specs.History.{History, position, extend_to}
use Rattle.fd_owner.specs.Owner.{history_of, IsOwner, OpensFresh}
use Rattle.fd_owner.specs.Shown.{Shown}
use Rattle.fd_owner.specs.Clears.{StandsAlike, StandsOnTo}
use Rattle.fd_owner.proofs.Histories.{position_extend_to}
use Rattle.fd_owner.proofs.Pictures.{position_seen, length-frames_seen}
use Rattle.fd_owner.proofs.Runs.{either, taken_on, taken_opens}
use Rattle.fd_owner.proofs.owner.Owner.take_found.Goals as goal
use Rattle.fd_owner.proofs.owner.Owner.take_found.Goals.{After-take}

-- where the tile stands before
stands : (c : After-take) → StandsAlike c.args.found.now c.in-Some.run'.now.from c.in-Some.run'.now.before c.self.inside.tile c.self.inside.undo
stands c =
    let begins = c.in-Some.ensures.begins in
    let at = c.position-position.ensures ∙ position_seen c.self.inside.tile c.self.inside.undo _ (ap (λ (s : Shown). s.history) c.self.view_is) in
    rw (begins.0, begins.1) (record {
      inside = rw (← c.self.view_is) at c.requires.inside;
      filled = c.place-place.ensures.filled;
      colours = c.in-Some-Some.ensures;
      depths = c.in-Some-Some.ensures'.flat;
      unmade = sym c.if-is_made.ensures;
      owner = c.self.invariant.0;
      at = sym at;
    })

on : (c : After-take) → c.take.result ≡ true
    → StandsOnTo c.args.found.now c.in-Some.run'.now.to c.self.inside.tile c.self.inside.undo c.take.new.tile c.take.new.undo
on c drawn =
    let told = c.take.ensures in
    taken_on c.args.found.now c.in-Some.run'.now c.in-Some.ensures.run c.self.inside.tile c.take.new.tile c.self.inside.undo c.take.new.undo
    (stands c) (told.deep drawn) (told.tile drawn) (told.undo drawn)

pub take-requires-clause-rise : goal.take-requires-clause-rise
take-requires-clause-rise c =
    let at = c.position-position.ensures ∙ position_seen c.self.inside.tile c.self.inside.undo _ (ap (λ (s : Shown). s.history) c.self.view_is) in
    rw (← at, ← c.in-Some.ensures.begins.0) (c.in-Some.ensures.run.rise c.self.inside.tile.place)

pub invariant_of-self : goal.invariant_of-self
invariant_of-self c =
    let d = (goal.at-invariant_of-self c).After-take in
    let told = c.take.ensures in
    let t = c.self.inside.tile in
    let u = c.self.inside.undo in
    either (IsOwner c.take.new.tile c.take.new.undo × OpensFresh c.take.new.tile c.take.new.undo) c.take.result (λ yes. (
      (on d yes).owner,
      taken_opens c.args.found.now c.in-Some.run'.now c.in-Some.ensures.run t c.take.new.tile u c.take.new.undo (stands d)
          (told.deep yes) (told.tile yes) (told.undo yes) c.self.invariant.1,
    )) (λ no. rw ((told.no no).0, (told.no no).1) c.self.invariant)

-- the position after it
order : (c : After-take) → position (history_of c.self.inside.tile c.self.inside.undo) ≤ c.in-Some.run'.now.to
order c = omega (arith, c.in-Some.ensures.run.order, (stands c).at, length-frames_seen c.self.inside.tile c.self.inside.undo.frames)

at : (c : After-take) → c.take.result ≡ true → position (history_of c.take.new.tile c.take.new.undo) ≡ c.in-Some.run'.now.to
at c drawn =
    ap position (on c drawn).history
    ∙ position_extend_to c.args.found.now c.self.inside.tile.place c.in-Some.run'.now.to (history_of c.self.inside.tile c.self.inside.undo) (order c)

pub returns-in-Some-clause-moved : goal.returns-in-Some-clause-moved
returns-in-Some-clause-moved c = λ drawn.
    let d = (goal.at-returns-in-Some-clause-moved c).After-take in
    let h : History = history_of c.self.inside.tile c.self.inside.undo in
    let placed = ap (λ (t : TileImage). t.place) (c.take.ensures.tile drawn) in
    let told = (on d drawn).history ∙ ap (λ n. extend_to c.args.found.now c.self.inside.tile.place n h) (sym (at d drawn)) in
    let shown : Place → History → Shown = λ p h'.
    record { place = p; history = h'; refusals = c.self.inside.refusals; refused_at = c.self.inside.refused_at } in
    rw (← c.self.view_is) (ap (λ p. shown p (history_of c.take.new.tile c.take.new.undo)) placed ∙ ap (shown c.self.inside.tile.place) told)

pub returns-in-Some-clause-least : goal.returns-in-Some-clause-least
returns-in-Some-clause-least c = λ drawn.
    let d = (goal.at-returns-in-Some-clause-least c).After-take in
    rw (← c.self.view_is, at d drawn) (order d)

pub returns-in-Some-clause-most : goal.returns-in-Some-clause-most
returns-in-Some-clause-most c = λ drawn.
    let d = (goal.at-returns-in-Some-clause-most c).After-take in
    omega (arith, at d drawn, c.in-Some.ensures.ends)
