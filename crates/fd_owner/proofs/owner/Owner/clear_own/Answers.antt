use Rattle.std.proofs.Common.{◌≡◌, ◌+◌, ◌<◌, ◌∙◌, sym, ap, subst, arith}
use Rattle.fd_tile.specs.declared.place.Place.{Place}
use Rattle.fd_owner.specs.History.{position}
use Rattle.fd_owner.specs.Shown.{Shown, IsInside, gone_on_to}
use Rattle.fd_owner.proofs.Histories.{position_extend}
use Rattle.fd_owner.proofs.Gone.{gone_none, gone_more, gone_further}
use Rattle.fd_owner.proofs.owner.Owner.clear_own.Goals as goal
use Rattle.fd_owner.proofs.owner.Owner.clear_own.Goals.{Then-clear, Else-clear, After-pass_to}

-- a clear is a position more
one_more : (c : Then-clear) → position c.clear.new.self.history ≡ position c.loop-clears.self.history + 1
one_more c =
    let now = c.loop-clears.self in
    ap (λ (s : Shown). position s.history) (c.clear.ensures.yes c.if-clear.true) ∙ position_extend c.args.table.now now.place now.history

-- where the next event is no clear, nothing changed
stays : (c : Else-clear) → c.clear.new.self ≡ c.loop-clears.self
stays c = c.clear.ensures.no c.if-clear.false

pub loop-clears-init : goal.loop-clears-init
loop-clears-init c = rw c.expect.ensures (record { moved = gone_none c.args.table.now c.args.self.now; least = omega arith; most = c.requires.on })

pub loop-clears-smaller-then-clear : goal.loop-clears-smaller-then-clear
loop-clears-smaller-then-clear c = omega (arith, one_more c, c.position.ensures, c.loop-clears-test.true)

pub loop-clears-preserved-then-clear : goal.loop-clears-preserved-then-clear
loop-clears-preserved-then-clear c =
    let inv = c.loop-clears.invariant in
    let more = one_more (goal.at-loop-clears-preserved-then-clear c).Then-clear in
    record {
      moved = gone_more c.args.table.now c.args.self.now c.loop-clears.self c.clear.new.self inv.least inv.moved (c.clear.ensures.yes c.if-clear.true);
      least = omega (arith, inv.least, more);
      most = omega (arith, more, c.position.ensures, c.loop-clears-test.true);
    }

pub next_near-near-requires-clause-inside : goal.next_near-near-requires-clause-inside
next_near-near-requires-clause-inside c =
    let placed : c.clear.new.self.place ≡ c.args.self.now.place = ap (λ (s : Shown). s.place) (stays c ∙ c.loop-clears.invariant.moved) in
    subst (λ (p : Place). IsInside p c.args.table.now) (sym placed) c.requires.inside

pub returns-then-near-position-clause-moved : goal.returns-then-near-position-clause-moved
returns-then-near-position-clause-moved c =
    subst (λ (s : Shown). s ≡ gone_on_to c.args.table.now (position s.history) c.args.self.now)
    (sym (stays (goal.at-returns-then-near-position-clause-moved c).Else-clear)) c.loop-clears.invariant.moved

pub returns-then-near-position-clause-least : goal.returns-then-near-position-clause-least
returns-then-near-position-clause-least c =
    rw (stays (goal.at-returns-then-near-position-clause-least c).Else-clear) c.loop-clears.invariant.least

-- it has gone on past events that write nothing
on : (c : After-pass_to) → (c.pass_to.new.self ≡ gone_on_to c.args.table.now (position c.pass_to.new.self.history) c.loop-clears.self)
    × (position c.loop-clears.self.history < position c.pass_to.new.self.history)
on c =
    let same = c.clear.ensures.no c.if-clear.false in
    let now = ap (λ (s : Shown). position s.history) same in (
      c.pass_to.ensures.moved ∙ ap (λ n. gone_on_to c.args.table.now n c.clear.new.self) (sym c.pass_to.ensures.at)
          ∙ ap (gone_on_to c.args.table.now (position c.pass_to.new.self.history)) same,
      omega (arith, now, c.pass_to.ensures.at, c.next_near-near.ensures.least, c.position-in-loop-clears.ensures, c.if-near-position.false),
    )

pub loop-clears-smaller : goal.loop-clears-smaller
loop-clears-smaller c = omega (arith, (on c).1, c.pass_to.ensures.at, c.next_near-near.ensures.most)

pub loop-clears-preserved : goal.loop-clears-preserved
loop-clears-preserved c =
    let inv = c.loop-clears.invariant in
    let more = on (goal.at-loop-clears-preserved c).After-pass_to in
    record {
      moved = gone_further c.args.table.now c.args.self.now c.loop-clears.self c.pass_to.new.self inv.least inv.moved more.0 (omega (arith, more.1));
      least = omega (arith, inv.least, more.1);
      most = omega (arith, c.pass_to.ensures.at, c.next_near-near.ensures.most);
    }

pub returns-clause-moved : goal.returns-clause-moved
returns-clause-moved c = c.loop-clears.invariant.moved

pub returns-clause-most : goal.returns-clause-most
returns-clause-most c = c.loop-clears.invariant.most
