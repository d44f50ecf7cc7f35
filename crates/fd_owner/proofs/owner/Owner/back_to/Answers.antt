use Rattle.std.proofs.Common.{◌≡◌, ◌≤◌, ◌∙◌, sym, ap, length, take, drop, arith}
use Rattle.fd_tile.specs.Tile.{TileImage}
use Rattle.fd_undo.specs.Undo.{Undo}
use Rattle.fd_undo.proofs.Backs.{all_restored-made, all_restored-deep}
use Rattle.fd_owner.specs.History.{History}
use Rattle.fd_owner.specs.Shown.{Shown}
use Rattle.fd_owner.proofs.Pictures.{length-frames_seen, OpensFresh-kept}
use Rattle.fd_owner.proofs.GoneBack.{history_of-back, placed, IsOwner-back, IsOwner-renewed, OpensFresh-renewed, history_of-renewed}
use Rattle.fd_owner.proofs.owner.Owner.back_to.Goals as goal
use Rattle.fd_owner.proofs.owner.Owner.back_to.Goals.{After-undo_to}

few : (c : After-undo_to) → c.args.to ≤ length c.self.inside.undo.frames
few c = omega (arith, c.requires, ap (λ (s : Shown). length s.history.frames) c.self.view_is, length-frames_seen c.self.inside.tile c.self.inside.undo.frames)

left : (c : After-undo_to) → c.undo_to.new.self.frames ≡ take c.args.to c.self.inside.undo.frames
left c = ap (λ (u : Undo). u.frames) c.undo_to.ensures.frames

pub undo_to-requires-clause-few : goal.undo_to-requires-clause-few
undo_to-requires-clause-few c =
    omega (arith, c.requires, ap (λ (s : Shown). length s.history.frames) c.self.view_is, length-frames_seen c.self.inside.tile c.self.inside.undo.frames)

pub invariant_of-self-2 : goal.invariant_of-self-2
invariant_of-self-2 c =
    let d = (goal.at-invariant_of-self-2 c).After-undo_to in
    let t = c.self.inside.tile in
    let t' = c.undo_to.new.tile in
    let u = c.self.inside.undo in
    let u' = c.undo_to.new.self in
    let made = ap (λ (v : TileImage). v.made) c.undo_to.ensures.tile ∙ all_restored-made (drop c.args.to u.frames) t in
    let deep = ap (λ (v : TileImage). v.deep) c.undo_to.ensures.tile ∙ all_restored-deep (drop c.args.to u.frames) t in (
      IsOwner-back t t' u u' c.args.to (few d) c.undo_to.ensures.tile (left d) made deep c.self.invariant.0,
      OpensFresh-kept t t' u u'
          (ap (λ (h : History). h.opening) (history_of-back t t' u u' c.args.to (few d) c.undo_to.ensures.tile (left d)))
          (placed t t' u u' c.args.to (few d) c.undo_to.ensures.tile (left d)) (ap (λ (v : Undo). v.opens_fresh) c.undo_to.ensures.frames)
          c.self.invariant.1,
    )

pub returns : goal.returns
returns c =
    let d = (goal.at-returns c).After-undo_to in
    let t = c.self.inside.tile in
    let t' = c.undo_to.new.tile in
    let u = c.self.inside.undo in
    let u' = c.undo_to.new.self in
    rw (← c.self.view_is) (cc (
      placed t t' u u' c.args.to (few d) c.undo_to.ensures.tile (left d),
      history_of-back t t' u u' c.args.to (few d) c.undo_to.ensures.tile (left d),
    ))

-- ---- at once to the start
pub invariant_of-self : goal.invariant_of-self
invariant_of-self c =
    let t = c.self.inside.tile in
    grind (arith, IsOwner-renewed, OpensFresh-renewed)

pub returns-then-opens_fresh : goal.returns-then-opens_fresh
returns-then-opens_fresh c =
    let t = c.self.inside.tile in
    let t' = c.renew.new.self in
    let u = c.self.inside.undo in
    let u' = c.clear.new.self in
    let place = ap (λ (v : TileImage). v.place) c.renew.ensures in
    let history = history_of-renewed t t' u u' c.renew.ensures c.clear.ensures c.self.invariant.1 (sym c.opens_fresh.ensures ∙ c.if-opens_fresh.true) in
    let to : c.args.to ≡ 0 = c.if-to-eq0.true in
    rw (← c.self.view_is, to) (cc (place, history))
