use Rattle.std.proofs.Common.{◌≤◌, ◌-◌, ◌∙◌, [], replicate, refl, length, ap, arith}
use Rattle.fd_owner.specs.History.{position}
use Rattle.fd_owner.specs.Owner.{history_of}
use Rattle.fd_owner.specs.Shown.{Shown}
use Rattle.fd_owner.proofs.Pictures.{length-frames_seen, OpensFresh-kept}
use Rattle.fd_undo.specs.Undo.{Undo}
use Rattle.fd_undo.proofs.Backs.{all_restored-append, all_restored-empty}
use Rattle.fd_owner.proofs.Histories.{position_extend_to}
use Rattle.fd_owner.proofs.PassedForward.{gone_on}
use Rattle.fd_owner.proofs.owner.Owner.pass_to.Goals as goal

pub pass_to-requires : goal.pass_to-requires
pass_to-requires c =
    omega (arith, c.requires.on, ap (λ (s : Shown). length s.history.frames) c.self.view_is, length-frames_seen c.self.inside.tile c.self.inside.undo.frames)

pub invariant_of-self : goal.invariant_of-self
invariant_of-self c =
    let t = c.self.inside.tile in
    let u = c.self.inside.undo in
    let on : position (history_of t u) ≤ c.args.to = omega (arith, c.requires.on, ap (λ (s : Shown). position s.history) c.self.view_is) in
    let far = rw (← c.self.view_is) at c.requires.far in
    let n = c.args.to - length u.frames in (
      rw c.pass_to.ensures (gone_on c.args.table.now t c.place-place.ensures.filled u c.self.invariant.0 c.args.to on c.ranges.to.fits far).0,
      OpensFresh-kept t t u c.pass_to.new.self
          (rw (c.pass_to.ensures, all_restored-append u.frames (replicate n []) t, all_restored-empty n t) refl) refl
          (ap (λ (v : Undo). v.opens_fresh) c.pass_to.ensures) c.self.invariant.1,
    )

pub returns : goal.returns
returns c =
    let t = c.self.inside.tile in
    let u = c.self.inside.undo in
    let on : position (history_of t u) ≤ c.args.to = omega (arith, c.requires.on, ap (λ (s : Shown). position s.history) c.self.view_is) in
    let far = rw (← c.self.view_is) at c.requires.far in
    let passed = ap (history_of t) c.pass_to.ensures
    ∙ (gone_on c.args.table.now t c.place-place.ensures.filled u c.self.invariant.0 c.args.to on c.ranges.to.fits far).1 in
    rw (← c.self.view_is) (record { moved = cc passed; at = ap position passed ∙ position_extend_to c.args.table.now t.place c.args.to (history_of t u) on })
