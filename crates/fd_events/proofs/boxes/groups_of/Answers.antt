use Rattle.std.proofs.Common.{◌≡◌, ◌+◌, ◌++◌, ◌∷◌, [], length, length-append, sym, subst, arith}
use Rattle.fd_events.specs.Bounds.{IsRoundGroup, AreRoundGroups}
use Rattle.fd_events.proofs.BoundsLemmas.{each_box}
use Rattle.fd_events.proofs.boxes.groups_of.Goals as goal

pub loop-group-preserved : goal.loop-group-preserved
loop-group-preserved c =
    let inv = c.loop-group.invariant in
    let items = c.in_ok-push.ensures.items in
    let longer : length (c.loop-group.groups.items ++ c.round_group.result ∷ []) ≡ c.loop-group.group + 1 =
    omega (arith, inv.0, length-append c.loop-group.groups.items (c.round_group.result ∷ [])) in (
      rw items longer,
      λ ts are.
          let pushed : AreRoundGroups (c.loop-group.groups.items ++ c.round_group.result ∷ []) ts =
          each_box (λ box group. IsRoundGroup box group ts) _ c.loop-group.group _ inv.0 (inv.1 ts are) (c.round_group.ensures ts are) in
          subst (λ boxes. AreRoundGroups boxes ts) (sym items) pushed,
    )
