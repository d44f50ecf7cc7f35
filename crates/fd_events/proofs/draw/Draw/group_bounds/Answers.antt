use Rattle.std.proofs.Common.{◌≡◌, ◌∙◌, sym, ap, subst, Some, slice_get, inl}
use Rattle.std.proofs.lemmas.Option.{slice_get-get_or}
use Rattle.fd_cover.specs.declared.bounds.Bounds.{Bounds}
use Rattle.fd_events.specs.Bounds.{IsRoundGroup}
use Rattle.fd_events.specs.declared.finder.Finder.{Finder}
use Rattle.fd_events.specs.Draw.{DrawList, triangles_of}
use Rattle.fd_events.specs.Finder.{Finds}
use Rattle.fd_events.proofs.draw.Draw.group_bounds.Goals as goal

-- the box that was found is the one round the group
round_group : (c : goal.After-result-1) → IsRoundGroup c.in-Some-get.bounds.now c.args.group (triangles_of c.args.self.now)
round_group c =
    let kept : Finds c.in-Some.finder.value (triangles_of c.self.inside.list) = rw c.in-Some.is at c.self.invariant in
    let finds : Finds c.deref.result.now (triangles_of c.self.inside.list) = subst (λ (finder : Finder). Finds finder (triangles_of c.self.inside.list))
    (sym c.deref.ensures) kept in
    let lookup = c.in-Some-get.ensures.lookup in
    let at : slice_get c.deref.result.now.groups.items c.args.group ≡ Some c.in-Some-get.bounds.now =
    ap (λ bs. slice_get bs c.args.group) (sym c.deref-in-Some.ensures.value)
    ∙ slice_get-get_or c.deref-in-Some.result.now c.args.group c.in-Some-get.bounds.now lookup.3.0 ∙ ap (λ (b : Bounds). Some b) (sym lookup.1) in
    subst (λ (d : DrawList). IsRoundGroup c.in-Some-get.bounds.now c.args.group (triangles_of d)) c.self.view_is
    (finds.groups c.args.group c.in-Some-get.bounds.now at)

pub returns-in-Some-get-clause-value : goal.returns-in-Some-get-clause-value
returns-in-Some-get-clause-value c = inl (round_group c).value

pub returns-in-Some-get-clause-covered : goal.returns-in-Some-get-clause-covered
returns-in-Some-get-clause-covered c = (round_group c).covered
