use Rattle.std.proofs.Common.{◌∙◌, ◌<◌, refl, ap, sym, get_or, length, arith}
use Rattle.std.specs.Prelude.{slice_set}
use Rattle.std.proofs.lemmas.List.{map-id}
use Rattle.std.proofs.lemmas.List.Edits.{map_over_more}
use Rattle.fd_owner.specs.Shown.{Shown}
use Rattle.fd_session.specs.Held.{as_kept}
use Rattle.fd_session.proofs.moves.settle.Goals as goal

pub returns-then-not-forgets : goal.returns-then-not-forgets
returns-then-not-forgets c = rw c.if-not-forgets.true (sym (map-id c.args.owners.now))

pub loop-owner-preserved : goal.loop-owner-preserved
loop-owner-preserved c =
    let owners = c.loop-owner.owners in
    let number = c.loop-owner.owner-index in
    let owner : Shown = get_or owners number c.owner-item.result in
    let within : number < length c.args.owners.now = omega (arith, c.loop-owner-test.true, c.loop-owner.auto.owners) in
    ap (λ (o : Shown). slice_set owners number o) (c.forget.ensures ∙ rw c.if-not-forgets.false refl)
    ∙ map_over_more (as_kept c.args.forgets) c.args.owners.now owners number owner within c.loop-owner.invariant
    (ap (λ (o : Shown). get_or owners number o) c.owner-item.is)
