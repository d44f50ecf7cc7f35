use Rattle.std.proofs.Common.{◌≡◌, ◌+◌, ◌∙◌, inl, inr, ap, sym, length, arith, length-set}
use Rattle.std.proofs.lemmas.Bool.{cases_lt}
use Rattle.std.proofs.lemmas.List.{get_or-set_other}
use Rattle.std.proofs.lemmas.Grind.{get_or-set_at}
use Rattle.fd_blend.specs.Channel.{fresh}
use Rattle.fd_cover.proofs.WalkLemmas.{columns_from}
use Rattle.fd_events.specs.Picture.{texel_or_none}
use Rattle.fd_events.proofs.picture.Picture.look_up_row.Goals as goal

pub loop-i-preserved : goal.loop-i-preserved
loop-i-preserved c =
    let out = c.loop-i.out in
    let i = c.loop-i.i in
    let colour = c.texel_or_none.result in
    let inv = c.loop-i.invariant in
    record {
      size = length-set out i colour ∙ inv.size;
      read = λ k d low. elim (cases_lt k i) [
        | inl below ↦ get_or-set_other out i k colour d (λ same. absurd (omega (arith, same, below))) ∙ inv.read k d below
        | inr from ↦
            let last : k ≡ i = omega (arith, low, from) in
            get_or-set_at out i k colour d last (omega (arith, inv.size, c.loop-i-test.true)) ∙ c.texel_or_none.ensures
            ∙ ap (λ j. texel_or_none c.args.self.now (c.args.x + j) c.args.y) (sym last)
      ];
    }

pub returns : goal.returns
returns c =
    let inv = c.loop-i.invariant in
    columns_from fresh (λ column. texel_or_none c.args.self.now column c.args.y) c.args.x (length c.args.out.now) c.loop-i.out inv.size
    (λ i d low. inv.read i d (omega (arith, low, c.loop-i-test.false)))
