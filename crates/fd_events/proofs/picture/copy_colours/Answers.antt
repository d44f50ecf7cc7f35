use Rattle.std.proofs.Common.{◌≡◌, ◌*◌, ◌∙◌, inl, inr, ap, sym, drop, arith, length-set}
use Rattle.std.specs.Prelude.{unwrap_or}
use Rattle.std.proofs.lemmas.Bool.{cases_lt}
use Rattle.std.proofs.lemmas.List.{get_or-set_other}
use Rattle.std.proofs.lemmas.Grind.{get_or-set_at}
use Rattle.fd_events.specs.Picture.{first_colour, no_colour}
use Rattle.fd_events.proofs.Texels.{colour_at}
use Rattle.fd_events.proofs.picture.copy_colours.Goals as goal

pub loop-i-preserved : goal.loop-i-preserved
loop-i-preserved c =
    let out = c.loop-i.out in
    let bytes = c.args.bytes.now in
    let i = c.loop-i.i in
    let inv = c.loop-i.invariant in
    record {
      size = length-set out i _ ∙ inv.size;
      read = λ k d low. elim (cases_lt k i) [
        | inl below ↦ get_or-set_other out i k _ d (λ same. absurd (omega (arith, same, below))) ∙ inv.read k d below
        | inr from ↦
            let last : k ≡ i = omega (arith, low, from) in
            get_or-set_at out i k _ d last (omega (arith, inv.size, c.loop-i-test.true))
            ∙ colour_at (4 * i) bytes _ _ _ _ (omega (arith, c.requires, c.loop-i-test.true))
            ∙ ap (λ j. unwrap_or (first_colour (drop (4 * j) bytes)) no_colour) (sym last)
      ];
    }
