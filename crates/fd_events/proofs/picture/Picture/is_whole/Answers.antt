use Rattle.std.proofs.Common.{◌≡◌, true, arith}
use Rattle.std.specs.Prelude.{is_none, option_map}
use Rattle.fd_events.proofs.Texels.{texel_there}
use Rattle.fd_events.proofs.picture.Picture.is_whole.Goals as goal

pub returns-clause-filled : goal.returns-clause-filled
returns-clause-filled c whole x y inside =
    let none : is_none (option_map (λ v. v.items) c.self.inside.holes) ≡ true = grind (arith, c.is_none.ensures, whole) in
    rw (← c.self.view_is) (texel_there _ x y c.self.invariant none (rw (← c.self.view_is) at inside))
