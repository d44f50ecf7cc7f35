use Rattle.std.proofs.Common.{◌<◌, refl, arith}
use Rattle.fd_undo.specs.Alike.{place_of_span}
use Rattle.fd_undo.proofs.SharedLemmas.{whole_at}
use Rattle.fd_undo.proofs.shared.Base.first_whole.Goals as goal

pub returns-then-number-from : goal.returns-then-number-from
returns-then-number-from c =
    let b = c.self.inside in
    let below : c.partition_point-first.result < b.count = omega arith in
    let rise = rw (← c.self.view_is) at c.requires.rise.1 in
    let whole = whole_at (place_of_span b.span) b.frames b.count c.partition_point-first.result 0 c.requires.rise.0 _ rise below c.self.invariant.2 refl in (
      c.if-number-from.true,
      grind (arith, whole),
    )
