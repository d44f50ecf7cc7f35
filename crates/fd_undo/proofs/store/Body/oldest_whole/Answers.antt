use Rattle.std.proofs.Common.{◌++◌}
use Rattle.fd_undo.specs.Stack.{all_stored}
use Rattle.fd_undo.specs.Alike.{based}
use Rattle.fd_undo.proofs.KeptAt.{keeps-found}
use Rattle.fd_undo.proofs.SharedLemmas.{own_rise, base_rise, part_own, part_base}
use Rattle.fd_undo.proofs.store.Body.oldest_whole.Goals as goal

pub first_whole-number-requires : goal.first_whole-number-requires
first_whole-number-requires c =
    let b = c.args.self.now in
    record { rise = (c.requires.rise.0, base_rise b.base b.full.items b.last c.requires.rise.0 c.requires.rise.1 c.in-Some.base c.in-Some.is) }

pub oldest_whole-requires-clause-rise : goal.oldest_whole-requires-clause-rise
oldest_whole-requires-clause-rise c =
    let b = c.args.self.now in
    rw c.as_slice.ensures (c.requires.rise.0, own_rise b.base b.full.items b.last c.requires.rise.0 c.requires.rise.1)

pub returns : goal.returns
returns c =
    let b = c.args.self.now in
    keeps-found c.args.from c.args.place (all_stored b.full.items b.last) (all_stored (based b.base ++ b.full.items) b.last) c.oldest_whole.result
    (λ n some. part_own b.base b.full.items b.last c.requires.rise.0 c.requires.rise.1 n some) (rw c.as_slice.ensures at c.oldest_whole.ensures)

pub returns-then-is_some : goal.returns-then-is_some
returns-then-is_some c =
    let b = c.args.self.now in
    keeps-found c.args.from c.args.place c.in-Some.base (all_stored (based b.base ++ b.full.items) b.last) c.first_whole-number.result
    (λ n some. part_base b.base b.full.items b.last c.requires.rise.0 c.requires.rise.1 c.in-Some.base n c.in-Some.is some) c.first_whole-number.ensures
