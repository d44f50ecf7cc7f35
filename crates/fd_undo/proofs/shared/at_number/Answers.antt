use Rattle.std.proofs.Common.{rules}
use Rattle.std.proofs.lemmas.List.Sorted.{answers_always}
use Rattle.fd_blend.specs.Channel.{fresh}
use Rattle.fd_undo.specs.Alike.{no_alike}
use Rattle.fd_undo.proofs.BlockLemmas.{searched}
use Rattle.fd_undo.proofs.shared.at_number.Goals as goal

pub returns : goal.returns
returns c =
    let by_number = c.binary_search_by_key.ensures.position (λ f. f.number) (answers_always _ _ _ (λ f a r g called. search rules)) in
    let is = searched (λ f. f.number) (no_alike fresh) c.args.frames.now c.args.number c.requires.rises c.binary_search_by_key.result
    c.binary_search_by_key.ensures.bound by_number in
    rw c.ok.ensures.value (record { there = is.0; absent = is.1 })
