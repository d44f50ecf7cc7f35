use Rattle.std.proofs.Common.{rules}
use Rattle.std.proofs.lemmas.List.Sorted.{answers_always}
use Rattle.fd_undo.specs.Block.{no_mark}
use Rattle.fd_undo.proofs.BlockLemmas.{searched}
use Rattle.fd_undo.proofs.block.place_of.Goals as goal

pub returns : goal.returns
returns c =
    let by_number = c.binary_search_by_key.ensures.position (λ m. m.number) (answers_always _ _ _ (λ f a r g called. search rules)) in
    let is = searched (λ m. m.number) no_mark c.args.marks.now c.args.number c.requires.rises c.binary_search_by_key.result
    c.binary_search_by_key.ensures.bound by_number in
    rw c.ok.ensures.value (record { there = is.0; absent = is.1 })
