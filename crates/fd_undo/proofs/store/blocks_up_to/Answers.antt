use Rattle.std.proofs.Common.{rules, get_or, arith}
use Rattle.std.proofs.Math.Dec.{leb}
use Rattle.std.proofs.lemmas.Bool.{leb-true, leb-false}
use Rattle.std.proofs.lemmas.List.Sorted.{IsPartitionPoint-from_clause, IsPartitionedBy-leb}
use Rattle.fd_undo.specs.Block.{Filled, first_number}
use Rattle.fd_undo.proofs.StackLemmas.{firsts-rise}
use Rattle.fd_undo.proofs.store.blocks_up_to.Goals as goal

pub returns : goal.returns
returns c =
    let first = λ (b : Filled). first_number b.frames in
    let parted = IsPartitionedBy-leb first c.args.full.now c.args.number
    (firsts-rise c.args.full.now c.requires.rise.0 c.requires.rise.1 c.requires.have c.requires.rise.2) in
    let point = IsPartitionPoint-from_clause (λ (b : Filled). leb (first_number b.frames) c.args.number) c.args.full.now c.partition_point.result
    c.partition_point.ensures.partitioned parted (λ a r f called. search rules) in
    record {
      within = omega arith;
      begun = λ k d low. leb-true (first (get_or c.args.full.now k d)) c.args.number (point.0 k d (omega arith) low);
      later = λ k d high fits. leb-false (first (get_or c.args.full.now k d)) c.args.number (point.1 k d high fits);
    }
