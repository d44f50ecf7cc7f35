use Rattle.std.proofs.Common.{◌≡◌, ℕ, ◌<◌, ◌++◌, [], length, length-append, Vec, sym, ap, arith, ◌∙◌}
use Rattle.std.proofs.lemmas.List.{length-map, get_or-map}
use Rattle.std.specs.declared.alloc.Global.{Global}
use Rattle.fd_events.specs.Numbers.{numbers_of, listed_at}
use Rattle.fd_events.proofs.PackedLemmas.{ArePacked-next, ArePacked-all}
use Rattle.fd_events.proofs.packed.Packed.of.Goals as goal

pub loop-cell-preserved : goal.loop-cell-preserved
loop-cell-preserved c =
    let items = λ (list : Vec ℕ Global). list.items in
    let all = c.args.lists.now in
    let cell = c.loop-cell.cell in
    let numbers = c.loop-cell.numbers.items in
    let starts = c.loop-cell.starts.items in
    let list = c.deref.result.now in
    let within : cell < length all = omega (arith, c.loop-cell-test.true) in
    let its : list ≡ listed_at (numbers_of all) cell = c.deref.ensures.value ∙ ap items c.index-lists-cell.is ∙ sym (get_or-map items all cell _ [] within) in
    let longer = c.in_ok-append.ensures.items in
    let end : c.in-Ok.end ≡ length (numbers ++ list) =
    omega (
      arith,
      c.in-Ok.ensures,
      c.len-in-loop-cell.ensures,
      c.append.new.list.ok.0,
      c.loop-cell.numbers.ok.0,
      ap length longer,
      length-append numbers
          list,
    ) in
    let more = c.in_ok-push-2.ensures.items in
    rw (longer, more) (ArePacked-next numbers starts list (numbers_of all) cell c.in-Ok.end c.loop-cell.invariant its end)

pub returns-clause-lists : goal.returns-clause-lists
returns-clause-lists c = grind (arith, length-map, ArePacked-all)
