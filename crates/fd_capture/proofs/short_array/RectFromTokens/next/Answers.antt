use Rattle.std.proofs.Common.{Some, option_map, sym, ap, ◌∙◌}
use Rattle.fd_capture.specs.Field.{rect_of_list, signed_32}
use Rattle.fd_capture.specs.Streamed.{rect_from}
use Rattle.fd_capture.proofs.Streams.{array-read, rect-by_sides, rect_from-kept}
use Rattle.fd_capture.proofs.short_array.RectFromTokens.next.Goals as goal

pub returns-in-Some-clause-ok : goal.returns-in-Some-clause-ok
returns-in-Some-clause-ok c =
    let read = c.in_ok-sides.ensures.ok in
    let items = sym (ap (option_map (λ v. v.items)) c.in-Some.is) ∙ read.2 in (
      read.0,
      read.1,
      c.rect_from.ensures ∙ ap rect_from c.as_slice.ensures.value
          ∙ array-read signed_32 rect_from rect_of_list rect-by_sides rect_from-kept read.0 (Some c.in-Some.sides.items) items,
    )

pub returns-in-None-clause-ok : goal.returns-in-None-clause-ok
returns-in-None-clause-ok c =
    let read = c.in_ok-sides.ensures.ok in
    let none = sym (ap (option_map (λ v. v.items)) c.in-None.is) ∙ read.2 in (
      read.0,
      read.1,
      array-read signed_32 rect_from rect_of_list rect-by_sides rect_from-kept read.0 _ none,
    )
