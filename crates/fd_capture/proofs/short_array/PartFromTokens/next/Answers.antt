use Rattle.std.proofs.Common.{Some, option_map, sym, ap, ◌∙◌}
use Rattle.fd_capture.specs.Field.{part_of_list}
use Rattle.fd_capture.specs.Streamed.{part_from}
use Rattle.fd_capture.proofs.Streams.{array-read, part-by_words, part_from-kept, word_of_data}
use Rattle.fd_capture.proofs.short_array.PartFromTokens.next.Goals as goal

pub returns-in-Some-clause-ok : goal.returns-in-Some-clause-ok
returns-in-Some-clause-ok c =
    let read = c.in_ok-words.ensures.ok in
    let items = sym (ap (option_map (λ v. v.items)) c.in-Some.is) ∙ read.2 in (
      read.0,
      read.1,
      c.part_from.ensures ∙ ap part_from c.as_slice.ensures.value
          ∙ array-read word_of_data part_from part_of_list part-by_words part_from-kept read.0 (Some c.in-Some.words.items) items,
    )

pub returns-in-None-clause-ok : goal.returns-in-None-clause-ok
returns-in-None-clause-ok c =
    let read = c.in_ok-words.ensures.ok in
    let none = sym (ap (option_map (λ v. v.items)) c.in-None.is) ∙ read.2 in (
      read.0,
      read.1,
      array-read word_of_data part_from part_of_list part-by_words part_from-kept read.0 _ none,
    )
