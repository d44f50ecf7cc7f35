use Rattle.std.proofs.Common.{Some, option_map, sym, ap, ◌∙◌}
use Rattle.fd_capture.specs.Field.{colour_of_list, number_between}
use Rattle.fd_capture.specs.Streamed.{colour_from}
use Rattle.fd_capture.proofs.Streams.{array-read, colour-by_channels, colour_from-kept}
use Rattle.fd_capture.proofs.short_array.ColourFromTokens.next.Goals as goal

pub returns-in-Some-clause-ok : goal.returns-in-Some-clause-ok
returns-in-Some-clause-ok c =
    let read = c.in_ok-channels.ensures.ok in
    let items = sym (ap (option_map (λ v. v.items)) c.in-Some.is) ∙ read.2 in (
      read.0,
      read.1,
      c.colour_from.ensures ∙ ap colour_from c.as_slice.ensures.value
          ∙ array-read (number_between 0 255) colour_from colour_of_list colour-by_channels colour_from-kept read.0 (Some c.in-Some.channels.items) items,
    )

pub returns-in-None-clause-ok : goal.returns-in-None-clause-ok
returns-in-None-clause-ok c =
    let read = c.in_ok-channels.ensures.ok in
    let none = sym (ap (option_map (λ v. v.items)) c.in-None.is) ∙ read.2 in (
      read.0,
      read.1,
      array-read (number_between 0 255) colour_from colour_of_list colour-by_channels colour_from-kept read.0 _ none,
    )
