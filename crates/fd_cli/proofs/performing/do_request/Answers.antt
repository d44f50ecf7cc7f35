use Rattle.std.proofs.Common.{◌≡◌, ◌∙◌, ℕ, List, [], Result, Ok, Err, refl, sym, subst}
use Rattle.std.proofs.KnownBytes.{Consumes-nil, Appends-nil}
use Rattle.fd_events.specs.Table.{Table}
use Rattle.fd_words.specs.declared.ending.Ending.{Ending}
use Rattle.fd_listing.specs.Opening.{Opens}
use Rattle.fd_cli.proofs.Opened.{serves_of, images_of, lists_of, does_unread, counts_unread}
use Rattle.fd_cli.proofs.Outputs.{serve_writes_output}
use Rattle.fd_cli.proofs.performing.do_request.Goals as goal

pub returns-in-Run-clause-does : goal.returns-in-Run-clause-does
returns-in-Run-clause-does g c =
    let s = c.serve_table.ensures.serves in (
      s.0,
      s.1,
      s.2,
      s.3,
      λ capture opens.
          let ended = g.R.Source.has_ended c.serve_table.new.source in
          let served = serves_of capture c.in-Ok.table (rw c.in-Ok.is at opens.0) s.0 s.1 c.serve_table.result ended s.5 in
          rw c.in-Run.is (s.4, serve_writes_output capture s.0 s.1 c.serve_table.result ended served, served),
    )

pub returns-in-Image-clause-does : goal.returns-in-Image-clause-does
returns-in-Image-clause-does g c =
    let w = c.write_table.ensures.writes in (
      [],
      w.0,
      Consumes-nil (g.R.Source.remaining c.args.devices.now.source),
      w.1,
      λ capture opens.
          rw c.in-Image.is (refl, images_of capture c.in-Ok.table (rw c.in-Ok.is at opens.0) c.in-Image.at w.0 c.write_table.result w.2),
    )

pub returns-in-Events-clause-does : goal.returns-in-Events-clause-does
returns-in-Events-clause-does g c =
    let w = c.list_table.ensures.writes in (
      [],
      w.0,
      Consumes-nil (g.R.Source.remaining c.args.devices.now.source),
      w.1,
      λ capture opens.
          rw c.in-Events.is (refl, lists_of capture c.in-Ok.table (rw c.in-Ok.is at opens.0) w.0 c.list_table.result w.2),
    )

pub returns-in-Err-clause-does : goal.returns-in-Err-clause-does
returns-in-Err-clause-does g c = (
  [],
  [],
  Consumes-nil (g.R.Source.remaining c.args.devices.now.source),
  Appends-nil (g.W.Sink.contents c.args.devices.now.sink),
  λ capture opens.
      does_unread c.args.request capture c.in-Err.ending _ (rw c.in-Err.is at opens.0),
)

pub returns-in-Err-clause-read : goal.returns-in-Err-clause-read
returns-in-Err-clause-read g c = (counts_unread c.requires.opened.0 c.in-Err.ending _ (rw c.in-Err.is at c.requires.opened.1.0)).0

pub returns-in-Err-clause-write : goal.returns-in-Err-clause-write
returns-in-Err-clause-write g c = (counts_unread c.requires.opened.0 c.in-Err.ending _ (rw c.in-Err.is at c.requires.opened.1.0)).1
