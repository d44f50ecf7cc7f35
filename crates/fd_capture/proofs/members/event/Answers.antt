use Rattle.std.proofs.Common.{◌≡◌, ap, ◌∙◌, rules}
use Rattle.json.specs.Json.{parse_map}
use Rattle.serde_json.specs.Data.{object}
use Rattle.fd_json.specs.Taken.{taken, members_taken}
use Rattle.fd_capture.proofs.Kept.{event-found}
use Rattle.fd_capture.proofs.members.event.Goals as goal

pub returns-clause-ok : goal.returns-clause-ok
returns-clause-ok c =
    let opened : taken c.args.scope.depth c.args.reader.now ≡ parse_map object (members_taken c.inner.result.depth c.open_object.new.reader) =
    rw c.inner.ensures.depth (search rules) in
    let read = c.in_ok-draft.ensures.ok in (
      object read.0,
      opened ∙ ap (parse_map object) read.1,
      c.event_from.ensures ∙ event-found c.args.scope.version read.0 c.in_ok-draft.draft (rw c.inner.ensures.version at read.2),
    )
