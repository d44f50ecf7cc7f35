use Rattle.std.proofs.Common.{◌≡◌, ap, ◌∙◌, rules}
use Rattle.json.specs.Json.{parse_map}
use Rattle.serde_json.specs.Data.{array}
use Rattle.fd_json.specs.Taken.{taken, items_taken}
use Rattle.fd_capture.proofs.short_array.first.Goals as goal

pub returns-clause-ok : goal.returns-clause-ok
returns-clause-ok g c =
    let opened : taken c.args.scope.depth c.args.reader.now ≡ parse_map array (items_taken c.inner.result.depth c.open_array.new.reader) =
    rw c.inner.ensures.depth (search rules) in
    let read = c.in_ok-values.ensures.ok in
    (array read.0, opened ∙ ap (parse_map array) read.1, read.2)
