use Rattle.std.proofs.Common.{◌≡◌, Ok, sym, ◌∙◌, rules}
use Rattle.serde_json.specs.View.{view}
use Rattle.fd_capture.specs.Field.{number_member}
use Rattle.fd_capture.specs.declared.fault.CaptureFault.TheVariants.{NotCapture, Version}
use Rattle.fd_capture.proofs.Tables.{are_of, some_from_ok_or}
use Rattle.fd_capture.proofs.table.table_from.Goals as goal

pub start-requires : goal.start-requires
start-requires c =
    let listed = some_from_ok_or c.listed.result NotCapture c.in_ok-events.events c.in_ok-events.ensures.value in
    let version = some_from_ok_or c.version.result Version c.in_ok-version.version c.in_ok-version.ensures.value in
    let is : c.in_ok-events.events ≡ Ok c.in_ok-events-2.events = search rules in
    let are = are_of (view c.args.capture.now) c.args.events c.in_ok-events.events (number_member "version" 1 3 (view c.args.capture.now))
    c.in_ok-version.version c.in_ok-events-2.events c.requires (sym c.listed.ensures ∙ listed)
    (sym c.version.ensures.value ∙ version) is in
    are.0

pub returns-in_err-start : goal.returns-in_err-start
returns-in_err-start c =
    let listed = some_from_ok_or c.listed.result NotCapture c.in_ok-events.events c.in_ok-events.ensures.value in
    let version = some_from_ok_or c.version.result Version c.in_ok-version.version c.in_ok-version.ensures.value in
    let is : c.in_ok-events.events ≡ Ok c.in_ok-events-2.events = search rules in
    let are = are_of (view c.args.capture.now) c.args.events c.in_ok-events.events (number_member "version" 1 3 (view c.args.capture.now))
    c.in_ok-version.version c.in_ok-events-2.events c.requires (sym c.listed.ensures ∙ listed)
    (sym c.version.ensures.value ∙ version) is in
    search (rules)
