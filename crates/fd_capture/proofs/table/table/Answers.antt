use Rattle.std.proofs.Common.{◌≡◌, ap, ◌∙◌, subst}
use Rattle.serde_json.specs.Data.{Data, object}
use Rattle.serde_json.specs.View.{view}
use Rattle.fd_capture.specs.Fault.{Gives}
use Rattle.fd_capture.specs.Field.{number_member}
use Rattle.fd_capture.specs.Head.{table_from, IsReadIn}
use Rattle.fd_capture.proofs.Tables.{table-read, version-kept}
use Rattle.fd_capture.proofs.table.table.Goals as goal

pub returns : goal.returns
returns c found has =
    let kept = has.0 in
    let same : number_member "version" 1 3 (view c.args.head.members) ≡ number_member "version" 1 3 (object found) =
    ap (λ (d : Data). number_member "version" 1 3 d) has.1 ∙ version-kept kept found has.2 in
    let version : IsReadIn c.args.version (number_member "version" 1 3 (object found)) = subst (IsReadIn c.args.version) same c.requires.version in
    let given : Gives (λ table. table) c.table_from.result (table_from (object kept) c.args.head.events) =
    subst (λ d. Gives (λ table. table) c.table_from.result (table_from d c.args.head.events)) has.1 c.table_from.ensures in
    table-read c.args.version c.table_from.result kept found c.args.head.events has.2 has.3 version given
