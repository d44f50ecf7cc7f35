use Rattle.std.proofs.Common.{◌≡◌, true, string_bytes, refl, ap, ◌∙◌, rules}
use Rattle.serde_json.specs.View.{members_view}
use Rattle.serde_json.proofs.Views.{members_view-insert_entry}
use Rattle.fd_capture.specs.Streamed.{is_small}
use Rattle.fd_capture.proofs.head.small_member.Goals as goal

pub returns-clause-ok : goal.returns-clause-ok
returns-clause-ok c =
    let read = c.in_ok-value.ensures.ok in
    let copied : string_bytes c.in_ok-key.key ≡ c.args.name.now = search rules in
    let small : is_small c.args.name.now ≡ true = search rules in (
      read.0,
      read.1,
      rw small (ap members_view c.in_ok-insert.ensures.entries ∙ members_view-insert_entry c.args.members.now.entries c.in_ok-key.key c.in_ok-value.value
          ∙ rw (copied, read.2) refl),
    )
