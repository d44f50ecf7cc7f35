use Rattle.std.proofs.Common.{◌≡◌, true, false, bytes_eq, codes, ap, subst, arith, rules}
use Rattle.serde_json.specs.Data.{no_members, put}
use Rattle.serde_json.specs.Find.{get_member}
use Rattle.serde_json.specs.View.{members_view}
use Rattle.fd_json.proofs.Within.{object-begins, object-member, object-ends, object-no_key, object-refused}
use Rattle.fd_json.proofs.Found.{same_name, field-after}
use Rattle.fd_capture.specs.Field.{array_of}
use Rattle.fd_capture.specs.Streamed.{is_small}
use Rattle.fd_capture.specs.Listed.{GivesListed}
use Rattle.fd_capture.proofs.Drafts.{clips-other, clips-after}
use Rattle.serde_json.proofs.Views.{view-Object}
use Rattle.fd_capture.proofs.head.head_members.Goals as goal

pub members-init : goal.members-init
members-init c =
    let empty = ap members_view c.new-members.ensures.empty in
    (no_members, object-begins c.args.scope.depth c.args.reader.now, λ name small. ap (get_member name) empty, tt)

pub returns-in_err-name-clause-refused : goal.returns-in_err-name-clause-refused
returns-in_err-name-clause-refused c refused = object-no_key _ _ _ _ c.members.invariant.1 c.in_err-name.ensures.value

pub returns-in_err-listed-clause-refused : goal.returns-in_err-listed-clause-refused
returns-in_err-listed-clause-refused c refused = object-refused _ _ _ c.next_key.new.self _ c.in-Some.name.now c.members.invariant.1 (grind arith)
    (c.in_err-listed.ensures.refused (grind arith))

pub members-preserved-then-eq : goal.members-preserved-then-eq
members-preserved-then-eq c =
    let l = c.members in
    let found = l.invariant.0 in
    let k = c.in-Some.name.now in
    let read = c.in_ok-listed.ensures.ok in
    let is : bytes_eq k (codes "events") ≡ true = search rules in
    let name = same_name k (codes "events") is in (
      put k read.0 found,
      object-member _ _ _ c.next_key.new.self c.events.new.reader found k read.0 l.invariant.1 (grind arith) read.1 c.in_ok-listed.ensures.shorter,
      clips-other (members_view l.members.entries) found k read.0 (ap is_small name) l.invariant.2,
      subst (GivesListed c.args.scope.version c.in_ok-listed.listed) (field-after array_of (codes "events") k read.0 found true is) read.2,
    )

pub members-preserved : goal.members-preserved
members-preserved c =
    let l = c.members in
    let found = l.invariant.0 in
    let k = c.in-Some.name.now in
    let read = c.in_ok-small_member.ensures.ok in
    let no_events : bytes_eq k (codes "events") ≡ false = search rules in (
      put k read.0 found,
      object-member _ _ _ c.next_key.new.self c.small_member.new.reader found k read.0 l.invariant.1 (grind arith) read.1
          c.in_ok-small_member.ensures.shorter,
      rw read.2 (clips-after (members_view l.members.entries) found k read.0 l.invariant.2),
      subst (GivesListed c.args.scope.version l.listed) (field-after array_of (codes "events") k read.0 found false no_events) l.invariant.3,
    )

pub returns-in_err-small_member-clause-refused : goal.returns-in_err-small_member-clause-refused
returns-in_err-small_member-clause-refused c refused =
    object-refused _ _ _ c.next_key.new.self _ c.in-Some.name.now c.members.invariant.1 (grind arith) (c.in_err-small_member.ensures.refused (grind arith))

pub returns-clause-ok : goal.returns-clause-ok
returns-clause-ok c =
    let l = c.members in (
      l.invariant.0,
      object-ends c.args.scope.depth c.args.reader.now l.reader c.next_key.new.self l.invariant.0 l.invariant.1 (grind arith),
      (members_view l.members.entries, view-Object l.members, l.invariant.2, l.invariant.3),
    )
