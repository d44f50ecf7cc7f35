use Rattle.std.proofs.Common.{arith}
use Rattle.serde_json.specs.Data.{no_members, put}
use Rattle.fd_json.proofs.Within.{object-begins, object-member, object-ends, object-no_key, object-refused}
use Rattle.fd_capture.proofs.Drafts.{draft-after}
use Rattle.fd_capture.proofs.members.draft_members.Goals as goal

pub members-init : goal.members-init
members-init c = (
  no_members,
  object-begins c.args.scope.depth c.args.reader.now,
  record {
    kind = (cc);
    colour = (cc);
    cull = (cc);
    front_ccw = (cc);
    scissor = (cc);
    rect = (cc);
    enable = (cc);
    rgb = (cc);
    alpha = (cc);
    mask = (cc);
    paint = (cc);
    label = (cc);
    write = (cc);
    func = (cc);
    depth = (cc);
    vertices = (cc);
    indices = (cc);
    picture = (cc);
  },
)

pub returns-in_err-name-clause-refused : goal.returns-in_err-name-clause-refused
returns-in_err-name-clause-refused c refused = object-no_key _ _ _ _ c.members.invariant.1 c.in_err-name.ensures.value

pub returns-in_err-event_member-clause-refused : goal.returns-in_err-event_member-clause-refused
returns-in_err-event_member-clause-refused c refused =
    object-refused _ _ _ c.next_key.new.self _ c.in-Some.name.now c.members.invariant.1 (grind arith) (c.in_err-event_member.ensures.refused (grind arith))

pub members-preserved : goal.members-preserved
members-preserved c =
    let l = c.members in
    let found = l.invariant.0 in
    let k = c.in-Some.name.now in
    let read = c.in_ok-event_member.ensures.ok in (
      put k read.0 found,
      object-member _ _ _ c.next_key.new.self c.event_member.new.reader found k read.0 l.invariant.1 (grind arith) read.1
          c.in_ok-event_member.ensures.shorter,
      draft-after c.args.scope.version found k read.0 l.draft c.event_member.new.draft l.invariant.2 read.2,
    )

pub returns-clause-ok : goal.returns-clause-ok
returns-clause-ok c =
    let l = c.members in (
      l.invariant.0,
      object-ends c.args.scope.depth c.args.reader.now l.reader c.next_key.new.self l.invariant.0 l.invariant.1 (grind arith),
      l.invariant.2,
    )
