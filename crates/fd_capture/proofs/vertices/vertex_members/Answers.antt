use Rattle.std.proofs.Common.{bytes_eq, codes, refl, ◌∙◌, arith}
use Rattle.serde_json.specs.Data.{no_members, put}
use Rattle.fd_json.proofs.Within.{object-begins, object-member, object-ends, object-no_key, object-refused}
use Rattle.fd_json.proofs.Found.{field-after}
use Rattle.fd_capture.specs.Field.{number_between, signed_32, colour_of_data}
use Rattle.fd_capture.proofs.vertices.vertex_members.Goals as goal

pub members-init : goal.members-init
members-init c = (no_members, object-begins c.args.scope.depth c.args.reader.now, (cc), (cc), (cc), (cc))

pub returns-in_err-name-clause-refused : goal.returns-in_err-name-clause-refused
returns-in_err-name-clause-refused c refused = object-no_key _ _ _ _ c.members.invariant.1 c.in_err-name.ensures.value

pub returns-in_err-vertex_member-clause-refused : goal.returns-in_err-vertex_member-clause-refused
returns-in_err-vertex_member-clause-refused c refused =
    object-refused _ _ _ c.next_key.new.self _ c.in-Some.name.now c.members.invariant.1 (grind arith) (c.in_err-vertex_member.ensures.refused (grind arith))

pub members-preserved : goal.members-preserved
members-preserved c =
    let l = c.members in
    let found = l.invariant.0 in
    let k = c.in-Some.name.now in
    let read = c.in_ok-vertex_member.ensures.ok in (
      put k read.0 found,
      object-member _ _ _ c.next_key.new.self c.vertex_member.new.reader found k read.0 l.invariant.1 (grind arith) read.1
          c.in_ok-vertex_member.ensures.shorter,
      read.2 ∙ rw l.invariant.2 (field-after signed_32 (codes "x") k read.0 found (bytes_eq k (codes "x")) refl),
      read.3 ∙ rw l.invariant.3 (field-after signed_32 (codes "y") k read.0 found (bytes_eq k (codes "y")) refl),
      read.4 ∙ rw l.invariant.4 (field-after (number_between 0 65535) (codes "z") k read.0 found (bytes_eq k (codes "z")) refl),
      read.5 ∙ rw l.invariant.5 (field-after colour_of_data (codes "color") k read.0 found (bytes_eq k (codes "color")) refl),
    )

pub returns-clause-ok : goal.returns-clause-ok
returns-clause-ok c =
    let l = c.members in (
      l.invariant.0,
      object-ends c.args.scope.depth c.args.reader.now l.reader c.next_key.new.self l.invariant.0 l.invariant.1
          (grind arith),
      rw (c.vertex_from.ensures, l.invariant.2, l.invariant.3, l.invariant.4, l.invariant.5) refl,
    )
