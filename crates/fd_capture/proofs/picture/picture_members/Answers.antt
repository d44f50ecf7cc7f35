use Rattle.std.proofs.Common.{◌≡◌, List, Option, Some, Result, Ok, Err, bytes_eq, codes, refl, ◌∙◌, arith}
use Rattle.std.specs.Prelude.{IfOk}
use Rattle.json.specs.Token.{Token}
use Rattle.serde_json.specs.Data.{Members, object, no_members, put}
use Rattle.fd_json.proofs.Within.{object-begins, object-member, object-ends, object-no_key, object-refused}
use Rattle.fd_json.proofs.Found.{field-after}
use Rattle.fd_events.specs.Picture.{Painting}
use Rattle.fd_capture.specs.Field.{unsigned_32}
use Rattle.fd_capture.specs.Picture.{bytes_of_data, picture_of_data}
use Rattle.fd_capture.proofs.Drafts.{made-after}
use Rattle.fd_capture.proofs.Kept.{picture-found}
use Rattle.fd_capture.proofs.picture.picture_members.Goals as goal

pub members-init : goal.members-init
members-init c = (no_members, object-begins c.args.scope.depth c.args.reader.now, (cc), (cc), (cc), (cc), (cc), (cc))

pub returns-in_err-name-clause-refused : goal.returns-in_err-name-clause-refused
returns-in_err-name-clause-refused c refused = object-no_key _ _ _ _ c.members.invariant.1 c.in_err-name.ensures.value

pub returns-in_err-picture_member-clause-refused : goal.returns-in_err-picture_member-clause-refused
returns-in_err-picture_member-clause-refused c refused =
    object-refused _ _ _ c.next_key.new.self _ c.in-Some.name.now c.members.invariant.1 (grind arith) (c.in_err-picture_member.ensures.refused (grind arith))

pub members-preserved : goal.members-preserved
members-preserved c =
    let l = c.members in
    let found = l.invariant.0 in
    let k = c.in-Some.name.now in
    let read = c.in_ok-picture_member.ensures.ok in (
      put k read.0 found,
      object-member _ _ _ c.next_key.new.self c.picture_member.new.reader found k read.0 l.invariant.1 (grind arith) read.1
          c.in_ok-picture_member.ensures.shorter,
      read.2 ∙ rw l.invariant.2 (field-after unsigned_32 (codes "left") k read.0 found (bytes_eq k (codes "left")) refl),
      read.3 ∙ rw l.invariant.3 (field-after unsigned_32 (codes "top") k read.0 found (bytes_eq k (codes "top")) refl),
      read.4 ∙ rw l.invariant.4 (field-after unsigned_32 (codes "width") k read.0 found (bytes_eq k (codes "width")) refl),
      read.5 ∙ rw l.invariant.5 (field-after unsigned_32 (codes "height") k read.0 found (bytes_eq k (codes "height")) refl),
      read.6 ∙ rw l.invariant.6 (field-after bytes_of_data (codes "texels") k read.0 found (bytes_eq k (codes "texels")) refl),
      read.7 ∙ rw l.invariant.7 (made-after bytes_of_data (codes "holes") k read.0 found (bytes_eq k (codes "holes")) refl),
    )

-- what a pointer was made of, of the members that were found
of_found : {X E : Type 0} (r : Result X E) (seen : X → Option Painting) (read : Option Painting) (taken : Option (Members × List Token)) (rest : List Token)
    (found : Members) → taken ≡ Some (found, rest)
    → read ≡ picture_of_data (object found) → IfOk r (λ x. seen x ≡ read)
    → IfOk r (λ x. (ms : Members) × (taken ≡ Some (ms, rest)) × (seen x ≡ picture_of_data (object ms)))
of_found (Ok x) seen read taken rest found is same given = (found, is, given ∙ same)
of_found (Err e) seen read taken rest found is same given = tt

pub returns-clause-ok : goal.returns-clause-ok
returns-clause-ok c =
    let l = c.members in
    let found = l.invariant.0 in
    let same : c.picture_from.result ≡ picture_of_data (object found) =
    c.picture_from.ensures
    ∙ rw (l.invariant.2, l.invariant.3, l.invariant.4, l.invariant.5, l.invariant.6, l.invariant.7) (picture-found found) in
    of_found c.boxed.result _ c.picture_from.result _ _ found
    (object-ends c.args.scope.depth c.args.reader.now l.reader c.next_key.new.self found l.invariant.1 (grind arith)) same c.boxed.ensures.ok
