use Rattle.std.proofs.Common.{length, codes, option_and_then}
use Rattle.serde_json.specs.Data.{Members}
use Rattle.serde_json.specs.Find.{get_member}
use Rattle.serde_json.specs.View.{members_view}
use Rattle.fd_json.proofs.Within.{InObject}
use Rattle.fd_capture.specs.Field.{array_of}
use Rattle.fd_capture.specs.Streamed.{Clips}
use Rattle.fd_capture.specs.Listed.{GivesListed}
use Rattle.fd_capture.proofs.head.head_members.Given as goal

abbrev pub invariant-members : goal.invariant-members
invariant-members l =
    (found : Members) × InObject l.scope.depth l.initial.reader found l.reader × Clips (members_view l.members.entries) found
    × GivesListed l.scope.version l.listed (option_and_then array_of (get_member (codes "events") found))

abbrev pub decreases-members : goal.decreases-members
decreases-members l = length l.reader
