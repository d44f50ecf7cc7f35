use Rattle.std.proofs.Common.{length}
use Rattle.serde_json.specs.Data.{Members}
use Rattle.fd_json.proofs.Within.{InObject}
use Rattle.fd_capture.specs.Drafted.{IsDraft}
use Rattle.fd_capture.proofs.members.draft_members.Given as goal

abbrev pub invariant-members : goal.invariant-members
invariant-members l = (found : Members) × InObject l.scope.depth l.initial.reader found l.reader × IsDraft l.scope.version found l.draft

abbrev pub decreases-members : goal.decreases-members
decreases-members l = length l.reader
