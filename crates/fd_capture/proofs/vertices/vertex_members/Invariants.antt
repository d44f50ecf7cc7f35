use Rattle.std.proofs.Common.{◌≡◌, length, codes, option_and_then}
use Rattle.serde_json.specs.Data.{Members}
use Rattle.serde_json.specs.Find.{get_member}
use Rattle.fd_json.proofs.Within.{InObject}
use Rattle.fd_capture.specs.Field.{number_between, signed_32, colour_of_data}
use Rattle.fd_capture.proofs.vertices.vertex_members.Given as goal

abbrev pub invariant-members : goal.invariant-members
invariant-members l =
    (found : Members) × InObject l.scope.depth l.initial.reader found l.reader
    × (l.parts.x ≡ option_and_then signed_32 (get_member (codes "x") found)) × (l.parts.y ≡ option_and_then signed_32 (get_member (codes "y") found))
    × (l.parts.z ≡ option_and_then (number_between 0 65535) (get_member (codes "z") found))
    × (l.parts.colour ≡ option_and_then colour_of_data (get_member (codes "color") found))

abbrev pub decreases-members : goal.decreases-members
decreases-members l = length l.reader
