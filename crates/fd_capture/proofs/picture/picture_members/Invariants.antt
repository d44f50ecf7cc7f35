use Rattle.std.proofs.Common.{◌≡◌, length, codes, option_map, option_and_then}
use Rattle.serde_json.specs.Data.{Members}
use Rattle.serde_json.specs.Find.{get_member}
use Rattle.fd_json.proofs.Within.{InObject}
use Rattle.fd_capture.specs.Field.{unsigned_32}
use Rattle.fd_capture.specs.Picture.{bytes_of_data}
use Rattle.fd_capture.proofs.picture.picture_members.Given as goal

abbrev pub invariant-members : goal.invariant-members
invariant-members l =
    (found : Members) × InObject l.scope.depth l.initial.reader found l.reader
    × (l.members.left ≡ option_and_then unsigned_32 (get_member (codes "left") found))
    × (l.members.top ≡ option_and_then unsigned_32 (get_member (codes "top") found))
    × (l.members.width ≡ option_and_then unsigned_32 (get_member (codes "width") found))
    × (l.members.height ≡ option_and_then unsigned_32 (get_member (codes "height") found))
    × (option_map (λ v. v.items) l.members.texels ≡ option_and_then bytes_of_data (get_member (codes "texels") found))
    × (option_map (option_map (λ v. v.items)) l.members.holes ≡ option_map bytes_of_data (get_member (codes "holes") found))

abbrev pub decreases-members : goal.decreases-members
decreases-members l = length l.reader
