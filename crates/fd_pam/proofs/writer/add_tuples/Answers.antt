use Rattle.std.proofs.Common.{◌+◌, ◌≤◌, length, rules}
use Rattle.fd_pam.specs.declared.writer.TheConstants.{CHUNK_LEN}
use Rattle.fd_pam.proofs.Pams.{room_for_tuple}
use Rattle.fd_pam.proofs.writer.add_tuples.Goals as goal

pub unwrap-requires : goal.unwrap-requires
unwrap-requires c =
    let room : length c.loop-colour.chunk.items + 4 ≤ CHUNK_LEN =
    room_for_tuple c.args.chunk.now.items c.loop-colour.chunk.items c.args.colours.now c.loop-colour.colour-index c.loop-colour-test.true c.requires
    c.loop-colour.invariant in
    search (rules, room)
