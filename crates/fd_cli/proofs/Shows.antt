-- How long the reply to `show` is, part by part.
use Rattle.std.proofs.Common.{◌≡◌, ℕ, ◌+◌, ◌≤◌, length, arith, length-append, codes}
use Rattle.std.proofs.lemmas.Fmt.{length-decimal-le}
use Rattle.fd_words.specs.Limits.{most_reply_bytes}
use Rattle.fd_snap.specs.Limits.{most_pixels}
use Rattle.fd_pam.specs.Pam.{header, tuples, pam, pam_len}
use Rattle.fd_pam.proofs.Pams.{body_short, length-body, length-header}
use Rattle.fd_frame.specs.State.{State}
use Rattle.fd_cli.specs.Show.{show_text}
use Rattle.fd_words.specs.Text.{number_line}

header_short : (width height : ℕ) → width ≤ most_pixels → height ≤ most_pixels → length (header width height) ≤ 200
header_short width height w h =
    let wide = length-decimal-le 20 width (omega arith) (omega arith) (omega arith) in
    omega (arith, length-header width height, wide, length-decimal-le 20 height (omega arith) (omega arith) (omega arith))

-- the whole file's length
pub length-pam : (state : State) → length (pam state) ≡ pam_len state.table.width state.table.height
length-pam state = omega (arith, length-append (header state.table.width state.table.height) (tuples state), length-body state)

-- the parts of the reply
pub length-show : (state : State) → length (show_text state)
    ≡ length (number_line (codes "pam") (pam_len state.table.width state.table.height)) + length (header state.table.width state.table.height)
    + length (tuples state)
length-show state =
    let first = length-append (number_line (codes "pam") (pam_len state.table.width state.table.height)) (pam state) in
    omega (arith, first, length-append (header state.table.width state.table.height) (tuples state))

pub show_short : (state : State) → state.table.width ≤ most_pixels → state.table.height ≤ most_pixels
    → length (number_line (codes "pam") (pam_len state.table.width state.table.height)) ≤ 64 → length (show_text state) ≤ most_reply_bytes
show_short state width height line =
    omega (arith, length-show state, header_short state.table.width state.table.height width height, body_short state width height)
