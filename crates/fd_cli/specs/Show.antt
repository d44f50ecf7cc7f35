-- Promised. The reply to `show`.
use Rattle.std.specs.Prelude.{ℕ, List, ◌++◌, codes}
use Rattle.fd_pam.specs.Pam.{pam, pam_len}
use Rattle.fd_frame.specs.State.{State}
use Rattle.fd_words.specs.Text.{number_line}

-- the image file's length on a line, and then the file
abbrev pub show_text : State → List ℕ
show_text state = number_line (codes "pam") (pam_len state.table.width state.table.height) ++ pam state
