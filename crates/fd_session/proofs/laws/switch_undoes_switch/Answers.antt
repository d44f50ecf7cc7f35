use Rattle.std.proofs.Common.{◌≡◌, ◌∙◌, ap, ℕ, not}
use Rattle.fd_events.specs.Table.{Table}
use Rattle.fd_frame.specs.State.{State, with_flag_at}
use Rattle.fd_session.proofs.Switching.{flag_back}
use Rattle.fd_session.proofs.laws.switch_undoes_switch.Goals as goal

pub returns : goal.returns
returns c = λ old mid new number at to on over back.
    let stood : mid.position ≡ at = ap (λ (s : State). s.position) over.2 in
    let position : to ≡ old.position = back.1 ∙ stood ∙ over.1 in
    back.2
    ∙ ap (λ (s : State). with_flag_at s number (not on) to) over.2
    ∙ ap (λ (t : Table). record { table = t; position = to }) (flag_back old.table number on (not on) over.0)
    ∙ ap (λ (k : ℕ). record { table = old.table; position = k }) position
