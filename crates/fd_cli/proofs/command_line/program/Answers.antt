use Rattle.std.proofs.Common.{⊎_elim, inl, inr}
use Rattle.clap.specs.Words.{kind_of}
use Rattle.fd_cli.proofs.command_line.program.Goals as goal

pub returns-in-Err : goal.returns-in-Err
returns-in-Err g c =
    ⊎_elim (λ (why, ends). inl (⊎_elim (λ wanted. wanted) (λ kind. c.in-Err.ensures.wanted kind) why, ends))
    (λ (other, explains). let among = ⊎_elim (λ kind. absurd (other kind)) (λ fault. fault) c.in-Err.ensures.fails in
    inr (inl (kind_of c.in-Err.error, among, explains)))
    c.explain.ensures
