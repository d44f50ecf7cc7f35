use Rattle.std.proofs.Common.{◌≡◌, ℕ, ◌*◌, ◌/◌, ◌<◌, length, get_or}
use Rattle.fd_crew.proofs.team.even_firsts.Given as goal

abbrev pub invariant-loop-worker : goal.invariant-loop-worker
invariant-loop-worker l = (length l.firsts ≡ 64) × ((worker : ℕ) → worker < l.worker → get_or l.firsts worker 0 ≡ worker * l.lanes / l.workers)
