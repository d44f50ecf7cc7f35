-- Working. Which worker owns which lanes.
use Rattle.std.specs.Prelude.{ℕ, ◌+◌, ◌-◌, ◌*◌, ◌/◌, ◌<◌, ◌≤◌, min, List, take, drop, slice_get}
use Rattle.std.specs.Option.{option_map_or}
use Rattle.fd_crew.specs.declared.team.Team.{Team}

-- one or more neighbouring workers of a crew, which has at most 64
pub record IsTeam (team : Team) : Type 0 where
  pub some : 0 < team.workers
  pub within : team.first_worker + team.workers ≤ 64

-- of the lanes of two neighbouring teams, those of the lower one, and those of the upper one
abbrev pub lower_lanes : {L : Type 0} → Team → Team → List L → List L
lower_lanes lower upper lanes = take (upper.first_lane - lower.first_lane) lanes

abbrev pub upper_lanes : {L : Type 0} → Team → Team → List L → List L
upper_lanes lower upper lanes = drop (upper.first_lane - lower.first_lane) lanes

-- how many of a team's lanes its lower half of workers owns: those before the lane at which the first of the others is to begin, or as many as even
-- shares give it
abbrev pub owned_below : Team → ℕ → ℕ
owned_below team lanes = option_map_or (λ first. min (first - team.first_lane) lanes) (slice_get team.firsts.now (team.first_worker + team.workers / 2))
    (team.workers / 2 * lanes / team.workers)
