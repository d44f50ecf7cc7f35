use Rattle.std.proofs.Common.{◌≡◌, Bool, All}
use Rattle.fd_session.specs.Held.{Stands, places_of, first_places}
use Rattle.fd_session.proofs.frame.owners_of.Given as goal

-- an owner stands for each of the first tiles
abbrev pub invariant-loop-number : goal.invariant-loop-number
invariant-loop-number l = record {
  places : places_of l.owners.items ≡ first_places l.grid l.number;
  stand : (forgets : Bool) → All (Stands forgets l.table 0) l.owners.items;
}
