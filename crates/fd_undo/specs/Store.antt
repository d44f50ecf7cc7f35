-- Working. What a contract sees of where frames are stored.
use Rattle.std.specs.Prelude.{◌++◌, []}
use Rattle.fd_undo.specs.Stack.{Stored, no_store, HaveFrames}
use Rattle.fd_undo.specs.Alike.{shared_block, based}
use Rattle.fd_undo.specs.declared.store.Kept.{Kept}
use Rattle.fd_undo.specs.declared.store.Kept.TheVariants.{Nothing, Shared, Own}

-- shared frames are the oldest block; where there is no other one they are the last, which has no room
abbrev pub stored_of : Kept → Stored
stored_of Nothing = no_store
stored_of (Shared base) = record { full = []; last = shared_block base }
stored_of (Own body) = record { full = based body.value.base ++ body.value.full.items; last = body.value.last }

-- each of the full blocks has a frame
abbrev pub HoldFrames : Kept → Type 0
HoldFrames Nothing = Unit {0}
HoldFrames (Shared base) = Unit {0}
HoldFrames (Own body) = HaveFrames body.value.full.items
