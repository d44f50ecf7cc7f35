-- Working. What only one call of a reader or of a writer gives: that it went from old to new by a call that moved so many bytes, or failed; and what only one
-- fill of a source beside a sink gives. It is shut, and this file is closed to other crates, so that nobody there can make one.
use Rattle.std.specs.Prelude.{ℕ, List, Option}

pub ReadOnce : {T : Type 0} → T → T → Option ℕ → Type 0
ReadOnce old new count = Unit {0}

pub read_once : {T : Type 0} (old new : T) (count : Option ℕ) → ReadOnce old new count
unfolding ReadOnce
read_once old new count = tt

pub WrittenOnce : {T : Type 0} → T → T → List ℕ → Option ℕ → Type 0
WrittenOnce old new bytes count = Unit {0}

pub written_once : {T : Type 0} (old new : T) (bytes : List ℕ) (count : Option ℕ) → WrittenOnce old new bytes count
unfolding WrittenOnce
written_once old new bytes count = tt

pub FilledBeside : {R W : Type 0} → R → R → W → List ℕ → Type 0
FilledBeside old new sink bytes = Unit {0}

pub filled_beside : {R W : Type 0} (old new : R) (sink : W) (bytes : List ℕ) → FilledBeside old new sink bytes
unfolding FilledBeside
filled_beside old new sink bytes = tt
