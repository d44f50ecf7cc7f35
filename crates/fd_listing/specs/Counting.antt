-- Promised. What a call does to the failure counts of its reader and its writer, by how it ends, and whether all that it wrote was passed on.
use Rattle.std.specs.Prelude.{◌≡◌, ℕ, Bool, true, false}
use Rattle.fd_device.specs.Transfer.{CountsFailure}
use Rattle.fd_words.specs.declared.ending.Ending.{Ending}
use Rattle.fd_words.specs.declared.ending.Ending.TheVariants.{Done, Read, Write, TooMuch}

-- Only a write fault changes the writer's count, by one failure.
abbrev pub CountsWriter : Ending → ℕ → ℕ → Type 0
CountsWriter (Write sent) old new = CountsFailure old new false
CountsWriter other old new = new ≡ old

-- Only a read fault changes the reader's count, by one failure.
abbrev pub CountsReader : Ending → ℕ → ℕ → Type 0
CountsReader Read old new = CountsFailure old new false
CountsReader other old new = new ≡ old

-- Where all bytes had been passed on, they are again.
abbrev pub StaysFlushed : Bool → Bool → Type 0
StaysFlushed old new = old ≡ true → new ≡ true

-- A call that wrote something, and whose writer did not fail, ends with all of it passed on.
abbrev pub EndsFlushed : Ending → Bool → Bool → Type 0
EndsFlushed Done old new = StaysFlushed old new
EndsFlushed Read old new = StaysFlushed old new
EndsFlushed TooMuch old new = StaysFlushed old new
EndsFlushed other old new = Unit {0}
