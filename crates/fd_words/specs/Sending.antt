-- Working. What was sent of a text, and what waits to be sent.
use Rattle.std.specs.Prelude.{◌≡◌, ℕ, ◌+◌, List, ◌++◌, Option, Result, Ok, Err, false, length}
use Rattle.std.specs.Io.KnownBytes.{Appends}
use Rattle.fd_device.specs.Transfer.{Puts}

-- The sink took a front of the text, the rest waits, and the count of bytes sent grew by the front's length.
pub record Waits (old new : Option (List ℕ)) (sent_old sent_new : ℕ) (text waiting : List ℕ) : Type 0 where
  pub gone : List ℕ
  pub whole : text ≡ gone ++ waiting
  pub appended : Appends old new gone
  pub counted : sent_new ≡ sent_old + length gone

-- The text was sent but for what waits, or the sink failed within it.
abbrev pub Gathers : {E : Type 0} → Option (List ℕ) → Option (List ℕ) → ℕ → ℕ → List ℕ → List ℕ → Result (Unit {0}) E → Type 0
Gathers old new sent_old sent_new text waiting (Ok done) = Waits old new sent_old sent_new text waiting
Gathers old new sent_old sent_new text waiting (Err e) = Puts old new sent_old sent_new text false
