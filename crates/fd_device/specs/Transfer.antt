-- Promised. What moves between the program and its reader and writer.
use Rattle.std.specs.Prelude.{◌≡◌, min, ℕ, ◌+◌, ◌-◌, ◌^◌, ◌<◌, ◌≤◌, List, [], ◌++◌, Option, Result, Ok, Err, Bool, true, false, length, take, ◌||◌, ◌&&◌}
use Rattle.std.specs.Prelude.{◌==◌, nat_lt}
use Rattle.std.specs.Io.KnownBytes.{Consumes, Appends, Keeps, IsAtEnd}

-- Only a failure changes the count, and it raises it.
abbrev pub CountsFailure : ℕ → ℕ → Bool → Type 0
CountsFailure old new true = new ≡ old
CountsFailure old new false = new ≡ min (old + 1) (2 ^ 64 - 1)

-- Bytes that a put takes are not passed on before the next flush that succeeds, as far as anybody can say.
abbrev pub PutsOff : {E : Type 0} → Bool → Bool → Result ℕ E → Type 0
PutsOff old new (Ok n) = new ≡ (old && n == 0)
PutsOff old new (Err e) = new ≡ old

-- A flush that succeeds passes on what was put before.
abbrev pub PassesOn : Bool → Bool → Bool → Type 0
PassesOn old new true = new ≡ true
PassesOn old new false = new ≡ old

-- A fill gives a front of the bytes still to come, and none where it fails. The end is a fill that had room and gave none.
abbrev pub Fills : {E : Type 0} → Option (List ℕ) → Option (List ℕ) → Bool → Bool → List ℕ → Result ℕ E → Type 0
Fills old new ended_old ended_new buffer (Ok n) =
    (n ≤ length buffer) × Consumes old new (take n buffer) × (ended_new ≡ (ended_old || (n == 0 && nat_lt 0 (length buffer))))
    × (n ≡ 0 → 0 < length buffer → IsAtEnd new)
Fills old new ended_old ended_new buffer (Err e) = Keeps old new × (ended_new ≡ ended_old)

-- A put appends a front of the bytes that is not empty where they are not, and nothing where it fails.
abbrev pub Takes : {E : Type 0} → Option (List ℕ) → Option (List ℕ) → List ℕ → Result ℕ E → Type 0
Takes old new bytes (Ok n) = (n ≤ length bytes) × (0 < length bytes → 0 < n) × Appends old new (take n bytes)
Takes old new bytes (Err e) = Keeps old new

-- The sink took a front of the text, all of it where the call succeeded, and the count of bytes sent grew by its length.
pub record Puts (old new : Option (List ℕ)) (sent_old sent_new : ℕ) (text : List ℕ) (ok : Bool) : Type 0 where
  pub taken : List ℕ
  pub left : List ℕ
  pub whole : text ≡ taken ++ left
  pub appended : Appends old new taken
  pub counted : sent_new ≡ sent_old + length taken
  pub all : ok ≡ true → left ≡ []
