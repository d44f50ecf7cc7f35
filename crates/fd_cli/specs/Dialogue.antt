-- Working. How far a dialogue has come.
use Rattle.std.specs.Prelude.{◌≡◌, ℕ, ◌≤◌, ◌*◌, List, ◌++◌, Result, Ok, Err, Option, true, length, take}
use Rattle.std.specs.Io.KnownBytes.{Appends}
use Rattle.fd_words.specs.Limits.{most_reply_bytes}
use Rattle.fd_events.specs.Table.{Table}
use Rattle.fd_words.specs.declared.ending.Ending.{Ending}
use Rattle.fd_cli.specs.declared.dialogue.Dialogue.{Dialogue}
use Rattle.fd_cli.specs.Serving.{Answered, Stops, Serves}

-- The lines of this input were answered with this text, and the line buffer holds the front of what is no whole line yet.
pub record IsServing (table : Table) (input text : List ℕ) (dialogue : Dialogue) : Type 0 where
  pub lines : List (List ℕ)
  pub rest : List ℕ
  pub answered : Answered table input text lines rest dialogue.session
  pub line : dialogue.line.items ≡ take 258 rest
  pub line_count : dialogue.lines ≡ length lines
  pub byte_count : dialogue.bytes ≡ length input
  pub sent_count : dialogue.sent ≡ length text

-- The count of bytes sent can't overflow within the bounds of input.
abbrev pub CanCount : Dialogue → Type 0
CanCount dialogue = dialogue.sent ≤ most_reply_bytes * dialogue.lines

-- So much of the input was taken and so much was written, and the run is there, or it stops among these bytes, whatever is taken behind them.
abbrev pub AfterBytes : Table → List ℕ → List ℕ → Dialogue → Result (Unit {0}) Ending → Type 0
AfterBytes table input text new (Ok done) = IsServing table input text new
AfterBytes table input text new (Err ending) = (more : List ℕ) → Stops table (input ++ more) text ending

-- From old, these bytes of input lead to new.
pub record Advances (old new : Dialogue) (held_old held_new : Option (List ℕ)) (bytes : List ℕ) (result : Result (Unit {0}) Ending) : Type 0 where
  pub written : List ℕ
  pub appended : Appends held_old held_new written
  pub after : (table : Table) (input text : List ℕ) → IsServing table input text old → AfterBytes table (input ++ bytes) (text ++ written) new result

-- From old, the end of the input leads to this ending.
pub record Finishes (old : Dialogue) (held_old held_new : Option (List ℕ)) (ending : Ending) : Type 0 where
  pub written : List ℕ
  pub appended : Appends held_old held_new written
  pub after : (table : Table) (input text : List ℕ) → IsServing table input text old → Serves table input (text ++ written) ending true
