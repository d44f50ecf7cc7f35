-- Promised. What a run of the program takes and writes, by how it ends.
use Rattle.std.specs.Prelude.{◌≡◌, ◌≢◌, ℕ, ◌<◌, ◌≤◌, List, [], ◌∷◌, ◌++◌, Result, Ok, Bool, true, codes, length, Option, ◌⊎◌}
use Rattle.std.specs.List.{AllByRecursion}
use Rattle.fd_words.specs.Limits.{most_reply_bytes}
use Rattle.fd_events.specs.Table.{Table}
use Rattle.fd_frame.specs.State.{State, opening}
use Rattle.fd_memory.specs.Wanting.{Wanted}
use Rattle.fd_words.specs.declared.command.Command.{Command}
use Rattle.fd_words.specs.declared.command.Command.TheVariants.{Quit}
use Rattle.fd_words.specs.declared.command.CommandFault.{CommandFault}
use Rattle.fd_words.specs.declared.ending.Ending.{Ending}
use Rattle.fd_words.specs.declared.ending.Ending.TheVariants.{Done, Read, Write, TooMuch, Memory}
use Rattle.fd_words.specs.Line.{Cuts, command_of}
use Rattle.fd_cli.specs.Run.{Answers, Run}
use Rattle.fd_device.specs.Transfer.{Puts}
use Rattle.fd_listing.specs.Opening.{OfCapture}

-- The input was cut into these lines and this rest, no bound was passed, and the lines, none of them a quit, were answered with this text.
pub record Answered (table : Table) (input text : List ℕ) (lines : List (List ℕ)) (rest : List ℕ) (state : State) : Type 0 where
  pub cut : Cuts input lines rest
  pub bytes : length input ≤ 268435456
  pub count : length lines ≤ 1000000
  pub none_past : length lines ≡ 1000000 → rest ≡ []
  pub no_quit : AllByRecursion (λ line. command_of line ≢ Ok Quit) lines
  pub run : Run Wanted (opening table) lines text state

-- The lines that a line feed ends were answered.
pub record AnswersLines (table : Table) (taken written : List ℕ) : Type 0 where
  pub lines : List (List ℕ)
  pub rest : List ℕ
  pub state : State
  pub answered : Answered table taken written lines rest state

-- A quit was answered after other lines. What was taken after it does not matter.
pub record StopsAtQuit (table : Table) (taken written : List ℕ) : Type 0 where
  pub input : List ℕ
  pub more : List ℕ
  pub text : List ℕ
  pub before : AnswersLines table input text
  pub whole : taken ≡ input ++ 10 ∷ more
  pub within : length input < 268435456
  pub quit : command_of before.rest ≡ Ok Quit
  pub wrote : written ≡ text ++ codes "bye\n"

-- All lines were answered, with the one that no line feed ends, if there is one.
pub record AnswersAll (table : Table) (taken written : List ℕ) : Type 0 where
  pub text : List ℕ
  pub before : AnswersLines table taken text
  pub last : ((before.rest ≡ []) × (written ≡ text))
      ⊎ ((0 < length before.rest) × (reply : List ℕ) × (new : State) × Answers Wanted before.state (command_of before.rest) reply new
      × (written ≡ text ++ reply))

-- The lines before a byte past a bound were answered.
pub record PassesBound (table : Table) (taken written : List ℕ) : Type 0 where
  pub input : List ℕ
  pub next : ℕ
  pub more : List ℕ
  pub before : AnswersLines table input written
  pub whole : taken ≡ input ++ next ∷ more
  pub bound : (length input ≡ 268435456) ⊎ (length before.lines ≡ 1000000)

-- The writer took a front of the replies to the lines of this input and to the line behind them: the last reply breaks off.
pub record BreaksOff (table : Table) (input written : List ℕ) (sent : ℕ) : Type 0 where
  pub text : List ℕ
  pub before : AnswersLines table input text
  pub reply : List ℕ
  pub unsent : List ℕ
  pub last : State
  pub answers : Answers Wanted before.state (command_of before.rest) reply last
  pub wrote : written ++ unsent ≡ text ++ reply
  pub count : sent ≡ length written

-- It does so within the input, at a line that a line feed ends, with no bound passed.
pub record BreaksOffWithin (table : Table) (taken written : List ℕ) (sent : ℕ) : Type 0 where
  pub input : List ℕ
  pub more : List ℕ
  pub whole : taken ≡ input ++ 10 ∷ more
  pub within : length input < 268435456
  pub broken : BreaksOff table input written sent
  pub count : length broken.before.lines < 1000000

-- It does so at the end of the input, at the line that no line feed ends.
pub record BreaksOffLast (table : Table) (taken written : List ℕ) (sent : ℕ) : Type 0 where
  pub broken : BreaksOff table taken written sent
  pub some : 0 < length broken.before.rest

-- What ends a run in the middle of its input.
abbrev pub Stops : Table → List ℕ → List ℕ → Ending → Type 0
Stops table taken written Done = StopsAtQuit table taken written
Stops table taken written (Write sent) = BreaksOffWithin table taken written sent
Stops table taken written TooMuch = PassesBound table taken written
Stops table taken written other = ⊥

-- A run of a table on these bytes of input wrote these, and ended so. The last argument says whether the reader has ended.
abbrev pub Serves : Table → List ℕ → List ℕ → Ending → Bool → Type 0
Serves table taken written Done ended = StopsAtQuit table taken written ⊎ ((ended ≡ true) × AnswersAll table taken written)
Serves table taken written Read ended = AnswersLines table taken written
Serves table taken written (Write sent) ended = BreaksOffWithin table taken written sent ⊎ ((ended ≡ true) × BreaksOffLast table taken written sent)
Serves table taken written TooMuch ended = PassesBound table taken written
Serves table taken written Memory ended = (taken ≡ []) × (written ≡ [])
Serves table taken written other ended = ⊥

-- A run of a capture: where it is refused, or memory is wanted at the start, nothing is taken and nothing written.
abbrev pub ServesCapture : List ℕ → List ℕ → List ℕ → Ending → Bool → Type 0
ServesCapture capture taken written ending ended =
    OfCapture capture ending ((taken ≡ []) × (written ≡ [])) (λ table. Serves table taken written ending ended)

-- One line was answered, and the writer took the reply, or a front of it where it failed.
pub record Replies (old : State) (command : Result Command CommandFault) (new : State) (held_old held_new : Option (List ℕ)) (sent_old sent_new : ℕ)
    (ok : Bool) : Type 0 where
  pub reply : List ℕ
  pub answers : Answers Wanted old command reply new
  pub puts : Puts held_old held_new sent_old sent_new reply ok
  pub short : ok ≡ true → length reply ≤ most_reply_bytes
