-- Reads of which each waits for the answers to what came before it.
use Rattle.std.proofs.Common.{List, ℕ, [], ◌∷◌, ◌++◌, ap, refl, subst, sym}
use Rattle.fd_device.specs.Beside.{IsFilledBeside}
use Rattle.fd_events.specs.Table.{Table}
use Rattle.fd_listing.specs.Counting.{StaysFlushed}
use Rattle.std.specs.Io.KnownBytes.{Appends}
use Rattle.fd_cli.specs.declared.dialogue.Dialogue.{Dialogue}
use Rattle.fd_cli.specs.Dialogue.{IsServing}
use Rattle.fd_cli.specs.Waiting.{IsAnswered, Telling, Waited}

module _ {R W : Type 0} (telling : Telling W) (table : Table) (first : W) (old : R) where
  -- nothing was read
  pub waited_none : Waited telling table first old old []
  waited_none = record { reads = []; waits = refl; whole = refl }

  -- one more read
  pub waited_more : (now new : R) (sink : W) (input bytes : List ℕ) → Waited telling table first old now input → IsFilledBeside now new sink bytes
      → IsAnswered telling table first sink input → Waited telling table first old new (input ++ bytes)
  waited_more now new sink input bytes waited filled answered = record {
    reads = record { source = now; sink = sink; bytes = bytes } ∷ waited.reads;
    waits = (waited.waits, filled, subst (λ came. IsAnswered telling table first sink came) (sym waited.whole) answered);
    whole = ap (λ came. came ++ bytes) waited.whole;
  }

  -- what a run has answered
  pub answered_so : (sink : W) (input text : List ℕ) (dialogue : Dialogue) → IsServing table input text dialogue
      → Appends (telling.contents first) (telling.contents sink) text → StaysFlushed (telling.is_flushed first) (telling.is_flushed sink)
      → IsAnswered telling table first sink input
  answered_so sink input text dialogue serving appended flushed = record {
    written = text;
    appended = appended;
    answers = record { lines = serving.lines; rest = serving.rest; state = dialogue.session; answered = serving.answered };
    passed_on = flushed;
  }
