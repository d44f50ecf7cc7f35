-- Promised. What a call that writes one text has written, by how it ends.
use Rattle.std.specs.Prelude.{◌≡◌, ℕ, List, [], ◌++◌, length}
use Rattle.fd_words.specs.declared.ending.Ending.{Ending}
use Rattle.fd_words.specs.declared.ending.Ending.TheVariants.{Done, Write}
use Rattle.fd_words.specs.Text.{event_list}
use Rattle.fd_listing.specs.Opening.{OfCapture}

-- The whole text was written, or a front of it.
abbrev pub WritesText : List ℕ → List ℕ → Ending → Type 0
WritesText text written Done = written ≡ text
WritesText text written (Write sent) = (unsent : List ℕ) × (written ++ unsent ≡ text) × (sent ≡ length written)
WritesText text written other = ⊥

-- The list of a capture's events at position 0, all of them switched on as captures give them.
abbrev pub ListsEvents : List ℕ → List ℕ → Ending → Type 0
ListsEvents capture written ending = OfCapture capture ending (written ≡ []) (λ table. WritesText (event_list table 0) written ending)
