-- What a call did about the table of a capture, it did about the capture.
use Rattle.std.proofs.Common.{◌≡◌, ℕ, Bool, List, [], Option, Ok, refl, arith}
use Rattle.fd_capture.specs.Capture.{capture_of}
use Rattle.fd_events.specs.Table.{Table}
use Rattle.fd_words.specs.declared.ending.Ending.{Ending}
use Rattle.fd_words.specs.declared.ending.Ending.TheVariants.{Capture, Memory, Done, Write}
use Rattle.fd_words.specs.Text.{event_list}
use Rattle.fd_words.specs.declared.request.Request.{Request}
use Rattle.fd_words.specs.declared.request.Request.TheVariants.{Run, Image, Events}
use Rattle.fd_listing.specs.Listing.{WritesText, ListsEvents}
use Rattle.fd_listing.specs.Counting.{CountsReader, CountsWriter}
use Rattle.fd_listing.specs.Opening.{EndsUnread}
use Rattle.fd_cli.specs.Imaging.{ImagesTable, WritesImage}
use Rattle.fd_cli.specs.Performing.{Does}
use Rattle.fd_cli.specs.Serving.{Serves, ServesCapture}
use Rattle.fd_cli.proofs.Outputs.{serve_writes_output}

module _ (capture : List ℕ) (table : Table) (is : capture_of capture ≡ Ok table) where
  pub serves_of : (taken written : List ℕ) (ending : Ending) (ended : Bool) → Serves table taken written ending ended
      → ServesCapture capture taken written ending ended
  serves_of taken written (Capture fault) ended s = absurd s
  serves_of taken written Memory ended s = s
  serves_of taken written other ended s = (table, is, s)

  pub images_of : (at : Option ℕ) (written : List ℕ) (ending : Ending) → ImagesTable table at written ending → WritesImage capture at written ending
  images_of at written (Capture fault) s = absurd s.1
  images_of at written Memory s = s
  images_of at written other s = (table, is, s)

  pub lists_of : (written : List ℕ) (ending : Ending) → WritesText (event_list table 0) written ending → ListsEvents capture written ending
  lists_of written (Capture fault) s = absurd s
  lists_of written Memory s = absurd s
  lists_of written other s = (table, is, s)

-- where it couldn't be read, nothing was taken and nothing written
pub does_unread : (request : Request) (capture : List ℕ) (ending : Ending) (ended : Bool) → EndsUnread capture ending → Does request capture [] [] ending ended
does_unread (Run workers) capture (Capture fault) ended ends =
    let s : ServesCapture capture [] [] (Capture fault) ended = (ends, (refl, refl)) in
    (omega arith, serve_writes_output capture [] [] (Capture fault) ended s, s)
does_unread (Run workers) capture Memory ended ends =
    let s : ServesCapture capture [] [] Memory ended = (refl, refl) in
    (omega arith, serve_writes_output capture [] [] Memory ended s, s)
does_unread (Image workers at) capture (Capture fault) ended ends = (refl, (ends, refl))
does_unread (Image workers at) capture Memory ended ends = (refl, refl)
does_unread Events capture (Capture fault) ended ends = (refl, (ends, refl))
does_unread Events capture Memory ended ends = (refl, refl)
does_unread request capture other ended ends = absurd ends

-- nor did a device fail
pub counts_unread : (capture : List ℕ) (ending : Ending) (n : ℕ) → EndsUnread capture ending → CountsReader ending n n × CountsWriter ending n n
counts_unread capture (Capture fault) n ends = (refl, refl)
counts_unread capture Memory n ends = (refl, refl)
counts_unread capture other n ends = absurd ends
