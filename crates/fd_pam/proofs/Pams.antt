-- The lengths of an image's bytes, and how they are sent, a part of a row at a time.
use Rattle.std.proofs.Common.{◌≡◌, ℕ, ◌+◌, ◌*◌, ◌<◌, ◌≤◌, List, [], ◌∷◌, ◌++◌, length, take, drop, Option, Bool, true, false, Result, Ok, Err, OnErr, sym, ap}
use Rattle.std.proofs.Common.{◌∙◌, arith, subst, append_assoc, length-append, take-append-drop, codes, map}
use Rattle.std.specs.Prelude.{decimal}
use Rattle.std.specs.List.{flat_map, range_with_len}
use Rattle.std.specs.Io.KnownBytes.{Appends}
use Rattle.std.proofs.lemmas.List.{length-take}
use Rattle.std.proofs.lemmas.List.Concat.{flat_map-append}
use Rattle.std.proofs.Math.Nat.{mul-le-mul}
use Rattle.std.proofs.Math.Seq.{take-add, take-length}
use Rattle.fd_blend.specs.declared.channel.Colour.{Colour}
use Rattle.fd_events.specs.Image.{image_at, colour_at}
use Rattle.fd_events.proofs.Images.{length-image_at}
use Rattle.fd_frame.specs.State.{State}
use Rattle.fd_snap.specs.Limits.{most_pixels}
use Rattle.fd_pam.specs.Limits.{most_tuple_bytes}
use Rattle.fd_pam.specs.Pam.{header, tuple, tuples}
use Rattle.fd_device.specs.Transfer.{Puts}
use Rattle.fd_pam.specs.declared.writer.TheConstants.{CHUNK_LEN}
use Rattle.fd_pam.proofs.RowPieces.{row_in_image}
use Rattle.fd_device.proofs.Transfers.{puts_whole, puts_then, puts_broken, puts_all}

pub length-tuples : (colours : List Colour) → length (flat_map tuple colours) ≡ 4 * length colours
length-tuples [] = omega arith
length-tuples (c ∷ colours) = omega (arith, length-append (tuple c) (flat_map tuple colours), length-tuples colours)

pub length-body : (state : State) → length (tuples state) ≡ 4 * (state.table.height * state.table.width)
length-body state = length-tuples (image_at state.table state.position) ∙ ap (λ n. 4 * n) (length-image_at state.table state.position)

pub body_short : (state : State) → state.table.width ≤ most_pixels → state.table.height ≤ most_pixels → length (tuples state) ≤ most_tuple_bytes
body_short state width height = omega (
  arith,
  length-body state,
  mul-le-mul {n₁ = state.table.height} {m₁ = state.table.width} {n₂ = most_pixels}
      {m₂ = most_pixels} height width,
)

-- what was sent and what waits is at most the body
pub so_far_short : (state : State) (k : ℕ) (text chunk : List ℕ) → state.table.width ≤ most_pixels → state.table.height ≤ most_pixels
    → text ++ chunk ≡ flat_map tuple (take k (image_at state.table state.position)) → length text + length chunk ≤ most_tuple_bytes
so_far_short state k text chunk width height is =
    let image = image_at state.table state.position in
    omega (arith, length-append text chunk, ap length is, length-tuples (take k image), length-take k image, length-tuples image, body_short state width height)

-- the bytes up to a pixel, and with a piece of its row
pub body_more : (state : State) (x y : ℕ) (piece : List Colour) (text chunk : List ℕ) → x + length piece ≤ state.table.width → y < state.table.height
    → piece ≡ map (λ column. colour_at state.table state.position column y) (range_with_len x (length piece))
    → text ++ chunk ≡ flat_map tuple (take (y * state.table.width + x) (image_at state.table state.position))
    → text ++ (chunk ++ flat_map tuple piece) ≡ flat_map tuple (take (y * state.table.width + (x + length piece)) (image_at state.table state.position))
body_more state x y piece text chunk inside y_in is so_far =
    let image = image_at state.table state.position in
    let start = y * state.table.width + x in
    let next : start + length piece ≡ y * state.table.width + (x + length piece) = omega arith in
    sym (append_assoc text chunk (flat_map tuple piece))
    ∙ ap (λ xs. xs ++ flat_map tuple piece) so_far
    ∙ ap (λ cs. flat_map tuple (take start image) ++ flat_map tuple cs) (is ∙ sym (row_in_image state.table state.position x y (length piece) inside y_in))
    ∙ sym (flat_map-append tuple (take start image) (take (length piece) (drop start image)))
    ∙ ap (flat_map tuple) (sym (take-add start (length piece) image))
    ∙ ap (λ n. flat_map tuple (take n image)) next

-- there is room for one colour's tuple more
pub room_for_tuple : (start chunk : List ℕ) (colours : List Colour) (i : ℕ) → i < length colours → length start + 4 * length colours ≤ CHUNK_LEN
    → chunk ≡ start ++ flat_map tuple (take i colours) → length chunk + 4 ≤ CHUNK_LEN
room_for_tuple start chunk colours i within room so_far =
    omega (arith, ap length so_far, length-append start (flat_map tuple (take i colours)), length-tuples (take i colours), length-take i colours)

-- what was gone and what waits, where some more has gone
pub still_so_far : (text gone left chunk all : List ℕ) → chunk ≡ gone ++ left → text ++ chunk ≡ all → (text ++ gone) ++ left ≡ all
still_so_far text gone left chunk all parts so_far = append_assoc text gone left ∙ ap (λ xs. text ++ xs) (sym parts) ∙ so_far

-- a failure among the bytes of the body
pub body_broken : (state : State) (a b c : Option (List ℕ)) (m n k : ℕ) (text chunk : List ℕ) (i : ℕ) → Appends a b text → n ≡ m + length text
    → Puts b c n k chunk false
    → text ++ chunk ≡ flat_map tuple (take i (image_at state.table state.position)) → Puts a c m k (tuples state) false
body_broken state a b c m n k text chunk i appended counted puts so_far =
    let image = image_at state.table state.position in
    subst (λ t. Puts a c m k t false)
    (ap (λ xs. xs ++ flat_map tuple (drop i image)) so_far ∙ sym (flat_map-append tuple (take i image) (drop i image))
    ∙ ap (flat_map tuple) (take-append-drop i image))
    (puts_broken a c m k (text ++ chunk) (flat_map tuple (drop i image))
    (puts_then a b c m n k text chunk false (puts_whole a b m n text appended counted true) puts))

-- what broke off is less than the body
pub body_cut : (state : State) (m n k : ℕ) (text chunk : List ℕ) (i : ℕ) → n ≡ m + length text → k < n + length chunk
    → text ++ chunk ≡ flat_map tuple (take i (image_at state.table state.position)) → k < m + length (tuples state)
body_cut state m n k text chunk i counted cut so_far =
    let image = image_at state.table state.position in
    omega (arith, length-append text chunk, ap length so_far, length-tuples (take i image), length-take i image, length-tuples image)

-- the same of a call's result
pub cut_after : {X Y : Type 0} (result : Result X Y) (m n k : ℕ) (text chunk : List ℕ) (state : State) (i : ℕ) → n ≡ m + length text
    → text ++ chunk ≡ flat_map tuple (take i (image_at state.table state.position)) → OnErr result (k < n + length chunk)
    → OnErr result (k < m + length (tuples state))
cut_after (Ok x) m n k text chunk state i counted so_far cut = cut
cut_after (Err e) m n k text chunk state i counted so_far cut = body_cut state m n k text chunk i counted cut so_far

-- the last bytes of the body
pub body_last : (state : State) (a b c : Option (List ℕ)) (m n k : ℕ) (text chunk : List ℕ) (ok : Bool) → Appends a b text → n ≡ m + length text
    → Puts b c n k chunk ok
    → text ++ chunk ≡ tuples state → Puts a c m k (tuples state) ok
body_last state a b c m n k text chunk ok appended counted puts all =
    subst (λ t. Puts a c m k t ok) all (puts_then a b c m n k text chunk ok (puts_whole a b m n text appended counted true) puts)

-- a text that was sent from its beginning
pub writes_all : (a b : Option (List ℕ)) (sent : ℕ) (text : List ℕ) → Puts a b 0 sent text true → Appends a b text
writes_all a b sent text puts = (puts_all a b 0 sent text puts).0

-- the header's length
pub length-header : (width height : ℕ) → length (header width height) ≡ 63 + length (decimal width) + length (decimal height)
unfolding header
length-header width height =
    omega (
      arith,
      length-append (((codes "P7\nWIDTH " ++ decimal width) ++ codes "\nHEIGHT ") ++ decimal height)
          (codes "\nDEPTH 4\nMAXVAL 255\nTUPLTYPE RGB_ALPHA\nENDHDR\n"),
      length-append ((codes "P7\nWIDTH " ++ decimal width) ++ codes "\nHEIGHT ") (decimal height),
      length-append (codes "P7\nWIDTH " ++ decimal width) (codes "\nHEIGHT "),
      length-append (codes "P7\nWIDTH ") (decimal width),
    )

-- all rows are the whole image
pub rows_all : (state : State) (y : ℕ) → y ≡ state.table.height
    → flat_map tuple (take (y * state.table.width) (image_at state.table state.position)) ≡ tuples state
rows_all state y all =
    let image = image_at state.table state.position in
    let size : y * state.table.width ≡ length image = ap (λ n. n * state.table.width) all ∙ sym (length-image_at state.table state.position) in
    ap (λ n. flat_map tuple (take n image)) size ∙ ap (flat_map tuple) (take-length image)
