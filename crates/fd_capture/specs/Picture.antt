-- Promised. What the picture of a draw stands for, a value of version 3. Its texts are in base64 (RFC 4648, section 4): the standard alphabet, padded, with
-- zero bits behind the last byte, and nothing else, so that bytes have one spelling.
use Rattle.std.specs.Prelude.{ℕ, codes, List, Option, Some, None}
use Rattle.std.specs.Result.{result_ok}
use Rattle.serde_json.specs.Data.{Data}
use Rattle.serde_json.specs.Find.{get, as_str}
use Rattle.base64.specs.Engines.{standard}
use Rattle.base64.specs.GeneralPurpose.{decode_of}
use Rattle.fd_events.specs.Picture.{Painting, made_painting}
use Rattle.fd_capture.specs.Field.{◌>>=◌, unsigned_32}

-- the bytes that a text in base64 stands for
unfoldable pub decoded : List ℕ → Option (List ℕ)
decoded text = result_ok (decode_of standard text)

abbrev pub bytes_of_data : Data → Option (List ℕ)
bytes_of_data d = as_str d >>= decoded

-- holes may be missing
abbrev pub holes_of : Option Data → Option (Option (List ℕ))
holes_of None = Some None
holes_of (Some d) = do
  holes ← bytes_of_data d
  Some (Some holes)

-- the picture, if its members are well formed and belong together; a value that is no object is none
abbrev pub picture_of_data : Data → Option Painting
picture_of_data d = do
  left ← get (codes "left") d >>= unsigned_32
  top ← get (codes "top") d >>= unsigned_32
  width ← get (codes "width") d >>= unsigned_32
  height ← get (codes "height") d >>= unsigned_32
  texels ← get (codes "texels") d >>= bytes_of_data
  holes ← holes_of (get (codes "holes") d)
  result_ok (made_painting left top width height texels holes)
