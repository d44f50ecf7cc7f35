-- Events that leave a place as it is.
use Rattle.std.proofs.Common.{◌≡◌, ℕ, zero, suc, ◌≤◌, false, inl, inr, refl, sym, ◌∙◌, arith}
use Rattle.std.proofs.lemmas.Bool.{cases_lt}
use Rattle.fd_tile.specs.declared.place.Place.{Place}
use Rattle.fd_tile.specs.Place.{Holds}
use Rattle.fd_tile.specs.Tile.{TileImage, IsTileImage}
use Rattle.fd_undo.specs.Undo.{Undo}
use Rattle.fd_events.specs.Image.{pixel_at}
use Rattle.fd_events.specs.Table.{Table}
use Rattle.fd_draw.specs.Paints.{Paints}
use Rattle.fd_draw.proofs.Painting.{Paints-same, Paints-nothing}
use Rattle.fd_owner.specs.History.{pixel_past, kept_past}
use Rattle.fd_owner.specs.Untouched.{IsUntouched, AreUntouched, IsUnchanged}

-- drawing nothing is drawing it
pub Paints-untouched : (table : Table) (k : ℕ) (t : TileImage) (u : Undo) → IsTileImage t → u.frame_left ≡ false → IsUntouched table k t.place
    → Paints (pixel_past table k) (kept_past table k) t u t u
Paints-untouched table k t u filled begun is =
    Paints-same (λ x y held. sym (is.stays x y _ held).0) (λ x y held. sym (is.stays x y _ held).1) (Paints-nothing filled begun)

-- so each pixel is the same at two positions between which nothing is written
pixel_passed : (table : Table) (place : Place) (x y a b : ℕ) → Holds place x y → a ≤ b → AreUntouched table a b place
    → pixel_at table a x y ≡ pixel_at table b x y
pixel_passed table place x y a zero held on far = let here : a ≡ zero = omega (arith, on) in rw here refl
pixel_passed table place x y a (suc b) held on far = elim (cases_lt b a) [
  | inl there ↦ let here : a ≡ suc b = omega (arith, on, there) in rw here refl
  | inr before ↦
      pixel_passed table place x y a b held before (λ k low high. far k low (omega (arith, high)))
      ∙ sym ((far b before (omega arith)).stays x y (pixel_at table b x y) held).0
]

pub pixel_alike : (table : Table) (place : Place) (x y a b : ℕ) → Holds place x y → IsUnchanged table a b place → pixel_at table a x y ≡ pixel_at table b x y
pixel_alike table place x y a b held is = elim (cases_lt b a) [
  | inl back ↦ sym (pixel_passed table place x y b a held (omega (arith, back)) is.back)
  | inr on ↦ pixel_passed table place x y a b held on is.on
]
