-- Columns and rows of tiles.
use Rattle.std.proofs.Common.{ℕ, ◌+◌, ◌*◌, ◌/◌, ◌%◌, ◌<◌, sym, ap, ◌∙◌, subst, arith}
use Rattle.std.proofs.lemmas.Nat.{div-mul-add, mod-mul-add}
use Rattle.fd_tile.specs.declared.place.Place.{Place}
use Rattle.fd_tile.specs.Grid.{TargetSize, IsTargetSize, columns_of, place_in, place_of}
use Rattle.fd_tile.specs.Place.{Holds}

-- the tile of pixel (x, y)
abbrev pub number_at : TargetSize → ℕ → ℕ → ℕ
number_at s x y = y / 32 * columns_of s + x / 32

module _ (s : TargetSize) (x y : ℕ) (size : IsTargetSize s) (across : x < s.width) (down : y < s.height) where
  pub number_at-holds : Holds (place_of s (number_at s x y)) x y
  number_at-holds =
      let inside : x / 32 < columns_of s = omega arith in
      let held : Holds (place_in s (x / 32) (y / 32)) x y =
      record { from_left = omega arith; to_right = omega arith; from_top = omega arith; to_bottom = omega arith } in
      subst (λ (p : Place). Holds p x y)
      (ap (λ k. place_in s k (y / 32)) (sym (mod-mul-add (y / 32) (columns_of s) (x / 32) inside))
      ∙ ap (λ k. place_in s (number_at s x y % columns_of s) k) (sym (div-mul-add (y / 32) (columns_of s) (x / 32) inside)))
      held
