-- Working. What a number grows by, and shrinks by, from a covered pixel to its right neighbour.
use Rattle.std.specs.Prelude.{◌≡◌, ℕ, ◌+◌, ◌*◌, ℤ, pos, ◌≤ℤ◌, unsigned_abs, IsTrue}
use Rattle.fd_cover.specs.declared.triangle.Tri.{Tri}
use Rattle.fd_cover.specs.Covers.{covers}

-- 256 times what of a number is above 0
pub record IsAbove (number : ℤ) (result : ℕ) : Type 0 where
  pub above : pos 0 ≤ℤ number → result ≡ 256 * unsigned_abs number
  pub below : number ≤ℤ pos 0 → result ≡ 0

-- from a covered pixel to one i columns on a number grows by i times `rise` and shrinks by i times `fall`
abbrev pub Climbs : Tri → (ℕ → ℕ → ℕ) → ℕ → ℕ → Type 0
Climbs t number rise fall = (x y i : ℕ) → IsTrue (covers t x y) → IsTrue (covers t (x + i) y) → number (x + i) y + i * fall ≡ number x y + i * rise
