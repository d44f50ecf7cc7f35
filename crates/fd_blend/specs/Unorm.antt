-- Promised. Conversion of a value in units of 1/65025 to a UNORM byte n, which stands for n/255: a product of two channels has these units.
-- Direct3D 11.3 functional specification, section 3.2.3.6, FLOAT to UNORM.
use Rattle.std.specs.Prelude.{◌≢◌, ℕ, ◌+◌, ◌*◌, ◌/◌, ◌<◌, min, ℤ, pos, negsuc}
use Rattle.std.specs.Int.{abs_diff}

-- the value clamped to the range from 0 to 1
abbrev pub clamped : ℤ → ℕ
clamped (pos n) = min n 65025
clamped (negsuc n) = 0

-- how far a byte is from the clamped value
abbrev pub byte_distance : ℕ → ℤ → ℕ
byte_distance byte value = abs_diff (255 * byte) (clamped value)

-- every other byte is further from the clamped value
pub record IsNearestByte (value : ℤ) (byte : ℕ) : Type 0 where
  pub is_byte : byte < 256
  pub nearest : (other : ℕ) → other < 256 → other ≢ byte → byte_distance byte value < byte_distance other value

-- clamped, times 255, plus a half, the fraction dropped: (value / 65025) * 255 + 1/2 is (value + 127 + 1/2) / 255, and the last half counts for nothing
unfoldable pub unorm : ℤ → ℕ
unorm value = (clamped value + 127) / 255
