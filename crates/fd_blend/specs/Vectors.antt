-- Working. The blend equation on weighted channels.
use Rattle.std.specs.Prelude.{ℕ, ◌+◌, ◌-◌, ◌*◌, ◌/◌, ◌==◌, ◌||◌, min, max, nat_le, bit_xor, slice_index, if◌then◌else◌, Bool, List}
use Rattle.fd_blend.specs.declared.equation.BlendOp.{BlendOp}
use Rattle.fd_blend.specs.declared.equation.BlendOp.TheVariants.{Add, Subtract, RevSubtract, Min, Max}

-- an operation on a source and a destination, each times its factor, clamped to the range from 0 to 65025
abbrev pub units : BlendOp → ℕ → ℕ → ℕ
units Add src dst = min (src + dst) 65025
units Subtract src dst = src - dst
units RevSubtract src dst = dst - src
units Min src dst = min src dst
units Max src dst = max src dst

-- the elements of the alpha channels
abbrev pub is_alpha : ℕ → Bool
is_alpha k = k == 3 || k == 7

-- the byte at an element's position, or 0 from 128 on, with the bits of the flip turned over
abbrev pub factor_at : List ℕ → List ℕ → List ℕ → ℕ → ℕ
factor_at bytes positions flips k = bit_xor (if nat_le 128 (slice_index positions k) then 0 else slice_index bytes (slice_index positions k))
    (slice_index flips k)

-- an element of eight sources that stand before eight destinations
abbrev pub blended_element : List ℕ → List ℕ → List ℕ → List ℕ → BlendOp → BlendOp → ℕ → ℕ
blended_element bytes positions flips written rgb alpha k =
    if slice_index written k == 0
    then slice_index bytes (8 + k)
    else (units (if is_alpha k then alpha else rgb)
    (slice_index bytes k * factor_at bytes positions flips k)
    (slice_index bytes (8 + k) * factor_at bytes positions flips (8 + k)) + 127) / 255

-- an element of eight destinations to which their sources, weighted already, are added
abbrev pub added_element : List ℕ → List ℕ → List ℕ → List ℕ → ℕ → ℕ
added_element bytes sources factors written k =
    if slice_index written k == 0
    then slice_index bytes k
    else (units Add (slice_index sources k) (slice_index bytes k * slice_index factors k) + 127) / 255
