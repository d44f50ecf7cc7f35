-- How many lanes some of the workers own.
use Rattle.std.proofs.Common.{◌≡◌, ℕ, ◌+◌, ◌*◌, ◌/◌, ◌%◌, ◌<◌, arith}
use Rattle.std.proofs.Math.Nat.{mul-add-div_right}
use Rattle.std.proofs.lemmas.Nat.{div-add-mod'}

-- an even share is computed with no great product
pub even_share_is : (lanes workers count : ℕ) → 0 < workers → lanes / workers * count + lanes % workers * count / workers ≡ count * lanes / workers
even_share_is lanes workers count some =
    let whole = div-add-mod' lanes workers in
    let q : ℕ = lanes / workers in
    let r : ℕ = lanes % workers in
    let product : q * count * workers + r * count ≡ count * (q * workers + r) = omega arith in
    cc (mul-add-div_right some (q * count) (r * count))
