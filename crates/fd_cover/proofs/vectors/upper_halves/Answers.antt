use Rattle.std.proofs.Common.{◌≡◌, ℕ, zero, suc, ◌+◌, ◌-◌, ◌*◌, ◌/◌, ◌<◌, ◌^◌, List, [], ◌∷◌, ◌++◌, length, get_or, ◌∙◌, ap, arith}
use lib.Seq.{get_or-append_right}
use Rattle.fd_cover.proofs.vectors.upper_halves.Goals as goal

module _ (xs ys elements : List ℕ) (long : length xs ≡ 8) (upper : (k : ℕ) → k < 4 → get_or ys (2 * k + 1) 0 ≡ get_or elements k 0 / 2 ^ 32) where
  -- behind the eight words of the first stand those of the second
  behind : (k : ℕ) → k < 4 → get_or (xs ++ ys) (2 * k + 9) 0 ≡ get_or elements k 0 / 2 ^ 32
  behind k lt =
      get_or-append_right xs ys (2 * k + 9) 0 (omega (arith, long))
      ∙ ap (λ n. get_or ys n 0) {x = 2 * k + 9 - length xs} {y = 2 * k + 1} (omega (arith, long)) ∙ upper k lt

  abbrev picked : ℕ → ℕ → ℕ → ℕ → List ℕ
  picked a b c d = a ∷ b ∷ c ∷ d ∷ get_or (xs ++ ys) 9 0 ∷ get_or (xs ++ ys) 11 0 ∷ get_or (xs ++ ys) 13 0 ∷ get_or (xs ++ ys) 15 0 ∷ []

  second : (a b c d k : ℕ) → k < 4 → get_or (picked a b c d) (k + 4) 0 ≡ get_or elements k 0 / 2 ^ 32
  second a b c d zero lt = behind 0 lt
  second a b c d (suc zero) lt = behind 1 lt
  second a b c d (suc (suc zero)) lt = behind 2 lt
  second a b c d (suc (suc (suc zero))) lt = behind 3 lt
  second a b c d (suc (suc (suc (suc k)))) lt = absurd (omega (arith, lt))

pub returns-clause-second : goal.returns-clause-second
returns-clause-second c =
    second c.words_of.result c.words_of-2.result c.args.second c.words_of.ensures.len c.words_of-2.ensures.upper _ _ _ _
