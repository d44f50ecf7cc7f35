-- Where a text ends.
use Rattle.std.proofs.Common.{arith, ◌≡◌, List, ◌∷◌, Option, true}
use Rattle.std.specs.Prelude.{is_some}
use Rattle.json.specs.Token as spec
use Rattle.json.specs.Reads.{Yields}
use Rattle.json.specs.declared.token.Token.{Token}

-- one is
pub goes_on : (old new : List spec.Token) (next : Option Token) → Yields old next new → is_some next ≡ true → (t : spec.Token) × (ts : List spec.Token)
    × (old ≡ t ∷ ts)
goes_on old new next yields some = grind arith
