use Rattle.std.proofs.Common.{◌≡◌, ℕ, ℤ, List, ◌∷◌, Option, Some, None, ap, ◌∙◌, arith}
use Rattle.std.specs.Prelude.{Result, Ok, Err, MatchResult}
use Rattle.json.specs.Token.{Token}
use Rattle.json.specs.Reads.{token_of}
use Rattle.serde_json.specs.Data.{Data, Num, number}
use Rattle.serde_json.specs.Find.{as_i64}
use Rattle.serde_json.specs.Read.{number_of}
use Rattle.fd_json.specs.Numeral.{whole_of}
use Rattle.fd_json.specs.Taken.{taken}
use Rattle.fd_json.proofs.Within.{taken-number}
use Rattle.fd_json.proofs.Shapes.{shape_taken, no_number}
use Rattle.fd_json.proofs.whole_number.integer.Goals as goal

-- what is read of a number's text is read of the value that begins with it
of_number : {E : Type 0} (depth : ℕ) (old : List Token) (s : List ℕ) (ts : List Token) (r : Result (Option ℤ) E) → old ≡ Token.number s ∷ ts
    → MatchResult r (λ n. (m : Num) × (number_of s ≡ Some m) × (n ≡ as_i64 m)) (λ _. number_of s ≡ None)
    → MatchResult r (λ n. (d : Data) × (taken depth old ≡ Some (d, ts)) × (n ≡ whole_of d)) (λ _. taken depth old ≡ None)
of_number depth old s ts (Ok n) is read = (number read.0, ap (taken depth) is ∙ taken-number depth s ts read.1, read.2)
of_number depth old s ts (Err e) is none = ap (taken depth) is ∙ taken-number depth s ts none

pub returns-in-Number-clause-value : goal.returns-in-Number-clause-value
returns-in-Number-clause-value c =
    let opened : c.args.reader.now ≡ Token.number c.in-Number.text.now ∷ c.next.new.self = grind arith in
    of_number c.args.depth c.args.reader.now c.in-Number.text.now c.next.new.self c.whole.result opened c.whole.ensures

pub returns-in_ok-pass_rest-clause-value : goal.returns-in_ok-pass_rest-clause-value
returns-in_ok-pass_rest-clause-value c =
    let first : c.args.reader.now ≡ token_of c.in_ok-first.first ∷ c.next.new.self = grind arith in
    let read = c.in_ok-pass_rest.ensures.value in
    let begun = shape_taken c.args.depth (token_of c.in_ok-first.first) c.next.new.self c.pass_rest.new.reader read.0 read.1 in
    (read.0, cc, cc (no_number read.0 (grind (arith, begun))))
