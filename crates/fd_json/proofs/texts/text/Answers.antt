use Rattle.std.proofs.Common.{◌≡◌, ◌∷◌, refl, ap, ◌∙◌, arith}
use Rattle.serde_json.specs.Data.{string}
use Rattle.json.specs.Token.{Token}
use Rattle.json.specs.Reads.{token_of}
use Rattle.fd_json.specs.Taken.{taken}
use Rattle.fd_json.proofs.Shapes.{shape_taken, no_text, taken-text}
use Rattle.fd_json.proofs.texts.text.Goals as goal

pub returns-in-String-clause-value : goal.returns-in-String-clause-value
returns-in-String-clause-value c =
    let opened : c.args.reader.now ≡ Token.string c.in-String.text.now ∷ c.next.new.self = grind arith in
    (string c.in-String.text.now, ap (taken c.args.depth) opened ∙ taken-text c.args.depth c.in-String.text.now c.next.new.self, refl)

pub returns-in_ok-pass_rest-clause-value : goal.returns-in_ok-pass_rest-clause-value
returns-in_ok-pass_rest-clause-value c =
    let first : c.args.reader.now ≡ token_of c.in_ok-first.first ∷ c.next.new.self = grind arith in
    let read = c.in_ok-pass_rest.ensures.value in
    let begun = shape_taken c.args.depth (token_of c.in_ok-first.first) c.next.new.self c.pass_rest.new.reader read.0 read.1 in
    (read.0, cc, cc (no_text read.0 (grind (arith, begun))))
