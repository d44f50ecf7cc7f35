use Rattle.std.proofs.Common.{codes, ◌≡◌, [], Option, option_map, unwrap_or, None, Some, ◌∙◌, refl, ap}
use Rattle.std.specs.Borrow.{Bor}
use Rattle.clap.specs.Words.{Text, found_of}
use Rattle.clap.proofs.WalkLemmas.{first_value-rows}
use Rattle.fd_arguments.proofs.arguments.arguments_of.Goals as goal

text_or_empty : (text : Option (Bor Text)) (empty : Bor Text) → empty.now ≡ []
    → (unwrap_or text empty).now ≡ unwrap_or (option_map (λ s. s.now) text) []
text_or_empty None empty none = none
text_or_empty (Some text) empty none = refl

pub returns-clause-value : goal.returns-clause-value
returns-clause-value c = record {
  request = c.request_of.ensures.value;
  capture = ap (λ (s : Bor Text). s.now) c.unwrap_or.ensures ∙ text_or_empty c.get_str.result _ refl
      ∙ ap (λ (t : Option Text). unwrap_or t []) (c.get_str.ensures ∙ first_value-rows (found_of c.args.matches.now) (codes "CAPTURE"));
}
