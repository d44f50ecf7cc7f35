use Rattle.std.proofs.Common.{List, ℕ, ◌++◌, ap, ◌∙◌, append_assoc}
use Rattle.fd_words.specs.Text.{number_word}
use Rattle.fd_words.proofs.text.add_depth_clear.Goals as goal

pub returns-clause-items : goal.returns-clause-items
returns-clause-items c =
    c.add_half.ensures.items ∙ ap (λ (l : List ℕ). l ++ number_word c.args.depth) c.append.ensures.items ∙ simp append_assoc
