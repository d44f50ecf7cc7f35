use Rattle.std.proofs.Common.{◌≡◌, ◌+◌, ◌-◌, ◌∙◌, ap, sym, length, take, drop, get_or, eqb, false, arith}
use Rattle.std.specs.Prelude.{position}
use Rattle.std.proofs.lemmas.List.{take_rest, length-drop, get_or-drop}
use Rattle.fd_words.proofs.Words.{no_word, word_begins, word_ends, word_whole}
use Rattle.fd_words.proofs.command.next_word.Goals as goal

pub returns-in_default : goal.returns-in_default
returns-in_default c = no_word c.args.text.now (sym c.word_start.ensures ∙ c.in_default.is)

pub returns-in-Some-first_space : goal.returns-in-Some-first_space
returns-in-Some-first_space c =
    let text = c.args.text.now in
    let start = c.in-Some.start in
    let end = c.in-Some-first_space.end in
    let rest = drop start text in
    let same : take (length text - start) rest ≡ rest = take_rest text start in
    let begins = word_begins text start (sym c.word_start.ensures ∙ c.in-Some.is) in
    let front : start + 0 ≡ start = omega arith in
    let letter : eqb (get_or rest 0 0) 32 ≡ false =
    ap (λ b. eqb b 32) (get_or-drop start text 0 0 ∙ ap (λ i. get_or text i 0) front) ∙ begins.2 in
    let ends = word_ends rest end letter (ap (position (λ byte. eqb byte 32)) (sym same) ∙ sym c.first_space.ensures ∙ c.in-Some-first_space.is) in
    rw (c.split_at.ensures.front, c.split_at.ensures.back, same) (begins.0 ∙ ends)

pub returns-in-None : goal.returns-in-None
returns-in-None c =
    let text = c.args.text.now in
    let start = c.in-Some.start in
    let rest = drop start text in
    let same : take (length text - start) rest ≡ rest = take_rest text start in
    let begins = word_begins text start (sym c.word_start.ensures ∙ c.in-Some.is) in
    let last = word_whole rest (omega (arith, begins.1, length-drop start text))
    (ap (position (λ byte. eqb byte 32)) (sym same) ∙ sym c.first_space.ensures ∙ c.in-None.is) in
    rw (c.split_at-in-None.ensures.front, c.split_at-in-None.ensures.back, same) (begins.0 ∙ last)
