-- The words of a text, from its front.
use Rattle.std.proofs.Common.{◌≡◌, ℕ, zero, suc, ◌<◌, ◌≤◌, List, [], ◌∷◌, ◌++◌, length, take, drop, get_or, Bool, true, false, cond, eqb, not, refl, sym, ap}
use Rattle.std.proofs.Common.{◌∙◌, arith, take-append-drop, ltb, Some, None}
use Rattle.std.specs.Prelude.{position}
use Rattle.std.specs.List.{position_or_len}
use Rattle.std.proofs.Math.Seq.{drop-cons, take-length}
use Rattle.std.proofs.lemmas.List.{length-take, get_or-take}
use Rattle.std.proofs.lemmas.List.Sums.{fails_before_first}
use Rattle.std.proofs.lemmas.List.Quantifiers.{position-Some}
use Rattle.std.proofs.lemmas.Bool.{not-true, not-false, ltb-false, false≢true}
use Rattle.std.proofs.lemmas.Bool.Decides.{nat_tests}
use Rattle.std.specs.Prelude.{filter}
use Rattle.std.specs.List.{slice_split, All}
use Rattle.std.proofs.lemmas.List.Splits.{slice_split_none, slice_split_at}
use Rattle.fd_words.specs.Line.{words, has_no_byte}

-- the space alone passes the test
space_is : (x : ℕ) → eqb x 32 ≡ true → x ≡ 32
space_is x e = grind (arith, nat_tests)

-- spaces in front
words_skip : (n : ℕ) (xs : List ℕ) → n ≤ length xs → ((k : ℕ) → k < n → get_or xs k 0 ≡ 32) → words xs ≡ words (drop n xs)
words_skip zero xs within all = refl
words_skip (suc n) [] within all = absurd (omega arith)
words_skip (suc n) (x ∷ xs) within all =
    ap (λ b. words (b ∷ xs)) (all 0 (omega arith)) ∙ words_skip n xs (omega arith) (λ k h. all (suc k) (omega arith))

-- nothing but spaces
words_blank : (xs : List ℕ) → ((k : ℕ) → k < length xs → get_or xs k 0 ≡ 32) → words xs ≡ []
words_blank [] all = refl
words_blank (x ∷ xs) all = ap (λ b. words (b ∷ xs)) (all 0 (omega arith)) ∙ words_blank xs (λ k h. all (suc k) (omega arith))

kept : (xs : List ℕ) (parts : List (List ℕ)) → 0 < length xs
    → filter (λ part. not (has_no_byte part)) (xs ∷ parts) ≡ xs ∷ filter (λ part. not (has_no_byte part)) parts
kept [] parts some = absurd (omega arith)
kept (x ∷ xs) parts some = refl

-- a text without a space is one word
words_one : (xs : List ℕ) → 0 < length xs → All (λ x. eqb x 32 ≡ false) xs → words xs ≡ xs ∷ []
words_one xs some none =
    ap (filter (λ part. not (has_no_byte part))) (slice_split_none (λ b. eqb b 32) xs none) ∙ kept xs [] some

-- a word before a space
words_first : (xs ys : List ℕ) → 0 < length xs → All (λ x. eqb x 32 ≡ false) xs → words (xs ++ 32 ∷ ys) ≡ xs ∷ words ys
words_first xs ys some none =
    ap (filter (λ part. not (has_no_byte part))) (slice_split_at (λ b. eqb b 32) xs 32 ys none refl) ∙ kept xs (slice_split (λ b. eqb b 32) ys) some

words_split : (rest : List ℕ) (end : ℕ) → 0 < end → end < length rest → get_or rest end 0 ≡ 32 → ((k d : ℕ) → k < end → eqb (get_or rest k d) 32 ≡ false)
    → words rest ≡ take end rest ∷ words (drop end rest)
words_split rest end some within is none =
    let size = length-take end rest in
    let cut = drop-cons rest end 0 within ∙ ap (λ b. b ∷ drop (suc end) rest) is in
    ap words (sym (take-append-drop end rest) ∙ ap (λ ys. take end rest ++ ys) cut)
    ∙ words_first (take end rest) (drop (suc end) rest) (omega (arith, size))
    (λ k d h. ap (λ b. eqb b 32) (get_or-take end rest k d (omega (arith, size))) ∙ none k d (omega (arith, size)))
    ∙ ap (λ ws. take end rest ∷ ws) (sym (ap words cut))

position_past : (b : Bool) (a n : ℕ) → ltb a n ≡ b → cond b (Some a) None ≡ None → n ≤ a
position_past true a n e none = absurd (cc)
position_past false a n e none = ltb-false a n e

none_passes : (p : ℕ → Bool) (xs : List ℕ) → position p xs ≡ None → (k d : ℕ) → k < length xs → p (get_or xs k d) ≡ false
none_passes p xs none k d h =
    fails_before_first p xs k d (omega (arith, position_past (ltb (position_or_len p xs) (length xs)) (position_or_len p xs) (length xs) refl none))

-- no word
pub no_word : (text : List ℕ) → position (λ byte. not (eqb byte 32)) text ≡ None → words text ≡ []
no_word text none = words_blank text (λ k h. space_is (get_or text k 0) (not-false _ (none_passes (λ byte. not (eqb byte 32)) text none k 0 h)))

-- the text from its first word on
pub word_begins : (text : List ℕ) (start : ℕ) → position (λ byte. not (eqb byte 32)) text ≡ Some start
    → (words text ≡ words (drop start text)) × (start < length text) × (eqb (get_or text start 0) 32 ≡ false)
word_begins text start is =
    let found = position-Some (λ byte. not (eqb byte 32)) text start 0 is in
    (words_skip start text (omega (arith, found.0)) (λ k h. space_is (get_or text k 0) (not-false _ (found.2 k h))), found.0, not-true _ found.1)

-- a word that a space ends
pub word_ends : (rest : List ℕ) (end : ℕ) → eqb (get_or rest 0 0) 32 ≡ false → position (λ byte. eqb byte 32) rest ≡ Some end
    → words rest ≡ take end rest ∷ words (drop end rest)
word_ends rest zero letter is =
    let found = position-Some (λ byte. eqb byte 32) rest 0 0 is in
    absurd (false≢true (sym letter ∙ found.1))
word_ends rest (suc end) letter is =
    let found = position-Some (λ byte. eqb byte 32) rest (suc end) 0 is in
    words_split rest (suc end) (omega arith) found.0 (space_is (get_or rest (suc end) 0) found.1)
    (λ k d h. (position-Some (λ byte. eqb byte 32) rest (suc end) d is).2 k h)

-- a word that the text's end ends
pub word_last : (rest : List ℕ) → 0 < length rest → position (λ byte. eqb byte 32) rest ≡ None → words rest ≡ rest ∷ []
word_last rest some none = words_one rest some (none_passes (λ byte. eqb byte 32) rest none)

drop_length : (xs : List ℕ) → drop (length xs) xs ≡ []
drop_length [] = refl
drop_length (x ∷ xs) = drop_length xs

-- a word that is all of the text, and nothing behind it
pub word_whole : (rest : List ℕ) → 0 < length rest → position (λ byte. eqb byte 32) rest ≡ None
    → words rest ≡ take (length rest) rest ∷ words (drop (length rest) rest)
word_whole rest some none =
    word_last rest some none
    ∙ ap (λ xs. xs ∷ []) (sym (take-length rest))
    ∙ ap (λ ws. take (length rest) rest ∷ ws) (sym (ap words (drop_length rest)))
