-- What a getter of clap reads is the number of the definition.
use Rattle.std.proofs.Common.{◌≡◌, ℕ, Option, Some, None, refl, sym}
use Rattle.std.specs.contracts.prelude.U32FromStr.TheImpl.{from_str_gives-value}
use Rattle.clap.specs.Words.{ReadsOne, Text, one_text, rows_of}
use Rattle.clap.specs.declared.parser.matches.Found.{Found}
use Rattle.clap.proofs.WalkLemmas.{one_text-rows}
use Rattle.fd_arguments.specs.Words.{HasNumber, HasNumberIn}

read_number : (text : Option Text) (number : Option ℕ) → (text ≡ None → number ≡ None)
    → ((t : Text) → text ≡ Some t → ReadsOne from_str_gives-value.it t number) → HasNumberIn text number
read_number None number none read = none refl
read_number (Some t) (Some n) none read = (read t refl).0
read_number (Some t) None none read = (read t refl).1.0

pub has_number : (found : Found) (name : Text) (number : Option ℕ) → (one_text found name ≡ None → number ≡ None)
    → ((t : Text) → one_text found name ≡ Some t → ReadsOne from_str_gives-value.it t number) → HasNumber (rows_of found) name number
has_number found name number none read = rw (sym (one_text-rows found name)) (read_number (one_text found name) number none read)
