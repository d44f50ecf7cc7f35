-- Promised. What the words of a command line ask for, as clap's definition reads them: the program's subcommands, and their arguments.
use Rattle.std.specs.Prelude.{◌≡◌, ◌<◌, ◌^◌, ℕ, min, max, true, false, codes, [], ◌∷◌, List, Option, Some, None, SomeIff, pos, unwrap_or}
use Rattle.std.specs.Str.{bytes_eq}
use Rattle.std.specs.Str.Parse.{IsNumeral, digits_value, without_leading_plus}
use Rattle.clap.specs.Words.{App, Row, Rule, Shape, Text, first_of, new_rule, one_of}
use Rattle.clap.specs.Simple.{new_shape}
use Rattle.clap.specs.declared.builder.value_parser.ValueParser.TheVariants as parser
use Rattle.fd_words.specs.declared.request.Request.{Request}
use Rattle.fd_words.specs.declared.request.Request.TheVariants.{Run, Image, Events}
use Rattle.fd_arguments.specs.declared.arguments.Arguments.{Arguments}

-- ---- what the words may be

-- a number from the least to the most, behind its name
abbrev pub number_rule : Text → ℕ → ℕ → Rule
number_rule name least most = record (new_rule name) {
  long = Some name;
  value_names = 1;
  parser = Some (parser.Signed (pos least) (pos most));
}

abbrev pub workers_rule : Rule
workers_rule = number_rule (codes "workers") 1 64

abbrev pub at_rule : Rule
at_rule = number_rule (codes "at") 0 4294967295

abbrev pub capture_rule : Rule
capture_rule = record (new_rule (codes "CAPTURE")) { required = true }

abbrev pub subcommand : Text → List Rule → Shape
subcommand name rules = record (new_shape name) { rules = rules }

abbrev pub program : App
program = record {
  top = record (new_shape (codes "framedbg")) { has_version = true; is_leaf = false; subcommand_required = true };
  subs = subcommand (codes "run") (workers_rule ∷ capture_rule ∷ [])
      ∷ subcommand (codes "image") (workers_rule ∷ at_rule ∷ capture_rule ∷ [])
      ∷ subcommand (codes "events") (capture_rule ∷ [])
      ∷ [];
}

-- ---- what they ask for

-- a number below 2^32 in decimal digits, behind a plus or without one
abbrev pub IsNumber : Text → Option ℕ → Type 0
IsNumber text number = SomeIff number (IsNumeral 10 (without_leading_plus text) × (digits_value 10 (without_leading_plus text) < 2 ^ 32))
    (digits_value 10 (without_leading_plus text))

abbrev pub HasNumberIn : Option Text → Option ℕ → Type 0
HasNumberIn None number = number ≡ None
HasNumberIn (Some text) number = IsNumber text number

-- the number that stands behind a name, and none where the name doesn't stand there
abbrev pub HasNumber : List Row → Text → Option ℕ → Type 0
HasNumber rows name number = HasNumberIn (one_of name rows) number

-- 4 workers where none are asked for
abbrev pub HasWorkers : List Row → ℕ → Type 0
HasWorkers rows workers = (asked : Option ℕ) × HasNumber rows (codes "workers") asked × (workers ≡ min 64 (max 1 (unwrap_or asked 4)))

abbrev pub HasRequest : Text → List Row → Request → Type 0
HasRequest name rows (Run workers) = (bytes_eq name (codes "image") ≡ false) × (bytes_eq name (codes "events") ≡ false) × HasWorkers rows workers
HasRequest name rows (Image workers at) = (bytes_eq name (codes "image") ≡ true) × HasWorkers rows workers × HasNumber rows (codes "at") at
HasRequest name rows Events = bytes_eq name (codes "events") ≡ true

-- by the subcommand's name and what stands behind it
pub record Asks (subcommand : Text × List Row) (arguments : Arguments) : Type 0 where
  pub request : HasRequest subcommand.0 subcommand.1 arguments.request
  pub capture : arguments.capture.now ≡ unwrap_or (first_of (codes "CAPTURE") subcommand.1) []
