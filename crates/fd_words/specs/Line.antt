-- Promised. How the input is cut into lines, and which command a line gives.
use Rattle.std.specs.Prelude.{◌≡◌, ◌≢◌, ℕ, ◌-◌, List, [], ◌∷◌, ◌++◌, Result, Err, Bool, true, false, not, length, take, slice_index, if◌then◌else◌, ◌==◌}
use Rattle.std.specs.Prelude.{nat_lt, nat_le, ◌&&◌, codes, filter, Option, Some, None, option_map, option_and_then, ok_or}
use Rattle.std.specs.List.{slice_split, flat_map, AllByRecursion, list_all}
use Rattle.std.specs.Char.{is_ascii_digit}
use Rattle.std.specs.Str.Parse.{digits_value}
use Rattle.std.specs.Str.{bytes_eq}
use Rattle.fd_words.specs.declared.command.Command.{Command}
use Rattle.fd_words.specs.declared.command.Command.TheVariants.{Step, Back, Goto, On, Off, Pixel, History, State, Events, Show, Quit}
use Rattle.fd_words.specs.declared.command.CommandFault.{CommandFault}
use Rattle.fd_words.specs.declared.command.CommandFault.TheVariants.{Unknown, Arguments, TooLong}

-- a line with its line feed
abbrev pub with_line_feed : List ℕ → List ℕ
with_line_feed line = line ++ 10 ∷ []

abbrev pub HasNoLineFeed : List ℕ → Type 0
HasNoLineFeed = AllByRecursion (λ byte. byte ≢ 10)

-- The input is these lines, each with a line feed, and then a rest without one.
pub record Cuts (input : List ℕ) (lines : List (List ℕ)) (rest : List ℕ) : Type 0 where
  pub whole : input ≡ flat_map with_line_feed lines ++ rest
  pub each : AllByRecursion HasNoLineFeed lines
  pub last : HasNoLineFeed rest

-- the line without one carriage return at its end
abbrev pub without_return : List ℕ → List ℕ
without_return line = if slice_index line (length line - 1) == 13 then take (length line - 1) line else line

abbrev pub has_no_byte : List ℕ → Bool
has_no_byte [] = true
has_no_byte (byte ∷ bytes) = false

-- the longest runs of bytes other than the space
abbrev pub words : List ℕ → List (List ℕ)
words text = filter (λ part. not (has_no_byte part)) (slice_split (λ byte. byte == 32) text)

-- the number that a word writes, of one to ten digits, if it fits 32 bits
abbrev pub number_of : List ℕ → Option ℕ
number_of word =
    if nat_le 1 (length word) && nat_le (length word) 10 && list_all is_ascii_digit word && nat_lt (digits_value 10 word) 4294967296
    then Some (digits_value 10 word) else None

-- no argument
abbrev pub no_argument : List (List ℕ) → Option (Unit {0})
no_argument [] = Some tt
no_argument (argument ∷ arguments) = None

-- one number
abbrev pub one_number : List (List ℕ) → Option ℕ
one_number (argument ∷ []) = number_of argument
one_number others = None

-- two numbers
abbrev pub two_numbers : List (List ℕ) → Option (ℕ × ℕ)
two_numbers (first ∷ second ∷ []) = option_and_then (λ x. option_map (λ y. (x, y)) (number_of second)) (number_of first)
two_numbers others = None

abbrev pub with_argument : {X : Type 0} → (X → Command) → Option X → Result Command CommandFault
with_argument command argument = ok_or (option_map command argument) Arguments

-- the command that a word and its arguments give
abbrev pub command_named : List ℕ → List (List ℕ) → Result Command CommandFault
command_named word arguments =
    if bytes_eq word (codes "step") then with_argument (λ _. Step) (no_argument arguments)
    else if bytes_eq word (codes "back") then with_argument (λ _. Back) (no_argument arguments)
    else if bytes_eq word (codes "goto") then with_argument Goto (one_number arguments)
    else if bytes_eq word (codes "on") then with_argument On (one_number arguments)
    else if bytes_eq word (codes "off") then with_argument Off (one_number arguments)
    else if bytes_eq word (codes "pixel") then with_argument (λ place. Pixel place.0 place.1) (two_numbers arguments)
    else if bytes_eq word (codes "history") then with_argument (λ place. History place.0 place.1) (two_numbers arguments)
    else if bytes_eq word (codes "state") then with_argument (λ _. State) (no_argument arguments)
    else if bytes_eq word (codes "events") then with_argument (λ _. Events) (no_argument arguments)
    else if bytes_eq word (codes "show") then with_argument (λ _. Show) (no_argument arguments)
    else if bytes_eq word (codes "quit") then with_argument (λ _. Quit) (no_argument arguments)
    else Err Unknown

abbrev pub command_in : List (List ℕ) → Result Command CommandFault
command_in [] = Err Unknown
command_in (word ∷ arguments) = command_named word arguments

-- the command of a line, which stands here without its line feed
abbrev pub command_of : List ℕ → Result Command CommandFault
command_of line = if nat_lt 256 (length (without_return line)) then Err TooLong else command_in (words (without_return line))
