-- Promised. What a marker's name is: a short text in UTF-8 without control characters.
use Rattle.std.specs.Prelude.{ℕ, List, length, Result, Ok, Err, Bool, nat_lt, ◌==◌, ◌||◌, if◌then◌else◌}
use Rattle.std.specs.List.{list_any}
use Rattle.fd_events.specs.Limits.{most_label_bytes}
use Rattle.fd_events.specs.declared.label.LabelFault.{LabelFault}
use Rattle.fd_events.specs.declared.label.LabelFault.TheVariants.{TooLong, Control}

-- a byte that is a character below U+0020, or U+007F; no byte of another character has such a value
abbrev pub is_control : ℕ → Bool
is_control b = nat_lt b 32 || (b == 127)

-- the name of this text, or why there is none
abbrev pub labelled : List ℕ → Result (List ℕ) LabelFault
labelled text = if nat_lt most_label_bytes (length text) then Err TooLong else (if list_any is_control text then Err Control else Ok text)
