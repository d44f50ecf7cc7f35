use Rattle.std.proofs.Common.{◌≡◌, ◌<◌, ◌^◌, drop}
use Rattle.std.specs.Str.Parse.{digits_value, digits_value_after}
use Rattle.fd_words.proofs.command.value.Given as goal

-- the digits to come complete the value
abbrev pub invariant-loop-digit : goal.invariant-loop-digit
invariant-loop-digit l =
    record {
      bound : l.value < 10 ^ l.digit-index;
      value : digits_value_after 10 l.value (drop l.digit-index l.digits) ≡ digits_value 10 l.digits;
    }
