use Rattle.std.proofs.Common.{◌≡◌, take}
use Rattle.std.specs.Str.Parse.{AllDigits, digits_value}
use Rattle.fd_json.proofs.numeral.digits.Given as goal

abbrev pub invariant-loop-i : goal.invariant-loop-i
invariant-loop-i l = AllDigits 10 (take l.i l.bytes) × (l.value ≡ digits_value 10 (take l.i l.bytes))
