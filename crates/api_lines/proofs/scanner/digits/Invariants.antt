use Rattle.std.proofs.Common.{◌≡◌, ◌≤◌, ◌-◌, length, take}
use Rattle.std.specs.Str.Parse.{AllDigits, digits_value}
use Rattle.api_lines.proofs.scanner.digits.Given as goal

abbrev pub invariant-digits : goal.invariant-digits
invariant-digits l = (l.at ≤ 19) × (l.at ≤ length l.bytes) × AllDigits 10 (take l.at l.bytes) × (l.number ≡ digits_value 10 (take l.at l.bytes))

abbrev pub decreases-digits : goal.decreases-digits
decreases-digits l = length l.bytes - l.at
