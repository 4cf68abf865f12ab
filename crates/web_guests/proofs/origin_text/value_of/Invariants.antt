-- The value is that of the digits so far.
use Rattle.std.specs.Prelude.{◌≡◌, take}
use Rattle.std.specs.Str.Parse.{digits_value}
use Rattle.web_guests.proofs.origin_text.value_of.Given as goal

abbrev pub invariant-loop-digit : goal.invariant-loop-digit
invariant-loop-digit l = l.value ≡ digits_value 10 (take l.digit-index l.digits)
