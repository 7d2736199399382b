use Rattle.std.proofs.Common.{◌≡◌, ◌<◌, ◌^◌, true, take, drop}
use Rattle.std.specs.List.{list_all}
use Rattle.std.specs.Char.{is_ascii_digit}
use Rattle.std.specs.Str.Parse.{digits_value, digits_value_after}
use Rattle.desk_request.proofs.framing.number_of.Given as goal

-- the number of the digits so far, each of which is one
abbrev pub invariant-loop-digit : goal.invariant-loop-digit
invariant-loop-digit l = record {
  so_far : digits_value_after 10 l.number (drop l.digit-index l.digits) ≡ digits_value 10 l.digits;
  digits : list_all is_ascii_digit (take l.digit-index l.digits) ≡ true;
  small : l.number < 10 ^ l.digit-index;
}
