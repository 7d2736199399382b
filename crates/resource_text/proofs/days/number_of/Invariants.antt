use Rattle.std.proofs.Common.{◌≡◌, ◌<◌, ◌^◌, drop}
use Rattle.std.specs.List.{AllByRecursion}
use Rattle.resource_text.specs.Days.{IsDigit, digits_from}
use Rattle.resource_text.proofs.days.number_of.Given as goal

-- the digits so far stand for the number, and the others go on from it
abbrev pub invariant-loop-digit : goal.invariant-loop-digit
invariant-loop-digit l =
    (digits_from l.number (drop l.digit-index l.fn.digits) ≡ digits_from 0 l.fn.digits)
    × (AllByRecursion IsDigit (drop l.digit-index l.fn.digits) → AllByRecursion IsDigit l.fn.digits)
    × (AllByRecursion IsDigit l.fn.digits → AllByRecursion IsDigit (drop l.digit-index l.fn.digits))
    × (l.number < 10 ^ l.digit-index)
