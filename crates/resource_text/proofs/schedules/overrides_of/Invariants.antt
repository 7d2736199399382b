use Rattle.resource_text.specs.Resources.{IsOverrideText}
use Rattle.resource_text.proofs.Entries.{AreReadSoFar}
use Rattle.resource_text.proofs.schedules.overrides_of.Given as goal

-- those before the place are read
abbrev pub invariant-days : goal.invariant-days
invariant-days l =
    (goal.iterator-days).can_next l.day-iterator ×
    (goal.iterator-days).is_finite l.day-iterator ×
    AreReadSoFar IsOverrideText l.fn.days.entries l.day-iterator l.overrides.items
